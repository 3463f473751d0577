use Rattle.std.proofs.Common.{◌≡◌, take}
use Rattle.payment_plan.specs.Records.{sojourns_of}
use Rattle.basis_compare.proofs.copies.sojourns_of.Given as goal

abbrev pub invariant-loop-state : goal.invariant-loop-state
invariant-loop-state l = sojourns_of l.sojourns.items ≡ sojourns_of (take l.state-index l.state-items)
