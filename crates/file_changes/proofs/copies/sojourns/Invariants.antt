use Rattle.std.proofs.Common.{◌≡◌, take}
use Rattle.payment_plan.specs.Records.{sojourns_of}
use Rattle.file_changes.proofs.copies.sojourns.Given as goal

abbrev pub invariant-loop-i : goal.invariant-loop-i
invariant-loop-i l = sojourns_of l.sojourns.items ≡ take l.i (sojourns_of l.paid)
