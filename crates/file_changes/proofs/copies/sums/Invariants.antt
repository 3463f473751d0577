use Rattle.std.proofs.Common.{◌≡◌, take}
use Rattle.payment_plan.specs.Records.{sums_of}
use Rattle.file_changes.proofs.copies.sums.Given as goal

abbrev pub invariant-loop-transition : goal.invariant-loop-transition
invariant-loop-transition l = sums_of l.sums.items ≡ take l.transition l.plan.sums
