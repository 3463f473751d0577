use Rattle.std.proofs.Common.{◌≡◌, take}
use Rattle.std.specs.Prelude.{false}
use Rattle.payment_plan.specs.Records.{sojourns_of}
use Rattle.file_changes.specs.ContinuousCharges as charges
use Rattle.file_changes.proofs.sojourners.has_sojourn.Given as goal

abbrev pub invariant-loop-i : goal.invariant-loop-i
invariant-loop-i l = charges.has_sojourn (take l.i (sojourns_of l.sojourns)) l.state ≡ false
