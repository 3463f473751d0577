use Rattle.std.proofs.Common.{◌≡◌, take}
use Rattle.std.specs.Prelude.{false}
use Rattle.payment_plan.specs.Records.{lumps_of}
use Rattle.file_changes.specs.Charges as charges
use Rattle.file_changes.proofs.completing.has_lump.Given as goal

abbrev pub invariant-loop-i : goal.invariant-loop-i
invariant-loop-i l = charges.has_lump (take l.i (lumps_of l.lumps)) l.date l.state ≡ false
