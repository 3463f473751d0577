use Rattle.std.proofs.Common.{◌≡◌, map, take}
use Rattle.payment_plan.specs.Records.{lumps_of}
use Rattle.joint_life.proofs.Records.{joint_lump}
use Rattle.joint_life.proofs.payments.lumps.Given as goal

abbrev pub invariant-loop-i : goal.invariant-loop-i
invariant-loop-i l = lumps_of l.lumps.items ≡ map (joint_lump l.b) (take l.i (lumps_of l.paid))
