use Rattle.std.proofs.Common.{◌≡◌, map, take}
use Rattle.payment_plan.specs.Records.{sojourns_of}
use Rattle.joint_life.proofs.Records.{joint_sojourn}
use Rattle.joint_life.proofs.payments.sojourns.Given as goal

abbrev pub invariant-loop-i : goal.invariant-loop-i
invariant-loop-i l = sojourns_of l.sojourns.items ≡ map (joint_sojourn l.b) (take l.i (sojourns_of l.paid))
