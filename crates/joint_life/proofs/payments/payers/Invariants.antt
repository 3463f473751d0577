use Rattle.std.proofs.Common.{◌≡◌, map, take}
use Rattle.joint_life.specs.JointRecord.{pair_of}
use Rattle.joint_life.proofs.payments.payers.Given as goal

abbrev pub invariant-loop-i : goal.invariant-loop-i
invariant-loop-i l = l.payers.items ≡ map (λ i. pair_of l.b i l.b.start) (take l.i l.a.pattern.payers)
