use Rattle.std.proofs.Common.{◌≡◌, map, take}
use Rattle.payment_plan.specs.Records.{sums_of}
use Rattle.joint_life.specs.Moves.{transition_of}
use Rattle.joint_life.proofs.payments.sums.Given as goal

abbrev pub invariant-loop-i : goal.invariant-loop-i
invariant-loop-i l = sums_of l.sums.items ≡ map (λ at. (transition_of l.a l.b at).sum) (take l.i l.moves)
