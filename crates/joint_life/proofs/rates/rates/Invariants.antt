use Rattle.std.proofs.Common.{◌≡◌, map, take}
use Rattle.product_model.specs.Views.{curve_of}
use Rattle.joint_life.specs.JointRecord.{joint_of}
use Rattle.joint_life.specs.Moves.{transition_of}
use Rattle.joint_life.proofs.rates.rates.Given as goal

abbrev pub invariant-loop-i : goal.invariant-loop-i
invariant-loop-i l = l.rates.items
    ≡ map (λ at. curve_of (joint_of l.a l.b) (transition_of l.a l.b at).rate) (take l.i l.moves)
