use Rattle.std.proofs.Common.{◌≡◌}
use Rattle.std.specs.Prelude.{flat_map}
use Rattle.whole_laws.specs.Whole.{places}
use Rattle.joint_life.specs.Moves.{moves_from}
use Rattle.joint_life.proofs.moves.moves_of.Given as goal

abbrev pub invariant-loop-pair : goal.invariant-loop-pair
invariant-loop-pair l = l.moves.items ≡ flat_map (moves_from l.a l.b) (places l.pair)
