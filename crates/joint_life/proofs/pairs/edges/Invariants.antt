use Rattle.std.proofs.Common.{◌≡◌, ℕ, map, take}
use Rattle.joint_life.specs.Moves.{transition_of}
use Rattle.joint_life.proofs.pairs.edges.Given as goal

abbrev pub invariant-loop-i : goal.invariant-loop-i
invariant-loop-i l =
    l.edges.items ≡ map {B = ℕ × ℕ} (λ at. (at.pair, (transition_of l.a l.b at).to)) (take l.i l.moves)
