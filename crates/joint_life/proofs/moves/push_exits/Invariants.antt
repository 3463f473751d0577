use Rattle.std.proofs.Common.{◌≡◌, ◌++◌, map, take}
use Rattle.joint_life.specs.Moves.{move_by}
use Rattle.joint_life.proofs.moves.push_exits.Given as goal

abbrev pub invariant-loop-i : goal.invariant-loop-i
invariant-loop-i l = l.moves.items ≡ l.fn.moves.items
    ++ map (move_by l.life l.pair) (take l.i (map (λ exit. exit.transition) l.exits))
