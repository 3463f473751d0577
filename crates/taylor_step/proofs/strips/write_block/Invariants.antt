use Rattle.std.proofs.Common.{◌≡◌, take, map, pos, get_or}
use Rattle.taylor_step.proofs.strips.write_block.Given as goal
use Rattle.taylor_step.specs.Strips.{put_at}

abbrev pub invariant-loop-p : goal.invariant-loop-p
invariant-loop-p l = l.strip ≡ put_at l.initial.strip l.at
    (map (λ c. get_or l.newest c (pos 0)) (take l.p l.columns))
