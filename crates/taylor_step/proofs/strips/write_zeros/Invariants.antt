use Rattle.std.proofs.Common.{◌≡◌}
use Rattle.taylor_step.proofs.strips.write_zeros.Given as goal
use Rattle.taylor_step.specs.Strips.{put_at, zeros}

abbrev pub invariant-loop-p : goal.invariant-loop-p
invariant-loop-p l = l.strip ≡ put_at l.initial.strip l.at (zeros l.p)
