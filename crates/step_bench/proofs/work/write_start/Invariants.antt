use Rattle.std.proofs.Common.{ℕ, ◌<◌, ◌≤◌, ◌^◌, pos, get_or, unsigned_abs}
use Rattle.step_bench.proofs.work.write_start.Given as goal

abbrev pub invariant-loop-i : goal.invariant-loop-i
invariant-loop-i l = (j : ℕ) → j < l.i → unsigned_abs (get_or l.mid j (pos 0)) ≤ 2 ^ 65
