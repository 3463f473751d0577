use Rattle.std.proofs.Common.{ℕ, ◌<◌, ◌≤◌, pos, get_or}
use Rattle.std.specs.Prelude.{unsigned_abs}
use Rattle.taylor_step.proofs.degree.greatest_size.Given as goal

abbrev pub invariant-loop-i : goal.invariant-loop-i
invariant-loop-i l = record {
  all : (j : ℕ) → j < l.i → unsigned_abs (get_or l.numbers j (pos 0)) ≤ l.greatest;
  least : (most : ℕ) → ((j : ℕ) → unsigned_abs (get_or l.numbers j (pos 0)) ≤ most) → l.greatest ≤ most;
}
