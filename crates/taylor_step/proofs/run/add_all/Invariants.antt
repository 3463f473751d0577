use Rattle.std.proofs.Common.{◌≡◌, ◌<◌, ◌≤◌, ◌+ℤ◌, ℕ, pos, get_or}
use Rattle.taylor_step.proofs.run.add_all.Given as goal

abbrev pub invariant-loop-i : goal.invariant-loop-i
invariant-loop-i l = record {
  done : (j : ℕ) → j < l.i → get_or l.sums j (pos 0) ≡ get_or l.initial.sums j (pos 0) +ℤ get_or l.newest j
      (pos 0);
  left : (j : ℕ) → l.i ≤ j → get_or l.sums j (pos 0) ≡ get_or l.initial.sums j (pos 0);
}
