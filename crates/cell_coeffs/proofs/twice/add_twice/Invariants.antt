use Rattle.std.proofs.Common.{◌≡◌, ℕ, ◌<◌, ◌≤◌, pos, length, slice_index_or}
use Rattle.std.specs.Prelude.{◌+ℤ◌}
use Rattle.cell_coeffs.proofs.twice.add_twice.Given as goal

abbrev pub invariant-loop-m : goal.invariant-loop-m
invariant-loop-m l = record {
  long : length l.numbers ≡ 12;
  done : (m : ℕ) → m < l.m → slice_index_or l.numbers m (pos 0)
      ≡ slice_index_or l.initial.numbers m (pos 0) +ℤ slice_index_or l.more m (pos 0);
  kept : (m : ℕ) → l.m ≤ m → slice_index_or l.numbers m (pos 0) ≡ slice_index_or l.initial.numbers m (pos 0);
}
