use Rattle.std.proofs.Common.{◌≡◌, ℕ, ◌+◌, ◌^◌, ◌<◌, ◌≤◌, pos, length, slice_index_or}
use Rattle.std.specs.Prelude.{unsigned_abs}
use Rattle.frac_laws.specs.Rounding.{floor_of}
use Rattle.cell_coeffs.specs.Products.{products_to}
use Rattle.cell_coeffs.proofs.twice.paid_twice_all.Given as goal

abbrev pub invariant-loop-m : goal.invariant-loop-m
invariant-loop-m l = record {
  long : length l.numbers ≡ 12;
  value : (m : ℕ) → m < l.m → slice_index_or l.numbers m (pos 0)
      ≡ floor_of (products_to l.paid l.sum m (m + 1)) (pos (2 ^ 64));
  size : (m : ℕ) → unsigned_abs (slice_index_or l.numbers m (pos 0)) ≤ 2 ^ 63;
}
