-- Sums whose terms are named.
use Rattle.std.specs.Prelude.{◌≡◌, ℕ, ◌<◌}
use Rattle.frac_laws.specs.Fraction.{Fraction, ◌≤ℚ◌}
use Rattle.frac_laws.specs.Sums.{sum_to}
use Rattle.frac_laws.proofs.Sums.{sum_to_ext, sum_to_mono}

pub sums_equal : (n : ℕ) (f g : ℕ → Fraction) → ((k : ℕ) → k < n → f k ≡ g k) → sum_to n f ≡ sum_to n g
sums_equal n f g h = sum_to_ext n {f = f} {g = g} h

pub sums_ordered : (n : ℕ) (f g : ℕ → Fraction) → ((k : ℕ) → k < n → f k ≤ℚ g k) → sum_to n f ≤ℚ sum_to n g
sums_ordered n f g h = sum_to_mono n {f = f} {g = g} h
