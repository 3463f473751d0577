-- Convolutions of sequences of fractions.
use Rattle.std.specs.Prelude.{ℕ, suc, ◌-◌}
use Rattle.frac_laws.specs.Fraction.{Fraction, ◌*ℚ◌}
use Rattle.frac_laws.specs.Sums.{sum_to}

-- the sum of the products a m * b (k - m), m from 0 to k
abbrev pub convolution : (ℕ → Fraction) → (ℕ → Fraction) → ℕ → Fraction
convolution a b k = sum_to (suc k) (λ m. a m *ℚ b (k - m))
