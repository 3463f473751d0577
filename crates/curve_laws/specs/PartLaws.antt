-- A polynomial of degree five over a part of [0, 1], from its Bernstein coefficients.
use Rattle.std.specs.Prelude.{◌≡◌, ℕ, zero, suc, pos, ◌*◌, ◌^◌, ◌≤◌, List, [], ◌∷◌, length}
use Rattle.frac_laws.specs.Fraction.{Fraction, over, whole, size, ◌+ℚ◌, ◌-ℚ◌, ◌*ℚ◌, ◌≤ℚ◌}
use Rattle.frac_laws.specs.Sums.{power}
use Rattle.frac_laws.specs.Lists.{number_at}
use Rattle.frac_laws.specs.Polynomials.{shifted, stretched}
use Rattle.frac_laws.specs.Bernstein.{binomial, bernstein_coefficient}

-- p(s + d x): x from 0 to 1 runs over the part of [0, 1] from s to s + d
abbrev pub part_of : Fraction → Fraction → List Fraction → List Fraction
part_of s d p = stretched d (shifted s p)

-- how great the coefficient of x^m can be over a part of length h, where the Bernstein coefficients of degree n
-- are of at most a size and at most so far apart: C(n, m) 2^(m-1) h^m times how far, for m above 0
abbrev pub coefficient_bound : ℕ → Fraction → Fraction → Fraction → ℕ → Fraction
coefficient_bound n h most apart zero = most
coefficient_bound n h most apart (suc m) = whole (pos (binomial n (suc m) * 2 ^ m)) *ℚ power h (suc m) *ℚ apart

-- the sum of p_m / (i + m + 1)
abbrev pub weighted_mean : ℕ → List Fraction → Fraction
weighted_mean i [] = whole (pos 0)
weighted_mean i (c ∷ p) = over (pos 1) (suc i) *ℚ c +ℚ weighted_mean (suc i) p

-- the mean of p over [0, 1]
abbrev pub mean_of : List Fraction → Fraction
mean_of p = weighted_mean 0 p

-- the coefficients over a part, power by power
abbrev pub PartsHaveSmallCoefficients : Type 0
PartsHaveSmallCoefficients = (p : List Fraction) (s d h most apart : Fraction) → length p ≡ 6
    → whole (pos 0) ≤ℚ s → s ≤ℚ whole (pos 1) → size d ≤ℚ h
    → ((j : ℕ) → j ≤ 5 → size (bernstein_coefficient p j) ≤ℚ most)
    → ((i j : ℕ) → i ≤ 5 → j ≤ 5 → size (bernstein_coefficient p i -ℚ bernstein_coefficient p j) ≤ℚ apart)
    → (m : ℕ) → size (number_at (part_of s d p) m) ≤ℚ coefficient_bound 5 h most apart m

-- the mean over a part that lies in [0, 1]
abbrev pub PartsKeepMeans : Type 0
PartsKeepMeans = (p : List Fraction) (s d low high : Fraction) → length p ≡ 6
    → whole (pos 0) ≤ℚ s → s ≤ℚ whole (pos 1) → whole (pos 0) ≤ℚ s +ℚ d → s +ℚ d ≤ℚ whole (pos 1)
    → ((j : ℕ) → j ≤ 5 → low ≤ℚ bernstein_coefficient p j)
    → ((j : ℕ) → j ≤ 5 → bernstein_coefficient p j ≤ℚ high)
    → (low ≤ℚ mean_of (part_of s d p)) × (mean_of (part_of s d p) ≤ℚ high)

-- its sign
abbrev pub PartsKeepSigns : Type 0
PartsKeepSigns = (p : List Fraction) (s d : Fraction) → length p ≡ 6
    → whole (pos 0) ≤ℚ s → s ≤ℚ whole (pos 1) → whole (pos 0) ≤ℚ s +ℚ d → s +ℚ d ≤ℚ whole (pos 1)
    → ((j : ℕ) → j ≤ 5 → whole (pos 0) ≤ℚ bernstein_coefficient p j)
    → whole (pos 0) ≤ℚ mean_of (part_of s d p)
