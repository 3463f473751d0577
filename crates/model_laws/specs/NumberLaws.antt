-- What the whole numerators of a month stand for.
use Rattle.std.specs.Prelude.{◌≡◌, ℕ, ℤ, ◌*◌, ◌<◌, ◌≤◌, List, length}
use Rattle.frac_laws.specs.Fraction.{Fraction, over}
use Rattle.frac_laws.specs.Polynomials.{all_over}
use Rattle.frac_laws.specs.Bernstein.{bernstein_coefficient}
use Rattle.model_specs.specs.Cells.{Forward, whole_months, cell_polynomial}
use Rattle.model_specs.specs.MonthNumbers.{bernstein_numerator}

-- the polynomial of the years since a start, over month k since then, by u from 0 to 1
abbrev pub month_polynomial : ℕ → List ℤ → ℕ → List Fraction
month_polynomial den c k = cell_polynomial (whole_months Forward) (all_over den c) k 0

-- a numerator over 2488320 den is the Bernstein coefficient of that polynomial, for a curve's six
-- coefficients
abbrev pub CurveNumeratorsStandForBernstein : Type 0
CurveNumeratorsStandForBernstein = (den k j : ℕ) (c : List ℤ) → 1 ≤ den → j < 6 → length c ≡ 6
    → over (bernstein_numerator c k j) (2488320 * den) ≡ bernstein_coefficient (month_polynomial den c k) j

-- and for a payment's four
abbrev pub PaymentNumeratorsStandForBernstein : Type 0
PaymentNumeratorsStandForBernstein = (k j : ℕ) (c : List ℤ) → j < 6 → length c ≡ 4
    → over (bernstein_numerator c k j) 2488320 ≡ bernstein_coefficient (month_polynomial 1 c k) j
