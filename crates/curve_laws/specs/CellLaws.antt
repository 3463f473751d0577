-- The cells of a month are parts of it: their coefficients and means, from the month's Bernstein coefficients.
use Rattle.std.specs.Prelude.{◌≡◌, ℕ, pos, ◌<◌, ◌≤◌, List, length}
use Rattle.frac_laws.specs.Fraction.{Fraction, over, size, ◌-ℚ◌, ◌≤ℚ◌}
use Rattle.frac_laws.specs.Lists.{number_at}
use Rattle.frac_laws.specs.Bernstein.{bernstein_coefficient}
use Rattle.model_specs.specs.Cells.{Grid, Forward, whole_months, cell_polynomial}
use Rattle.curve_laws.specs.PartLaws.{coefficient_bound, mean_of}

-- a polynomial of the years since a start, over month k since then
abbrev pub over_month : List Fraction → ℕ → List Fraction
over_month p k = cell_polynomial (whole_months Forward) p k 0

-- the coefficient of x^m in a cell of a month of N cells, for a polynomial of degree five: at most C(5, m)
-- 2^(m-1) / N^m
-- times how far the month's Bernstein coefficients are apart, for m above 0
abbrev pub CellsHaveSmallCoefficients : Type 0
CellsHaveSmallCoefficients = (grid : Grid) (p : List Fraction) (k cell : ℕ) (most apart : Fraction) → length p ≡ 6
    → cell < grid.cells
    → ((j : ℕ) → j ≤ 5 → size (bernstein_coefficient (over_month p k) j) ≤ℚ most)
    → ((i j : ℕ) → i ≤ 5 → j ≤ 5
    → size (bernstein_coefficient (over_month p k) i -ℚ bernstein_coefficient (over_month p k) j) ≤ℚ apart)
    → (m : ℕ) → size (number_at (cell_polynomial grid p k cell) m)
    ≤ℚ coefficient_bound 5 (over (pos 1) grid.cells) most apart m

-- the mean over a cell lies between bounds of the month's Bernstein coefficients
abbrev pub CellsKeepMeans : Type 0
CellsKeepMeans = (grid : Grid) (p : List Fraction) (k cell : ℕ) (low high : Fraction) → length p ≡ 6
    → cell < grid.cells
    → ((j : ℕ) → j ≤ 5 → low ≤ℚ bernstein_coefficient (over_month p k) j)
    → ((j : ℕ) → j ≤ 5 → bernstein_coefficient (over_month p k) j ≤ℚ high)
    → (low ≤ℚ mean_of (cell_polynomial grid p k cell)) × (mean_of (cell_polynomial grid p k cell) ≤ℚ high)
