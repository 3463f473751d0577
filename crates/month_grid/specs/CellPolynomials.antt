-- Thiele's system of a cell by polynomials, and how the cells of a month are parts of one another.
use Rattle.std.specs.Prelude.{◌≡◌, ℕ, pos, negsuc, ◌==◌, if◌then◌else◌, List, [], ◌<◌, ◌-◌}
use Rattle.frac_laws.specs.Fraction.{Fraction, whole, ◌*ℚ◌}
use Rattle.frac_laws.specs.Sums.{power}
use Rattle.frac_laws.specs.Lists.{number_at, add_lists, scale_list}
use Rattle.frac_laws.specs.ListProducts.{product_of_lists}
use Rattle.frac_laws.specs.Polynomials.{shifted}
use Rattle.model_specs.specs.Product.{Product}
use Rattle.model_specs.specs.Payments.{Plan}
use Rattle.model_specs.specs.Cells.{CellCurves, Backward, cells_of_32, whole_months, cell_curves}
use Rattle.model_specs.specs.Systems.{thiele_system}
use Rattle.model_laws.specs.Equations.{IsQuintic}
use Rattle.cell_bounds.specs.ScaledSystems.{scaled_system}
use Rattle.polynomial_runs.specs.PolynomialSystems.{HasPolynomials, added}
use Rattle.polynomial_runs.specs.MonthPolynomials.{IsMagnified}

-- a polynomial on the diagonal, and none elsewhere
abbrev pub diagonal : ℕ → ℕ → List Fraction → List Fraction
diagonal i j p = if i == j then p else []

-- row i and column j of Thiele's matrices: mu_ij, and on the diagonal -(r + mu_i)
abbrev pub entry_polynomial : CellCurves → ℕ → ℕ → List Fraction
entry_polynomial cell i j = add_lists (cell.intensity i j) (diagonal i j
    (scale_list (whole (negsuc 0)) (add_lists cell.interest (added cell.states (cell.intensity i)))))

-- what is paid in state i, times c: b_i + sum of mu_ij b_ij
abbrev pub free_polynomial : Fraction → CellCurves → ℕ → List Fraction
free_polynomial c cell i = scale_list c
    (add_lists (cell.sojourn i) (added cell.states (λ j. product_of_lists (cell.intensity i j) (cell.sum i j))))

-- the curves and payments of one cell, moved by b
pub record IsMoved (b : Fraction) (cell moved : CellCurves) : Type 0 where
  pub states : moved.states ≡ cell.states
  pub interest : moved.interest ≡ shifted b cell.interest
  pub intensity : (i j : ℕ) → moved.intensity i j ≡ shifted b (cell.intensity i j)
  pub sojourn : (i : ℕ) → moved.sojourn i ≡ shifted b (cell.sojourn i)
  pub sum : (i j : ℕ) → moved.sum i j ≡ shifted b (cell.sum i j)

-- the same polynomials over a cell w times as long: rates are w times as large, sums are not
pub record IsLonger (w : Fraction) (cell long : CellCurves) : Type 0 where
  pub states : long.states ≡ cell.states
  pub interest : IsMagnified w cell.interest long.interest
  pub intensity : (i j : ℕ) → IsMagnified w (cell.intensity i j) (long.intensity i j)
  pub sojourn : (i : ℕ) → IsMagnified w (cell.sojourn i) (long.sojourn i)
  pub sum : (i j m : ℕ) → number_at (long.sum i j) m ≡ power w m *ℚ number_at (cell.sum i j) m

-- Thiele's system of a moved cell has the moved polynomials
abbrev pub MovedCellsHavePolynomials : Type 0
MovedCellsHavePolynomials = (c b : Fraction) (cell moved : CellCurves) → IsQuintic moved → IsMoved b cell moved
    → HasPolynomials (scaled_system c (thiele_system moved)) cell.states
    (λ i j. shifted b (entry_polynomial cell i j)) (λ i. shifted b (free_polynomial c cell i))

-- the system of a cell whose curves are quintics has the polynomials of its curves
abbrev pub CellsHavePolynomials : Type 0
CellsHavePolynomials = (c : Fraction) (cell : CellCurves) → IsQuintic cell
    → HasPolynomials (scaled_system c (thiele_system cell)) cell.states (entry_polynomial cell)
    (free_polynomial c cell)

-- the polynomials of a longer cell are magnified
abbrev pub LongerCellsAreMagnified : Type 0
LongerCellsAreMagnified = (c w : Fraction) (cell long : CellCurves) → IsLonger w cell long
    → ((i j : ℕ) → IsMagnified w (entry_polynomial cell i j) (entry_polynomial long i j))
    × ((i : ℕ) → IsMagnified w (free_polynomial c cell i) (free_polynomial c long i))

-- cell 31 - b of a month is the last cell moved by b, and the whole month is the last cell made 32 times as long
abbrev pub CellsOfMonthsMove : Type 0
CellsOfMonthsMove = (product : Product) (plan : Plan) (month cell : ℕ) → cell < 32
    → IsMoved (whole (pos (31 - cell))) (cell_curves (cells_of_32 Backward) product plan month 31)
    (cell_curves (cells_of_32 Backward) product plan month cell)

-- a whole month as one cell is its last cell made 32 times as long
abbrev pub MonthsAreLonger : Type 0
MonthsAreLonger = (product : Product) (plan : Plan) (month : ℕ)
    → IsLonger (whole (pos 32)) (cell_curves (cells_of_32 Backward) product plan month 31)
    (cell_curves (whole_months Backward) product plan month 0)
