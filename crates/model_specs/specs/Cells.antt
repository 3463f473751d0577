-- The curves and payments of a cell as polynomials of x from 0 to 1. A year has 12 months; a month has
-- 32 cells, or one where whole months are cells. This product's own.
use Rattle.std.specs.Prelude.{ℕ, suc, ◌+◌, ◌-◌, ◌*◌, ℤ, pos, negsuc, ◌==◌, ◌&&◌, List, [], length}
use Rattle.std.specs.Prelude.{Option, find, option_map, unwrap_or}
use Rattle.frac_laws.specs.Fraction.{Fraction, over}
use Rattle.frac_laws.specs.Lists.{scale_list}
use Rattle.frac_laws.specs.Polynomials.{shifted, stretched, all_over}
use Rattle.named_numbers.specs.Numbers.{months_of_year, cells_of_month}
use Rattle.whole_laws.specs.Whole.{places}
use Rattle.model_specs.specs.Curve.{Piece, piece_at}
use Rattle.model_specs.specs.Product.{Product, Step, transition_at}
use Rattle.model_specs.specs.Payments.{Plan, sojourn_at, sum_at}

-- forward, x counts from the cell's start; backward, it counts from the cell's end into the past
pub data Direction : Type 0 where
  Forward : Direction
  Backward : Direction

-- 1 or -1: x runs with the time or against it
abbrev pub sign_of : Direction → ℤ
sign_of Forward = pos 1
sign_of Backward = negsuc 0

-- where x is 0, for the cell at a place: its start or its end, in cells
abbrev pub origin_of : Direction → ℕ → ℕ
origin_of Forward cell = cell
origin_of Backward cell = suc cell

-- which cells there are: how many in a month, and whether x counts forward or backward
pub record Grid : Type 0 where
  pub cells : ℕ
  pub direction : Direction

-- the grid of the runs: 32 cells in a month
abbrev pub cells_of_32 : Direction → Grid
cells_of_32 direction = record { cells = cells_of_month; direction = direction }

-- the grid of whole months: each month is one cell
abbrev pub whole_months : Direction → Grid
whole_months direction = record { cells = 1; direction = direction }

-- f(b + h x), or f(b - h x) backward: a polynomial of the years since a start that is some months back,
-- over one cell of the month; h is the cell's length in years, and b is where x is 0
abbrev pub cell_polynomial : Grid → List Fraction → ℕ → ℕ → List Fraction
cell_polynomial grid f months cell =
    stretched (over (sign_of grid.direction) (months_of_year * grid.cells))
    (shifted (over (pos (origin_of grid.direction (months * grid.cells + cell))) (months_of_year * grid.cells)) f)

-- what a year's rate is for a cell: times the cell's length in years
abbrev pub per_cell : Grid → List Fraction → List Fraction
per_cell grid rate = scale_list (over (pos 1) (months_of_year * grid.cells)) rate

-- a curve in a cell of a month
abbrev pub curve_cell : Grid → ℕ → List Piece → ℕ → ℕ → List Fraction
curve_cell grid den pieces month cell =
    let piece = piece_at pieces month in
    per_cell grid (cell_polynomial grid (all_over den piece.c) (month - piece.from) cell)

-- the amount of a step in a cell of a month, in minor units (a year, for a sojourn)
abbrev pub amount_cell : Grid → Step → ℕ → ℕ → List Fraction
amount_cell grid step month cell = cell_polynomial grid (all_over 1 step.c) (month - step.from) cell

-- the transition from one state to another, if there is one
abbrev pub transition_between : Product → ℕ → ℕ → Option ℕ
transition_between product i j =
    find (λ e. ((transition_at product e).from == i) && ((transition_at product e).to == j))
    (places (length product.transitions))

-- the coefficients of x^0, x^1, .. in a cell: r of the force of interest, mu of the intensity from a state to
-- another, b of the sojourn rate of a state, and b of the sum that a transition pays
pub record CellCurves : Type 0 where
  pub states : ℕ
  pub interest : List Fraction
  pub intensity : ℕ → ℕ → List Fraction
  pub sojourn : ℕ → List Fraction
  pub sum : ℕ → ℕ → List Fraction

-- those of a product and a plan, in a cell of a month
abbrev pub cell_curves : Grid → Product → Plan → ℕ → ℕ → CellCurves
cell_curves grid product plan month cell = record {
  states = length product.states;
  interest = curve_cell grid product.den product.interest month cell;
  intensity = λ i j. unwrap_or (option_map
      (λ e. curve_cell grid product.den (transition_at product e).rate month cell)
      (transition_between product i j)) [];
  sojourn = λ i. per_cell grid (amount_cell grid (sojourn_at plan i month) month cell);
  sum = λ i j. unwrap_or (option_map (λ e. amount_cell grid (sum_at plan e month) month cell)
      (transition_between product i j)) [];
}
