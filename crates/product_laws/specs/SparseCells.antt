-- The systems of a product's cell have numbers only on the diagonal and where the product has transitions, and each has
-- the degree of its job: 5 for probabilities, 8 for first moments and 11 for both.
use Rattle.std.specs.Prelude.{◌≡◌, ◌≢◌, ℕ, pos, ◌<◌, None, List, [], length}
use Rattle.frac_laws.specs.Fraction.{Fraction, whole}
use Rattle.frac_laws.specs.Lists.{Matrix, number_at, vector_at, matrix_at}
use Rattle.model_specs.specs.Product.{Product}
use Rattle.model_specs.specs.Payments.{Plan}
use Rattle.model_specs.specs.Cells.{CellCurves, Grid, cell_curves, transition_between}
use Rattle.model_specs.specs.Systems.{thiele_system, second_moment_system, norberg_pair, kolmogorov_system}

-- the number of a power, row and column
abbrev pub entry_at : List Matrix → ℕ → ℕ → ℕ → Fraction
entry_at matrices m row column = number_at (vector_at (matrix_at matrices m) row) column

-- where no transition leads from one state to another, a row has nothing in the other's column; forward, where rows are
-- the states that are reached, a column has nothing in its row
pub record IsSparse (product : Product) (cell : CellCurves) : Type 0 where
  pub thiele : (m i j : ℕ) → i < length product.states → j < length product.states → i ≢ j
      → transition_between product i j ≡ None → entry_at (thiele_system cell).matrices m i j ≡ whole (pos 0)
  pub second : (m i j : ℕ) → i < length product.states → j < length product.states → i ≢ j
      → transition_between product i j ≡ None → entry_at (second_moment_system cell).matrices m i j ≡ whole (pos 0)
  pub coupling : (m i j : ℕ) → i < length product.states → j < length product.states → i ≢ j
      → transition_between product i j ≡ None → entry_at (norberg_pair cell).coupling m i j ≡ whole (pos 0)
  pub kolmogorov : (m i j : ℕ) → i < length product.states → j < length product.states → i ≢ j
      → transition_between product i j ≡ None → entry_at (kolmogorov_system cell).matrices m j i ≡ whole (pos 0)

-- lists that have nothing beyond a power
abbrev pub HasDegree : {A : Type 0} → ℕ → (ℕ → List A) → Type 0
HasDegree degree at = (m : ℕ) → degree < m → at m ≡ []

-- the degrees of the three jobs
pub record HasJobDegrees (cell : CellCurves) : Type 0 where
  pub probabilities : HasDegree 5 (matrix_at (kolmogorov_system cell).matrices)
  pub nothing_free : (m : ℕ) → vector_at (kolmogorov_system cell).free m ≡ []
  pub first : HasDegree 5 (matrix_at (thiele_system cell).matrices)
  pub first_free : HasDegree 8 (vector_at (thiele_system cell).free)
  pub second : HasDegree 5 (matrix_at (second_moment_system cell).matrices)
  pub coupling : HasDegree 8 (matrix_at (norberg_pair cell).coupling)
  pub second_free : HasDegree 11 (vector_at (second_moment_system cell).free)

-- in each cell of any grid, of any plan
abbrev pub CellsAreSparse : Type 0
CellsAreSparse = (grid : Grid) (product : Product) (plan : Plan) (month cell : ℕ)
    → IsSparse product (cell_curves grid product plan month cell)

-- every cell has these degrees
abbrev pub CellsHaveJobDegrees : Type 0
CellsHaveJobDegrees = (cell : CellCurves) → HasJobDegrees cell
