-- What stands at each place of the three systems of a cell, and how long their lists and those of the runs
-- are.
use Rattle.std.specs.Prelude.{◌≡◌, ℕ, ◌<◌, ◌≤◌, Some, length}
use Rattle.frac_laws.specs.Fraction.{opposite, ◌+ℚ◌}
use Rattle.frac_laws.specs.Sums.{sum_to}
use Rattle.frac_laws.specs.Lists.{number_at, vector_at, matrix_at}
use Rattle.cell_laws.specs.Systems.{KeepsDimension}
use Rattle.model_specs.specs.Product.{Product, transition_at}
use Rattle.model_specs.specs.Payments.{Plan}
use Rattle.model_specs.specs.RecordRules.{HasGoodTransitions}
use Rattle.model_specs.specs.Cells.{CellCurves, Grid, transition_between}
use Rattle.model_specs.specs.Systems.{intensity_at, sojourn_rate_at, leaving_at, first_payment_at}
use Rattle.model_specs.specs.Systems.{second_payment_at, backward_entry, coupling_entry, where_same}
use Rattle.model_specs.specs.Systems.{thiele_system, second_moment_system, norberg_pair, kolmogorov_system}
use Rattle.model_specs.specs.Runs.{first_before_term, moments_before_term, probabilities}

-- the numbers of the matrices and of the free vectors, by power, row and column
pub record HasEntries (cell : CellCurves) : Type 0 where
  pub thiele : (m i j : ℕ) → m < 6 → i < cell.states → j < cell.states
      → number_at (vector_at (matrix_at (thiele_system cell).matrices m) i) j ≡ backward_entry cell 1 m i j
  pub thiele_free : (m i : ℕ) → m < 9 → i < cell.states
      → number_at (vector_at (thiele_system cell).free m) i
      ≡ sojourn_rate_at cell i m +ℚ sum_to cell.states (λ j. first_payment_at cell i j m)
  pub second : (m i j : ℕ) → m < 6 → i < cell.states → j < cell.states
      → number_at (vector_at (matrix_at (second_moment_system cell).matrices m) i) j
      ≡ backward_entry cell 2 m i j
  pub second_free : (m i : ℕ) → m < 12 → i < cell.states
      → number_at (vector_at (second_moment_system cell).free m) i
      ≡ sum_to cell.states (λ j. second_payment_at cell i j m)
  pub coupling : (m i j : ℕ) → m < 9 → i < cell.states → j < cell.states
      → number_at (vector_at (matrix_at (norberg_pair cell).coupling m) i) j ≡ coupling_entry cell m i j
  pub kolmogorov : (m j i : ℕ) → m < 6 → j < cell.states → i < cell.states
      → number_at (vector_at (matrix_at (kolmogorov_system cell).matrices m) j) i
      ≡ intensity_at cell i j m +ℚ where_same j i (opposite (leaving_at cell j m))

-- no list is longer than there are states
pub record KeepsStates (cell : CellCurves) : Type 0 where
  pub thiele : KeepsDimension (thiele_system cell)
  pub second : KeepsDimension (second_moment_system cell)
  pub coupling : (m : ℕ) → length (matrix_at (norberg_pair cell).coupling m) ≤ cell.states
  pub kolmogorov : KeepsDimension (kolmogorov_system cell)

-- the systems of each cell have these numbers
abbrev pub SystemsHaveEntries : Type 0
SystemsHaveEntries = (cell : CellCurves) → HasEntries cell

-- and their lists have these lengths
abbrev pub SystemsKeepStates : Type 0
SystemsKeepStates = (cell : CellCurves) → KeepsStates cell

-- the vectors of the runs have a number for each state at most
abbrev pub RunsKeepStates : Type 0
RunsKeepStates = (grid : Grid) (product : Product) (plan : Plan) (n k : ℕ)
    → (length (first_before_term grid product plan n k) ≤ length product.states)
    × (length (moments_before_term product plan n k).second ≤ length product.states)
    × (length (probabilities product n k) ≤ length product.states)

-- where no two transitions have the same pair of states, each is the transition between its states
abbrev pub TransitionsAreFound : Type 0
TransitionsAreFound = (product : Product) (e : ℕ) → HasGoodTransitions product
    → e < length product.transitions
    → transition_between product (transition_at product e).from (transition_at product e).to ≡ Some e
