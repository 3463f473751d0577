-- Cells whose curves and payments have the same numbers have the same equation.
use Rattle.std.specs.Prelude.{◌≡◌, ℕ, suc, pos, ◌-◌, ◌<◌, List, length}
use mathlib.Core.Path.{ap₂}
use Rattle.frac_laws.specs.Fraction.{whole, opposite, ◌+ℚ◌, ◌*ℚ◌}
use Rattle.frac_laws.specs.Sums.{sum_to}
use Rattle.frac_laws.specs.Lists.{Vector, Matrix}
use Rattle.frac_laws.proofs.Sums.{sum_to_ext}
use Rattle.cell_laws.specs.Systems.{System}
use Rattle.whole_laws.proofs.ListsByPlace.{list_of-agree}
use Rattle.model_specs.specs.Product.{Product}
use Rattle.model_specs.specs.Payments.{Plan}
use Rattle.model_specs.specs.Cells.{CellCurves, Grid, cell_curves}
use Rattle.model_specs.specs.Systems.{interest_at, intensity_at, sojourn_rate_at, sum_paid_at, leaving_at}
use Rattle.model_specs.specs.Systems.{first_payment_at, where_same, backward_entry, matrix_of, vector_of, thiele_system}

-- the same number at each power
pub record HaveSameNumbers (a b : CellCurves) : Type 0 where
  pub interest : (m : ℕ) → interest_at a m ≡ interest_at b m
  pub intensity : (i j m : ℕ) → intensity_at a i j m ≡ intensity_at b i j m
  pub sojourn : (i m : ℕ) → i < a.states → sojourn_rate_at a i m ≡ sojourn_rate_at b i m
  pub sums : (i j m : ℕ) → sum_paid_at a i j m ≡ sum_paid_at b i j m

-- a system of so many numbers
abbrev system_of : ℕ → List Matrix → List Vector → System
system_of dimension matrices free = record { dimension = dimension; matrices = matrices; free = free }

module _ (grid : Grid) (product : Product) (plan : Plan) (month cell other place : ℕ)
    (same : HaveSameNumbers (cell_curves grid product plan month cell) (cell_curves grid product plan other place))
  where
    abbrev states : ℕ
    states = length product.states

    abbrev a : CellCurves
    a = cell_curves grid product plan month cell

    abbrev b : CellCurves
    b = cell_curves grid product plan other place

    leaving_same : (i m : ℕ) → leaving_at a i m ≡ leaving_at b i m
    leaving_same i m = sum_to_ext states (λ j inside. same.intensity i j m)

    entry_same : (m i j : ℕ) → backward_entry a 1 m i j ≡ backward_entry b 1 m i j
    entry_same m i j = ap₂ ◌+ℚ◌ (same.intensity i j m)
        (ap₂ (λ r l. where_same i j (opposite (whole (pos 1) *ℚ r +ℚ l))) (same.interest m) (leaving_same i m))

    paid_same : (i j m : ℕ) → first_payment_at a i j m ≡ first_payment_at b i j m
    paid_same i j m = sum_to_ext (suc m) (λ k inside. ap₂ ◌*ℚ◌ (same.intensity i j k) (same.sums i j (m - k)))

    free_same : (m i : ℕ) → i < states
        → sojourn_rate_at a i m +ℚ sum_to states (λ j. first_payment_at a i j m)
        ≡ sojourn_rate_at b i m +ℚ sum_to states (λ j. first_payment_at b i j m)
    free_same m i inside =
        ap₂ ◌+ℚ◌ (same.sojourn i m inside) (sum_to_ext states (λ j below. paid_same i j m))

    pub thiele_same : thiele_system a ≡ thiele_system b
    thiele_same = ap₂ (system_of states)
        (list_of-agree 6 (λ m. matrix_of states (backward_entry a 1 m)) (λ m. matrix_of states (backward_entry b 1 m))
        (λ m low. list_of-agree states _ _
        (λ i row. list_of-agree states (backward_entry a 1 m i) (backward_entry b 1 m i) (λ j col. entry_same m i j))))
        (list_of-agree 9
        (λ m. vector_of states (λ i. sojourn_rate_at a i m +ℚ sum_to states (λ j. first_payment_at a i j m)))
        (λ m. vector_of states (λ i. sojourn_rate_at b i m +ℚ sum_to states (λ j. first_payment_at b i j m)))
        (λ m low. list_of-agree states _ _ (λ i row. free_same m i row)))
