-- Numbers that stand near exact values, at a date and on the way over a month backward.
use Rattle.std.specs.Prelude.{ℕ, suc, ◌-◌, ◌≤◌, ℤ, List}
use Rattle.frac_laws.specs.Fraction.{◌≤ℚ◌}
use Rattle.frac_laws.specs.Lists.{Vector, scale_list, add_lists}
use Rattle.frac_laws.specs.Norms.{Sup}
use Rattle.cell_laws.specs.ErrorLaws.{distance}
use Rattle.named_numbers.specs.Numbers.{cells_of_month, cell_rounding}
use Rattle.model_specs.specs.Product.{Product}
use Rattle.model_specs.specs.Payments.{Plan}
use Rattle.model_specs.specs.Growth.{kappa40}
use Rattle.model_specs.specs.Ledgers.{grow_cells, radius}
use Rattle.model_specs.specs.Runs.{lump_vector}
use Rattle.model_specs.specs.Systems.{thiele_system}
use Rattle.product_cells.specs.EachCell.{backward_cell, plan_scaling}
use Rattle.moment_laws.specs.CellRuns.{cells_back}
use Rattle.moment_laws.specs.RunsFrom.{BeginsWithinLedger}
use Rattle.sweep_laws.specs.SweepLaws.{units}
use Rattle.linear_system.specs.StandsFor.{in_units}

-- the exact values after some cells of a month, in minor units: from v at the month's end, with that date's lumps
abbrev pub month_values : Product → Plan → (n month : ℕ) → Vector → ℕ → Vector
month_values product plan n month v done =
    cells_back (λ cell. thiele_system (backward_cell product plan month cell)) n cells_of_month
    (add_lists v (lump_vector product plan (suc month))) done

-- the radius after some cells of a month, in units of 2^-64
abbrev pub radius_in : Product → ℕ → ℕ → ℕ
radius_in product month done =
    grow_cells (kappa40 product month) cell_rounding (radius product (suc month)) done

-- numbers in units of 2^-64 at the plan's scale are within a radius of exact values
abbrev pub AreWithin : Product → Plan → ℕ → Vector → List ℤ → Type 0
AreWithin product plan rad v numbers =
    distance Sup (scale_list (plan_scaling product plan) v) (in_units numbers) ≤ℚ units rad

-- values at a date, before its lumps, with which a run may begin there, and which the numbers stand for
pub record IsNearAt (product : Product) (plan : Plan) (date : ℕ) (numbers : List ℤ) (v : Vector) : Type 0 where
  pub begins : BeginsWithinLedger product plan (product.months - date) v
  pub near : AreWithin product plan (radius product date) v numbers

-- and with the lumps of the month's end
pub record IsNearLumped (product : Product) (plan : Plan) (month : ℕ) (numbers : List ℤ) (v : Vector) : Type 0 where
  pub begins : BeginsWithinLedger product plan (product.months - suc month) v
  pub near : AreWithin product plan (radius product (suc month)) (month_values product plan 0 month v 0) numbers

-- some vector has a fact
pub record HasSome (Says : Vector → Type 0) : Type 0 where
  pub values : Vector
  pub has : Says values

-- after some cells of a month, with steps of up to a degree: each run is within the radius ledger of the numbers
abbrev pub StaysNear : Product → Plan → (month degree done : ℕ) → (old new : List ℤ) → Type 0
StaysNear product plan month degree done old new =
    (n : ℕ) (v : Vector) → degree ≤ n → IsNearLumped product plan month old v
    → AreWithin product plan (radius_in product month done) (month_values product plan n month v done) new

-- the same with a unit to spare, as it is after the first cell and from then on
abbrev pub StaysNearWithSpare : Product → Plan → (month degree done : ℕ) → (old new : List ℤ) → Type 0
StaysNearWithSpare product plan month degree done old new =
    (n : ℕ) (v : Vector) → degree ≤ n → IsNearLumped product plan month old v
    → AreWithin product plan (radius_in product month done - 1) (month_values product plan n month v done) new

-- over a whole month: the values at its start of each run from its end, before both dates' lumps, are within the radius
-- there but for a unit
abbrev pub EnclosesMonth : Product → Plan → (month degree : ℕ) → (old new : List ℤ) → Type 0
EnclosesMonth product plan month degree old new =
    (n : ℕ) (v : Vector) → degree ≤ n → IsNearAt product plan (suc month) old v
    → AreWithin product plan (radius product month - 1) (month_values product plan n month v cells_of_month) new
