-- Months in which nothing varies: one system for all their cells, and for all months of a stretch.
use Rattle.std.specs.Prelude.{◌≡◌, ℕ, suc, ◌<◌, IsTrue}
use Rattle.cell_laws.specs.Systems.{System}
use Rattle.model_specs.specs.Product.{Product}
use Rattle.model_specs.specs.Payments.{Plan, payment_plan, pattern_plan}
use Rattle.model_specs.specs.Growth.{kappa40}
use Rattle.model_specs.specs.Stretches.{is_constant_month, continues_stretch}
use Rattle.model_specs.specs.Systems.{thiele_system}
use Rattle.model_specs.specs.ValuationRules.{IsAdmissible}
use Rattle.linear_system.specs.StandsFor.{StandsFor}
use Rattle.linear_system.specs.StoredSystem.{StoredSystem}
use Rattle.taylor_step.specs.ConstantSteps.{IsConstantInX}
use Rattle.cell_bounds.specs.ScaledSystems.{scaled_system}
use Rattle.product_cells.specs.EachCell.{backward_cell, plan_scaling}
use Rattle.map_laws.specs.MonthOfCells.{IsConstantCell}

-- the system of a month's first cell: Thiele's equation, with values divided by the plan's G
abbrev pub month_system : Product → Plan → ℕ → System
month_system product plan month =
    scaled_system (plan_scaling product plan) (thiele_system (backward_cell product plan month 0))

-- all cells of a constant month have the equation of its first one
abbrev pub CellsAreAlike : Type 0
CellsAreAlike = (product : Product) (plan : Plan) (month cell : ℕ) → IsTrue (is_constant_month product plan month)
    → thiele_system (backward_cell product plan month cell) ≡ thiele_system (backward_cell product plan month 0)

-- a month that goes on with a stretch has the system of the month before
abbrev pub StretchesKeepTheirSystem : Type 0
StretchesKeepTheirSystem =
    (product : Product) (plan : Plan) (month : ℕ) → IsTrue (is_constant_month product plan (suc month))
    → IsTrue (continues_stretch product plan (suc month))
    → month_system product plan (suc month) ≡ month_system product plan month

-- the system of a constant month has nothing above power 0
abbrev pub MonthSystemsAreConstant : Type 0
MonthSystemsAreConstant =
    (product : Product) (plan : Plan) (month : ℕ) → IsTrue (is_constant_month product plan month)
    → IsConstantInX (month_system product plan month)

-- a fact of both plans of each admissible product, in each month of the term in which nothing varies
abbrev pub InEachConstantMonth : (Product → Plan → ℕ → Type 0) → Type 0
InEachConstantMonth Says = (product : Product) (month : ℕ) → IsAdmissible product → month < product.months
    → (IsTrue (is_constant_month product (payment_plan product) month) → Says product (payment_plan product) month)
    × (IsTrue (is_constant_month product (pattern_plan product) month) → Says product (pattern_plan product) month)

-- a stored system that stands for the month's system has what the map of a month asks for
abbrev pub ConstantMonthsAreConstantCells : Type 0
ConstantMonthsAreConstantCells = InEachConstantMonth (λ product plan month. (s : StoredSystem)
    → StandsFor s (month_system product plan month)
    → IsConstantCell s (kappa40 product month) (month_system product plan month))
