-- The cells of a product, 32 a month, and facts of each of them.
use Rattle.std.specs.Prelude.{ℕ, ◌<◌}
use Rattle.frac_laws.specs.Fraction.{Fraction}
use Rattle.model_specs.specs.Product.{Product}
use Rattle.model_specs.specs.Payments.{Plan, payment_plan, pattern_plan}
use Rattle.model_specs.specs.Ledgers.{scale}
use Rattle.model_specs.specs.ValuationRules.{IsAdmissible}
use Rattle.model_specs.specs.Cells.{Direction, CellCurves, Forward, Backward, cells_of_32, cell_curves}
use Rattle.cell_bounds.specs.ScaledSystems.{scaling}

-- the curves of a cell, in a direction
abbrev pub cell_of : Direction → Product → Plan → ℕ → ℕ → CellCurves
cell_of direction product plan month cell = cell_curves (cells_of_32 direction) product plan month cell

-- backward, for reserves and moments
abbrev pub backward_cell : Product → Plan → ℕ → ℕ → CellCurves
backward_cell product plan month cell = cell_curves (cells_of_32 Backward) product plan month cell

-- forward, for probabilities; no payment plays a part
abbrev pub forward_cell : Product → ℕ → ℕ → CellCurves
forward_cell product month cell = cell_curves (cells_of_32 Forward) product (payment_plan product) month cell

-- 1 / G of a plan
abbrev pub plan_scaling : Product → Plan → Fraction
plan_scaling product plan = scaling (scale product plan)

-- a fact of both plans of each admissible product, in each cell of the term
abbrev pub InEachCell : (Product → Plan → ℕ → ℕ → Type 0) → Type 0
InEachCell Says = (product : Product) (month cell : ℕ) → IsAdmissible product → month < product.months → cell < 32
    → Says product (payment_plan product) month cell × Says product (pattern_plan product) month cell
