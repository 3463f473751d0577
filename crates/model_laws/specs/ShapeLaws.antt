-- The cells of a well-formed product have curves of degree five and payments of degree three at most.
use Rattle.std.specs.Prelude.{ℕ}
use Rattle.model_specs.specs.Product.{Product}
use Rattle.model_specs.specs.Payments.{payment_plan, pattern_plan}
use Rattle.model_specs.specs.RecordRules.{IsWellFormed}
use Rattle.model_specs.specs.Cells.{Grid, cell_curves}
use Rattle.model_laws.specs.Equations.{IsQuintic}

-- so the equations of the literature hold in each cell, of either plan
abbrev pub CellsAreQuintic : Type 0
CellsAreQuintic = (grid : Grid) (product : Product) (month cell : ℕ) → IsWellFormed product
    → IsQuintic (cell_curves grid product (payment_plan product) month cell)
    × IsQuintic (cell_curves grid product (pattern_plan product) month cell)
