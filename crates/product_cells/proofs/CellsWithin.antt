-- The cells of a month that obeys the rules are within its bounds, and pay within those of a plan.
use Rattle.std.specs.Prelude.{ℕ, ◌<◌}
use Rattle.frac_laws.proofs.Linear.{natural}
use Rattle.model_specs.specs.Product.{Product}
use Rattle.model_specs.specs.Payments.{Plan}
use Rattle.model_specs.specs.Growth.{greatest_sum}
use Rattle.model_specs.specs.RecordRules.{IsWellFormed}
use Rattle.model_specs.specs.Cells.{Direction}
use Rattle.ledger_laws.specs.MonthLaws.{ObeysMonthRules}
use Rattle.cell_bounds.specs.CellBounds.{IsWithinMonth, PaysWithin}
use Rattle.product_cells.specs.EachCell.{cell_of}
use Rattle.product_cells.specs.MonthFractions.{month_bounds, plan_bounds}
use Rattle.model_laws.proofs.PlanSteps.{HasFourEach}
use Rattle.product_cells.proofs.ProductCurves.{small_curves, small_month, counts_growth}
use Rattle.product_cells.proofs.ProductPayments.{small_payments, small_sums, x_natural}

module _ (direction : Direction) (product : Product) (plan : Plan) (month cell : ℕ) (formed : IsWellFormed product)
    (rules : ObeysMonthRules product month) (inside : cell < 32) where
  pub cell_within : IsWithinMonth (cell_of direction product plan month cell) (month_bounds product month)
  cell_within = record {
    curves = small_curves product month formed rules plan direction cell inside;
    small = small_month product month formed rules;
    counts = counts_growth product month formed rules;
  }

  pub cell_pays : month < product.months → HasFourEach plan
      → PaysWithin (cell_of direction product plan month cell) (month_bounds product month)
      (plan_bounds product plan month)
  cell_pays below four = record {
    payments = small_payments product plan month formed rules below four direction cell inside;
    sums = small_sums product plan month formed rules below four direction cell inside;
    most_natural = x_natural product plan month formed rules below four;
    greatest_natural = natural (greatest_sum product plan) 1;
  }
