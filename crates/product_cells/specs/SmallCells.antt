-- How small the curves and payments of each cell of an admissible product are, power by power.
use Rattle.std.specs.Prelude.{ℕ, pos, ◌^◌, ◌<◌}
use Rattle.frac_laws.specs.Fraction.{over, whole, ◌+ℚ◌, ◌*ℚ◌, ◌≤ℚ◌}
use Rattle.model_specs.specs.Product.{Product}
use Rattle.model_specs.specs.Payments.{Plan}
use Rattle.model_specs.specs.Growth.{kappa40, pay, greatest_sum}
use Rattle.model_specs.specs.Ledgers.{scale}
use Rattle.model_specs.specs.ValuationRules.{IsAdmissible}
use Rattle.model_specs.specs.Cells.{Direction}
use Rattle.cell_bounds.specs.CellBounds.{HasSmallCurves, HasSmallMonth, CountsGrowth, HasSmallPayments, HasSmallSums}
use Rattle.product_cells.specs.MonthFractions.{rho_of, iota_of, nu_of, phi_of, rates_of, rate_loads, sum_loads}
use Rattle.product_cells.specs.MonthFractions.{sum_sizes, sum_spreads, most_paid}
use Rattle.product_cells.specs.EachCell.{cell_of, InEachCell}

-- the numbers of a month of the term
abbrev pub MonthsAreSmall : Type 0
MonthsAreSmall = (product : Product) (month : ℕ) → IsAdmissible product → month < product.months
    → HasSmallMonth (rho_of product month) (iota_of product month) (nu_of product month)
    × CountsGrowth (rho_of product month) (iota_of product month) (nu_of product month) (phi_of product month)
    (kappa40 product month)

-- the curves of cells of both directions
abbrev pub CellsHaveSmallCurves : Type 0
CellsHaveSmallCurves = (direction : Direction) → InEachCell (λ product plan month cell.
    HasSmallCurves (cell_of direction product plan month cell) (rates_of product month) (rho_of product month)
    (iota_of product month) (nu_of product month))

-- the payments of cells of both directions
abbrev pub CellsHaveSmallPayments : Type 0
CellsHaveSmallPayments = (direction : Direction) → InEachCell (λ product plan month cell.
    HasSmallPayments (cell_of direction product plan month cell) (rates_of product month) (rate_loads plan month)
    (sum_loads product plan month) (most_paid product plan month) (whole (pos (greatest_sum product plan)))
    × HasSmallSums (cell_of direction product plan month cell) (sum_loads product plan month)
    (sum_sizes product plan month) (sum_spreads product plan month))

-- 16/3 x is at most pay, and the greatest sum and x/6 are together at most G
pub record LeavesRoom (product : Product) (plan : Plan) (month : ℕ) : Type 0 where
  pub pay_covers : over (pos 16) 3 *ℚ most_paid product plan month ≤ℚ whole (pos (pay product plan month))
  pub room : whole (pos (greatest_sum product plan)) +ℚ over (pos 1) 6 *ℚ most_paid product plan month
      ≤ℚ whole (pos (2 ^ scale product plan))

-- so it is in each month of an admissible product
abbrev pub ScalesLeaveRoom : Type 0
ScalesLeaveRoom = InEachCell (λ product plan month cell. LeavesRoom product plan month)
