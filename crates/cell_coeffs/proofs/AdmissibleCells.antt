-- The cells of an admissible product can be stored, by either plan.
use Rattle.std.specs.Prelude.{◌≡◌, ℕ, pos, ◌^◌, ◌<◌}
use Rattle.frac_laws.specs.Fraction.{whole}
use Rattle.frac_laws.proofs.Linear.{natural}
use Rattle.model_specs.specs.Product.{Product}
use Rattle.model_specs.specs.Payments.{Plan, payment_plan, pattern_plan}
use Rattle.model_specs.specs.Growth.{greatest_sum}
use Rattle.model_specs.specs.Ledgers.{scale}
use Rattle.model_specs.specs.Cells.{Backward, cells_of_32}
use Rattle.model_laws.specs.Equations.{IsQuintic}
use Rattle.model_specs.specs.RecordRules.{IsWellFormed}
use Rattle.model_specs.specs.ValuationRules.{IsAdmissible}
use Rattle.model_laws.proofs.CellShapes.{cells_are_quintic}
use Rattle.ledger_laws.specs.MonthLaws.{ObeysMonthRules}
use Rattle.ledger_laws.proofs.MonthFacts.{admissible_obeys}
use Rattle.payment_plan.specs.declared.pattern.Which.{Which}
use Rattle.payment_plan.specs.declared.pattern.Which.TheVariants.{Benefits, Pattern}
use Rattle.payment_plan.specs.Payments.{plan_of}
use Rattle.product_model.specs.Views.{payments_of}
use Rattle.product_laws.specs.FittingNumbers.{HasFittingNumbers}
use Rattle.product_cells.specs.MonthFractions.{rates_of, rho_of, iota_of, nu_of, rate_loads, sum_loads, most_paid}
use Rattle.cell_bounds.specs.ScaledSystems.{scaling}
use Rattle.product_cells.specs.EachCell.{backward_cell, plan_scaling}
use Rattle.product_laws.proofs.FittingNumbers.{numbers_fit}
use Rattle.product_cells.proofs.ScaleRoom.{unit_scale, room}
use Rattle.model_laws.proofs.PlanSteps.{HasFourEach, payment_plan_four, pattern_plan_four}
use Rattle.product_cells.proofs.ProductCurves.{small_curves, small_month}
use Rattle.product_cells.proofs.ProductPayments.{small_payments, x_natural}
use Rattle.cell_coeffs.specs.Rows.{cell_at, IsSmallCell}
use Rattle.cell_coeffs.proofs.SmallCells.{small_cell}

small_by_plan : (product : Product) (plan : Plan) (month cell : ℕ) → IsWellFormed product
    → ObeysMonthRules product month
    → month < product.months → cell < 32 → HasFourEach plan → IsQuintic (backward_cell product plan month cell)
    → HasFittingNumbers product plan month cell → IsSmallCell (backward_cell product plan month cell)
    (plan_scaling product plan)
small_by_plan product plan month cell formed rules below inside four quintic fits =
    small_cell (backward_cell product plan month cell) (rates_of product month) (rho_of product month)
    (iota_of product month) (nu_of product month) (rate_loads plan month)
    (sum_loads product plan month) (most_paid product plan month)
    (whole (pos (greatest_sum product plan))) (plan_scaling product plan) (whole (pos (2 ^ scale product plan)))
    (small_curves product month formed rules plan Backward cell inside) (small_month product month formed rules)
    (small_payments product plan month formed rules below four Backward cell inside)
    (natural 1 (2 ^ scale product plan)) (x_natural product plan month formed rules below four)
    (natural (greatest_sum product plan) 1) (unit_scale product plan)
    (room product plan month formed rules below four) quintic formed.names.at_most_twelve fits.first

small_named : (which : Which) (product : Product) (month cell : ℕ) → IsAdmissible product → month < product.months
    → cell < 32 → let plan = plan_of which (payments_of product) in
    IsSmallCell (backward_cell product plan month cell) (plan_scaling product plan)
small_named Benefits product month cell admissible below inside =
    small_by_plan product (payment_plan product) month cell admissible.well_formed
    (admissible_obeys product admissible month below) below inside (payment_plan_four product admissible.well_formed)
    (cells_are_quintic (cells_of_32 Backward) product month cell admissible.well_formed).0
    (numbers_fit product month cell admissible below inside).0
small_named Pattern product month cell admissible below inside =
    small_by_plan product (pattern_plan product) month cell admissible.well_formed
    (admissible_obeys product admissible month below) below inside (pattern_plan_four product)
    (cells_are_quintic (cells_of_32 Backward) product month cell admissible.well_formed).1
    (numbers_fit product month cell admissible below inside).1

pub admissible_cell : (which : Which) (product : Product) (g month cell : ℕ) → IsAdmissible product
    → g ≡ scale product (plan_of which (payments_of product)) → month < product.months → cell < 32
    → IsSmallCell (cell_at product which month cell) (scaling g)
admissible_cell which product g month cell admissible is_scale below inside =
    rw is_scale (small_named which product month cell admissible below inside)
