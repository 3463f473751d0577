-- The cells of an admissible product are tame.
use Rattle.std.specs.Prelude.{ℕ, ◌<◌, ◌^◌}
use Rattle.frac_laws.proofs.Linear.{natural}
use Rattle.cell_laws.specs.Tame.{IsTame}
use Rattle.frac_laws.specs.Norms.{Sup}
use Rattle.model_specs.specs.Product.{Product}
use Rattle.model_specs.specs.Payments.{Plan, payment_plan, pattern_plan}
use Rattle.model_specs.specs.Growth.{kappa40}
use Rattle.model_specs.specs.Ledgers.{scale}
use Rattle.model_specs.specs.RecordRules.{IsWellFormed}
use Rattle.model_specs.specs.Cells.{Forward, Backward}
use Rattle.model_specs.specs.Systems.{thiele_system}
use Rattle.ledger_laws.specs.MonthLaws.{ObeysMonthRules}
use Rattle.ledger_laws.proofs.MonthFacts.{admissible_obeys}
use Rattle.cell_bounds.specs.ScaledSystems.{scaled_system}
use Rattle.product_laws.specs.TameCells.{ThieleCellsAreTame, KolmogorovCellsAreTame}
use Rattle.product_cells.specs.EachCell.{backward_cell, forward_cell, plan_scaling}
use Rattle.model_laws.proofs.PlanSteps.{HasFourEach, payment_plan_four, pattern_plan_four}
use Rattle.product_cells.proofs.ProductPayments.{scaled_x}
use Rattle.product_cells.specs.MonthFractions.{month_bounds, plan_bounds}
use Rattle.product_cells.proofs.CellsWithin.{cell_within, cell_pays}
use Rattle.cell_bounds.proofs.SmallCellsTame.{small_thiele_cells_are_tame, small_kolmogorov_cells_are_tame}

pub thiele_cell_tame : (product : Product) (plan : Plan) (month cell : ℕ) → IsWellFormed product
    → ObeysMonthRules product month → month < product.months → cell < 32 → HasFourEach plan
    → IsTame Sup (kappa40 product month)
    (scaled_system (plan_scaling product plan) (thiele_system (backward_cell product plan month cell)))
thiele_cell_tame product plan month cell formed rules below inside four =
    small_thiele_cells_are_tame (backward_cell product plan month cell) (month_bounds product month)
    (plan_bounds product plan month) (plan_scaling product plan)
    (cell_within Backward product plan month cell formed rules inside)
    (cell_pays Backward product plan month cell formed rules inside below four)
    (natural 1 (2 ^ scale product plan)) (scaled_x product plan month formed rules below four)

pub thiele_cells_are_tame : ThieleCellsAreTame
thiele_cells_are_tame product month cell admissible below inside =
    let formed = admissible.well_formed in
    let rules = admissible_obeys product admissible month below in (
      thiele_cell_tame product (payment_plan product) month cell formed rules below inside
          (payment_plan_four product formed),
      thiele_cell_tame product (pattern_plan product) month cell formed rules below inside (pattern_plan_four product),
    )

pub kolmogorov_cells_are_tame : KolmogorovCellsAreTame
kolmogorov_cells_are_tame product month cell admissible below inside =
    let formed = admissible.well_formed in
    let rules = admissible_obeys product admissible month below in
    small_kolmogorov_cells_are_tame (forward_cell product month cell) (month_bounds product month)
    (cell_within Forward product (payment_plan product) month cell formed rules inside)
