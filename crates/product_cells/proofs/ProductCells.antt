-- The curves and payments of each cell of an admissible product, and the norms of its backward matrices.
use Rattle.std.specs.Prelude.{ℕ, ◌<◌}
use Rattle.model_specs.specs.Product.{Product}
use Rattle.model_specs.specs.Payments.{Plan, payment_plan, pattern_plan}
use Rattle.model_specs.specs.RecordRules.{IsWellFormed}
use Rattle.ledger_laws.specs.MonthLaws.{ObeysMonthRules}
use Rattle.ledger_laws.proofs.MonthFacts.{admissible_obeys}
use Rattle.product_cells.specs.SmallCells.{MonthsAreSmall, CellsHaveSmallCurves, CellsHaveSmallPayments}
use Rattle.product_cells.specs.SmallCells.{LeavesRoom, ScalesLeaveRoom}
use Rattle.model_laws.proofs.PlanSteps.{HasFourEach, payment_plan_four, pattern_plan_four}
use Rattle.product_cells.proofs.ProductCurves.{small_curves, small_month, counts_growth}
use Rattle.product_cells.proofs.ProductPayments.{small_payments, small_sums, pay_covers}
use Rattle.product_cells.proofs.ScaleRoom.{room}

pub months_are_small : MonthsAreSmall
months_are_small product month admissible below =
    let formed = admissible.well_formed in
    let rules = admissible_obeys product admissible month below in
    (small_month product month formed rules, counts_growth product month formed rules)

pub cells_have_small_curves : CellsHaveSmallCurves
cells_have_small_curves direction product month cell admissible below inside =
    let formed = admissible.well_formed in
    let rules = admissible_obeys product admissible month below in (
      small_curves product month formed rules (payment_plan product) direction cell inside,
      small_curves product month formed rules (pattern_plan product) direction cell inside,
    )

pub cells_have_small_payments : CellsHaveSmallPayments
cells_have_small_payments direction product month cell admissible below inside =
    let formed = admissible.well_formed in
    let rules = admissible_obeys product admissible month below in
    let paid = payment_plan_four product formed in
    let pattern = pattern_plan_four product in (
      (
        small_payments product (payment_plan product) month formed rules below paid direction cell inside,
        small_sums product (payment_plan product) month formed rules below paid direction cell inside,
      ),
      (
        small_payments product (pattern_plan product) month formed rules below pattern direction cell inside,
        small_sums product (pattern_plan product) month formed rules below pattern direction cell inside,
      ),
    )

leaves_room : (product : Product) (plan : Plan) (month : ℕ) → IsWellFormed product → ObeysMonthRules product month
    → month < product.months → HasFourEach plan → LeavesRoom product plan month
leaves_room product plan month formed rules below four = record {
  pay_covers = pay_covers product plan month formed rules below four;
  room = room product plan month formed rules below four;
}

pub scales_leave_room : ScalesLeaveRoom
scales_leave_room product month cell admissible below inside =
    let formed = admissible.well_formed in
    let rules = admissible_obeys product admissible month below in (
      leaves_room product (payment_plan product) month formed rules below (payment_plan_four product formed),
      leaves_room product (pattern_plan product) month formed rules below (pattern_plan_four product),
    )
