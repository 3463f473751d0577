-- The scale of a plan leaves room for what is paid in a month.
use Rattle.std.specs.Prelude.{◌≡◌, ℕ, pos, ◌^◌, ◌<◌, [], ◌∷◌}
use Rattle.std.proofs.Common.{refl, ◌∙◌, pow_pos}
use Rattle.frac_laws.specs.Fraction.{Fraction, over, whole, opposite, ◌+ℚ◌, ◌*ℚ◌, ◌≤ℚ◌}
use Rattle.frac_laws.proofs.FractionTerms.{ring, terms}
use Rattle.frac_laws.proofs.Linear.{linear, claims, natural, ◌⊞◌, ◌⊠◌, ◌·◌}
use Rattle.frac_laws.proofs.Quotients.{inverse}
use Rattle.model_specs.specs.Product.{Product}
use Rattle.model_specs.specs.Payments.{Plan}
use Rattle.model_specs.specs.Growth.{greatest_sum}
use Rattle.model_specs.specs.Ledgers.{scale}
use Rattle.model_specs.specs.RecordRules.{IsWellFormed}
use Rattle.ledger_laws.specs.MonthLaws.{ObeysMonthRules}
use Rattle.product_cells.specs.EachCell.{plan_scaling}
use Rattle.product_cells.specs.MonthFractions.{most_paid}
use Rattle.model_laws.proofs.PlanSteps.{HasFourEach}
use Rattle.product_cells.proofs.ProductPayments.{scaled_room}

-- G times 1 / G
pub unit_scale : (product : Product) (plan : Plan)
    → plan_scaling product plan *ℚ whole (pos (2 ^ scale product plan)) ≡ whole (pos 1)
unit_scale product plan =
    let G = 2 ^ scale product plan in
    swapped (plan_scaling product plan) (whole (pos G)) ∙ inverse G (pow_pos (scale product plan))
  where
    swapped : (y z : Fraction) → y *ℚ z ≡ z *ℚ y
    swapped y z = ring (y ∷ z ∷ []) (hlevel terms) refl

-- the greatest sum and a sixth of what a state pays a year at most are together at most G
pub room : (product : Product) (plan : Plan) (month : ℕ) → IsWellFormed product → ObeysMonthRules product month
    → month < product.months → HasFourEach plan
    → whole (pos (greatest_sum product plan)) +ℚ over (pos 1) 6 *ℚ most_paid product plan month
    ≤ℚ whole (pos (2 ^ scale product plan))
room product plan month formed rules below four =
    let s = whole (pos (greatest_sum product plan)) in
    let x = most_paid product plan month in
    let G = 2 ^ scale product plan in
    linear (s ∷ x ∷ plan_scaling product plan ∷ whole (pos G) ∷ [])
    (scaled_room product plan month formed rules below four ⊠ natural G 1
    ⊞ (opposite (s +ℚ over (pos 1) 6 *ℚ x)) · unit_scale product plan) (hlevel claims) refl
