-- The bound of a plan whose payments are small, and the pattern's.
use Rattle.std.specs.Prelude.{ℕ, ◌*◌, ◌^◌, ◌<◌, ◌≤◌}
use Rattle.model_specs.specs.Product.{Product}
use Rattle.model_specs.specs.Payments.{Plan, payment_plan, pattern_plan}
use Rattle.model_specs.specs.Growth.{pay, greatest_sum}
use Rattle.model_specs.specs.Ledgers.{greatest_lump, bound1024, scale}
use Rattle.model_specs.specs.RecordRules.{IsWellFormed}
use Rattle.model_specs.specs.ValuationRules.{IsAdmissible}
use Rattle.ledger_laws.specs.MonthLaws.{ObeysAllMonths}

-- the start of the bound ledger, what each date adds and what each cell adds are at most some number
pub record AddsAtMost (product : Product) (plan : Plan) (most : ℕ) : Type 0 where
  pub sums : 1024 * greatest_sum product plan ≤ most
  pub lumps : (date : ℕ) → 1024 * greatest_lump product plan date ≤ most
  pub pays : (month : ℕ) → month < product.months → pay product plan month ≤ most

-- then the bound is at most 2^26 of it
abbrev pub PlanBoundStaysSmall : Type 0
PlanBoundStaysSmall = (product : Product) (plan : Plan) (most : ℕ) → IsWellFormed product → ObeysAllMonths product
    → AddsAtMost product plan most → bound1024 product plan ≤ 2 ^ 26 * most

-- the payment plan's bound fits well into 128 bits, whether rule 18 holds or not
pub record HasSmallBound (product : Product) : Type 0 where
  pub bound : bound1024 product (payment_plan product) < 2 ^ 80
  pub scale : scale product (payment_plan product) ≤ 70

-- so it is where rules 15 to 17 hold in each month
abbrev pub PaymentBoundStaysSmall : Type 0
PaymentBoundStaysSmall = (product : Product) → IsWellFormed product → ObeysAllMonths product
    → HasSmallBound product

-- and where it holds the scale is at most 56
abbrev pub AdmissibleScaleIsSmall : Type 0
AdmissibleScaleIsSmall = (product : Product) → IsAdmissible product
    → (bound1024 product (payment_plan product) ≤ 2 ^ 66) × (scale product (payment_plan product) ≤ 56)

-- the pattern's bound, and its scale
pub record HasSmallPattern (product : Product) : Type 0 where
  pub most : bound1024 product (pattern_plan product) ≤ 2 ^ 36
  pub below : bound1024 product (pattern_plan product) < 2 ^ 39
  pub scale : scale product (pattern_plan product) ≤ 26

-- they are so small where rules 15 to 17 hold in each month
abbrev pub PatternBoundStaysSmall : Type 0
PatternBoundStaysSmall = (product : Product) → IsWellFormed product → ObeysAllMonths product
    → HasSmallPattern product
