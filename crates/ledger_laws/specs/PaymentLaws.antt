-- How large the payments of a plan are, and what a cell may add to the bound ledger.
use Rattle.std.specs.Prelude.{ℕ, ◌*◌, ◌^◌, ◌<◌, ◌≤◌, length}
use Rattle.model_specs.specs.Product.{Product}
use Rattle.model_specs.specs.Payments.{Plan, sojourn_at, sum_at, payment_plan, pattern_plan}
use Rattle.model_specs.specs.MonthNumbers.{month_unit}
use Rattle.model_specs.specs.Growth.{load, state_pay, pay, greatest_sum}
use Rattle.model_specs.specs.Ledgers.{greatest_lump}
use Rattle.model_specs.specs.RecordRules.{IsWellFormed}
use Rattle.ledger_laws.specs.MonthLaws.{ObeysMonthRules}

-- the loads of a plan's sojourn rates and transition sums over the term, and its lumps, are at most some numbers
pub record HasLoadsWithin (product : Product) (plan : Plan) (rate sum lump : ℕ) : Type 0 where
  pub sojourns : (i m : ℕ) → m < product.months → load (sojourn_at plan i m) m ≤ rate
  pub sums : (e m : ℕ) → m < product.months → load (sum_at plan e m) m ≤ sum
  pub greatest_sum : greatest_sum product plan ≤ sum
  pub lumps : (date : ℕ) → greatest_lump product plan date ≤ lump

-- what the states of a plan pay in a month, a year over the month's unit, and what a cell may add
pub record HasPayWithin (product : Product) (plan : Plan) (month a_year a_cell : ℕ) : Type 0 where
  pub states : (i : ℕ) → i < length product.states
      → state_pay product plan month i ≤ a_year * month_unit product
  pub cells : pay product plan month ≤ a_cell

-- amounts of 10^12 make loads of nine times as much, since the spread counts four times
abbrev pub PaymentLoadsAreSmall : Type 0
PaymentLoadsAreSmall = (product : Product) → IsWellFormed product
    → HasLoadsWithin product (payment_plan product) (9 * 10 ^ 12) (9 * 10 ^ 12) (10 ^ 12)

-- the pattern pays 1 a year or 1 at a date, and no sums
abbrev pub PatternLoadsAreSmall : Type 0
PatternLoadsAreSmall = (product : Product) → HasLoadsWithin product (pattern_plan product) 1 0 1

-- a state pays its sojourn rate and, at rates of at most 2 a year, its sums
abbrev pub PaymentsPayLittle : Type 0
PaymentsPayLittle = (product : Product) (month : ℕ) → IsWellFormed product → ObeysMonthRules product month
    → month < product.months → HasPayWithin product (payment_plan product) month (27 * 10 ^ 12) (144 * 10 ^ 12)

-- the pattern's cells add at most 6
abbrev pub PatternPaysLittle : Type 0
PatternPaysLittle = (product : Product) (month : ℕ) → IsWellFormed product → ObeysMonthRules product month
    → month < product.months → HasPayWithin product (pattern_plan product) month 1 6
