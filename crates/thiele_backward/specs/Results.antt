-- What the valuations of a product answer.
use Rattle.std.specs.Prelude.{ℕ, ◌-◌, ◌*◌, ◌/◌, ◌^◌, ◌<◌, ◌≤◌, pos, min, length, IsTrue}
use Rattle.frac_laws.specs.Fraction.{Fraction, over, size, ◌-ℚ◌, ◌≤ℚ◌}
use Rattle.frac_laws.specs.Ledger.{tolerance_first}
use Rattle.fixed_interval.specs.declared.tables.Table.{Table}
use Rattle.fixed_interval.specs.declared.tables.Valued.{Valued}
use Rattle.fixed_interval.specs.declared.printed.Printed.{Printed}
use Rattle.fixed_interval.specs.Printing.{LiesBetween}
use Rattle.fixed_interval.specs.Tables.{IsValuedFor, IsTableFor, ends_at}
use Rattle.model_specs.specs.Product.{Product}
use Rattle.model_specs.specs.Payments.{Plan, payment_plan}
use Rattle.model_specs.specs.Ledgers.{radius, scale}
use Rattle.model_specs.specs.Runs.{reserve, value_before_issue}
use Rattle.model_specs.specs.Stretches.{is_constant_month}

-- the value of a plan just before issue, in an interval that is at most twice the radius wide
abbrev pub IsValueAtIssue : Product → Plan → Valued → Type 0
IsValueAtIssue product plan valued =
    IsValuedFor (value_before_issue product plan) (2 * radius product 0 * 2 ^ scale product plan) valued

-- the reserves of the payment plan by date and state, between ends that are no further apart than their tolerance
abbrev pub AreReserves : Product → (every : ℕ) → Table → Type 0
AreReserves product every table =
    let plan = payment_plan product in
    IsTableFor product.months (length product.states) every (reserve product plan)
    (λ date. tolerance_first (radius product date) (scale product plan)) table

-- how much the ends of a date's reserves leave free: before the term a unit of 2^-64 at the plan's scale
abbrev pub spare_at : Product → (date : ℕ) → Fraction
spare_at product date =
    over (pos (min 1 (product.months - date) * 2 ^ scale product (payment_plan product))) (2 ^ 64)

-- ends hold each number that differs from the exact one, of a degree from one on, by no more than they leave free
abbrev pub HoldAround : (degree : ℕ) → (exact : ℕ → Fraction) → (spare : Fraction) → Printed → Type 0
HoldAround degree exact spare ends =
    (n : ℕ) (x : Fraction) → degree ≤ n → size (x -ℚ exact n) ≤ℚ spare → LiesBetween ends x

-- so do all ends of a table of reserves
abbrev pub HoldAroundReserves : Product → (every : ℕ) → Table → Type 0
HoldAroundReserves product every table = (k state : ℕ) → k ≤ product.months / every → state < length product.states
    → HoldAround table.degree (λ n. reserve product (payment_plan product) n (k * every) state)
    (spare_at product (k * every)) (ends_at table k state)

-- nothing varies over any month of the term
abbrev pub AreConstantMonths : Product → Plan → Type 0
AreConstantMonths product plan = (month : ℕ) → month < product.months → IsTrue (is_constant_month product plan month)
