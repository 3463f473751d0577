-- What a plan pays in a month, part by part.
use Rattle.std.specs.Prelude.{ℕ, ◌+◌, ◌*◌, List, length, map, sum}
use Rattle.whole_laws.specs.Whole.{list_of, greatest_natural}
use Rattle.model_specs.specs.Product.{Product}
use Rattle.model_specs.specs.Payments.{Plan, sojourn_at, sum_at, payment_plan, pattern_plan}
use Rattle.model_specs.specs.MonthNumbers.{month_unit, exits}
use Rattle.model_specs.specs.Growth.{load}
use Rattle.payment_plan.specs.declared.pattern.Which.{Which}
use Rattle.payment_plan.specs.declared.pattern.Which.TheVariants.{Benefits, Pattern}
use Rattle.rate_bounds.specs.MonthRates.{rate_part}

-- the payments of the file, or the premium pattern as a plan of its own
abbrev pub plan_named : Which → Product → Plan
plan_named Benefits product = payment_plan product
plan_named Pattern product = pattern_plan product

-- the load of a state's sojourn rate
unfoldable pub sojourn_load : Plan → ℕ → ℕ → ℕ
sojourn_load plan month i = load (sojourn_at plan i month) month

-- the load of a transition's sum
unfoldable pub sum_load : Plan → ℕ → ℕ → ℕ
sum_load plan month e = load (sum_at plan e month) month

-- the rate of a transition times the load of its sum
unfoldable pub exit_pay : Product → Plan → ℕ → ℕ → ℕ
exit_pay product plan month e = rate_part product month e * sum_load plan month e

-- what some transitions pay together
unfoldable pub exits_pay : Product → Plan → ℕ → List ℕ → ℕ
exits_pay product plan month transitions = sum (map (exit_pay product plan month) transitions)

-- what a state pays
unfoldable pub paid_in_state : Product → Plan → ℕ → ℕ → ℕ
paid_in_state product plan month i =
    sojourn_load plan month i * month_unit product + exits_pay product plan month (exits product i)

-- the most that a state pays
unfoldable pub greatest_paid : Product → Plan → ℕ → ℕ
greatest_paid product plan month = greatest_natural (list_of (length product.states) (paid_in_state product plan month))
