-- The reserves of a run that takes each month as one cell are near those of the run on 32 cells a month.
use Rattle.std.specs.Prelude.{◌≡◌, ℕ, pos, ◌*◌, ◌^◌, ◌≤◌}
use Rattle.frac_laws.specs.Fraction.{over, whole, size, ◌-ℚ◌, ◌*ℚ◌, ◌≤ℚ◌, ◌<ℚ◌}
use Rattle.frac_laws.specs.Sums.{power}
use Rattle.model_specs.specs.Product.{Product}
use Rattle.model_specs.specs.Payments.{Plan, payment_plan, pattern_plan}
use Rattle.model_specs.specs.Ledgers.{scale, radius}
use Rattle.model_specs.specs.Runs.{reserve, month_grid_reserve}
use Rattle.model_specs.specs.ValuationRules.{IsAdmissible}

-- the degree from which on whole months will do as cells
abbrev pub month_grid_degree : ℕ
month_grid_degree = 4096

-- 2^t times the difference of the two runs of degree n is at most the radius there, times G
abbrev pub DiffersByRadius : ℕ → Product → Plan → ℕ → Type 0
DiffersByRadius t product plan n = (date state : ℕ) → date ≤ product.months
    → power (whole (pos 2)) t
    *ℚ size (month_grid_reserve product plan n date state -ℚ reserve product plan n date state)
    ≤ℚ whole (pos (2 ^ scale product plan)) *ℚ whole (pos (radius product date))

-- so it is for each t of at least 544 and each degree of at least 7 t, and both plans
abbrev pub MonthGridIsNear : Type 0
MonthGridIsNear = (product : Product) (n t : ℕ) → IsAdmissible product → 544 ≤ t → 7 * t ≤ n
    → DiffersByRadius t product (payment_plan product) n × DiffersByRadius t product (pattern_plan product) n

-- the two runs of degree n differ by less than a unit of 2^-64, times G
abbrev pub DiffersByLessThanAUnit : Product → Plan → ℕ → Type 0
DiffersByLessThanAUnit product plan n = (date state : ℕ) → date ≤ product.months
    → size (month_grid_reserve product plan n date state -ℚ reserve product plan n date state)
    <ℚ over (pos (2 ^ scale product plan)) (2 ^ 64)

-- from degree 4096 on they do, for every product that breaks no rule
abbrev pub MonthGridIsWithinAUnit : Type 0
MonthGridIsWithinAUnit = (product : Product) (n : ℕ) → IsAdmissible product → month_grid_degree ≤ n
    → DiffersByLessThanAUnit product (payment_plan product) n × DiffersByLessThanAUnit product (pattern_plan product) n

-- at the term both are the same, 0
abbrev pub MonthGridMeetsAtTheTerm : Type 0
MonthGridMeetsAtTheTerm = (product : Product) (plan : Plan) (n state : ℕ)
    → month_grid_reserve product plan n product.months state ≡ reserve product plan n product.months state
