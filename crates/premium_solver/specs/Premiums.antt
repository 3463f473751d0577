-- What a table of premiums holds, and when there is none.
use Rattle.std.specs.Prelude.{ℕ, ◌+◌, ◌*◌, ◌^◌, ◌≤◌, ℤ, pos, ◌+ℤ◌, ◌-ℤ◌, ◌≤ℤ◌, ◌<ℤ◌, unsigned_abs}
use Rattle.frac_laws.specs.Fraction.{Fraction, whole, over, ◌+ℚ◌, ◌*ℚ◌, ◌≤ℚ◌}
use Rattle.frac_laws.specs.Ledger.{tolerance_first}
use Rattle.named_numbers.specs.Numbers.{highest_degree}
use Rattle.fixed_interval.specs.declared.printed.Printed.{Printed}
use Rattle.fixed_interval.specs.declared.tables.PremiumTable.{PremiumTable}
use Rattle.fixed_interval.specs.Printing.{AreEndsUpTo}
use Rattle.fixed_interval.specs.Tables.{IsAnsweredDegree, AreEndsFor}
use Rattle.model_specs.specs.Product.{Product}
use Rattle.model_specs.specs.Payments.{Plan, payment_plan, pattern_plan}
use Rattle.model_specs.specs.Ledgers.{radius, scale}
use Rattle.model_specs.specs.Rows.{IsPremium}
use Rattle.model_specs.specs.Runs.{benefits, pattern_value}
use Rattle.premium_solver.specs.Quotients.{least_divisor, most_divisor, most_quotient, largest_size}

-- how far the printed ends of a plan's value at issue may lie apart, in millionths
abbrev pub tolerance_at_issue : Product → Plan → ℕ
tolerance_at_issue product plan = tolerance_first (radius product 0) (scale product plan)

-- times the pattern's value p, the ends of a premium lie no further apart than the tolerance of the benefits, that of
-- the pattern times twice the premium's size, and two millionths of p; all of it times a million
abbrev pub ArePremiumsClose : (tolerance_b tolerance_p : ℕ) → Printed → Fraction → Type 0
ArePremiumsClose tolerance_b tolerance_p ends p =
    whole (pos (10 ^ 6)) *ℚ (whole (ends.hi -ℤ ends.lo) *ℚ p)
    ≤ℚ whole (pos (10 ^ 6 * tolerance_b + 2 * largest_size ends * tolerance_p)) +ℚ whole (pos (2 * 10 ^ 6)) *ℚ p

-- the values of the benefits and of the pattern, each within its tolerance, and their quotient: in each degree from one
-- on it lies between the premium's ends, which are as close as the tolerances say, and the pattern's value is at least
-- 1/32
pub record IsPremiumTable (product : Product) (t : PremiumTable) : Type 0 where
  pub degree : IsAnsweredDegree t.degree
  pub benefits_hold : AreEndsFor t.degree (benefits product) (tolerance_at_issue product (payment_plan product))
      t.benefits
  pub pattern_holds : AreEndsFor t.degree (pattern_value product) (tolerance_at_issue product (pattern_plan product))
      t.pattern
  pub premium_holds : (n : ℕ) → t.degree ≤ n
      → IsPremium t.premium.lo t.premium.hi (benefits product n) (pattern_value product n)
  pub ordered : t.premium.lo ≤ℤ t.premium.hi
  pub small : AreEndsUpTo most_quotient t.premium
  pub close : (n : ℕ) → t.degree ≤ n
      → ArePremiumsClose (tolerance_at_issue product (payment_plan product))
      (tolerance_at_issue product (pattern_plan product)) t.premium (pattern_value product n)
  pub large : (n : ℕ) → t.degree ≤ n → over (pos least_divisor) (2 ^ 64) ≤ℚ pattern_value product n

-- how wide the interval of the pattern's value is at most, in units of 2^-64
abbrev pub pattern_width : Product → ℕ
pattern_width product = 2 * radius product 0 * 2 ^ scale product (pattern_plan product)

-- the interval of the pattern's value begins below 1/32, at so many units of 2^-64; from there it holds the value of
-- the highest degree that a step may answer, and of each greater one
pub record IsTooSmall (product : Product) (low : ℤ) : Type 0 where
  pub below : low <ℤ pos least_divisor
  pub small : unsigned_abs low ≤ most_divisor
  pub at_least : (n : ℕ) → highest_degree ≤ n → over low (2 ^ 64) ≤ℚ pattern_value product n
  pub at_most : (n : ℕ) → highest_degree ≤ n
      → pattern_value product n ≤ℚ over (low +ℤ pos (pattern_width product)) (2 ^ 64)

-- the pattern's value of a degree is at least 1/32 and the width of its interval: then there is a premium
abbrev pub IsLargePattern : Product → ℕ → Type 0
IsLargePattern product n = over (pos (least_divisor + pattern_width product)) (2 ^ 64) ≤ℚ pattern_value product n
