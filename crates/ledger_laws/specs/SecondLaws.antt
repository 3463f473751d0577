-- The second radius is at most four times the first one.
use Rattle.std.specs.Prelude.{◌≡◌, ℕ, suc, ◌+◌, ◌-◌, ◌*◌, ◌^◌, ◌<◌, ◌≤◌, length}
use Rattle.model_specs.specs.Product.{Product}
use Rattle.model_specs.specs.Payments.{Plan, lumps_at, payment_plan}
use Rattle.model_specs.specs.Growth.{kappa40, pay}
use Rattle.model_specs.specs.Ledgers.{grow_cells, greatest_lump, bound1024, scale, radius, second_radius}
use Rattle.model_specs.specs.Ledgers.{second_grow_cells, date_adds, second_before_term}
use Rattle.model_specs.specs.RecordRules.{IsWellFormed}
use Rattle.ledger_laws.specs.MonthLaws.{ObeysAllMonths}
use Rattle.ledger_laws.specs.GrowthLaws.{greatest_radius}

-- the second radius at a date, before the date's lumps; G is 2^scale
abbrev pub second_at : Product → Plan → ℕ → ℕ → ℕ
second_at product plan G date = second_before_term product plan G (product.months - date)

-- the second radius at a date with what the date's lumps add
abbrev pub second_with_lumps : Product → Plan → ℕ → ℕ → ℕ
second_with_lumps product plan G date = second_at product plan G date
    + date_adds (lumps_at (length product.states) plan date) (greatest_lump product plan date)
    (radius product date) G

-- after some cells of a month, which are counted from its end
abbrev pub second_inside : Product → Plan → ℕ → ℕ → ℕ → ℕ
second_inside product plan G month cells =
    second_grow_cells (kappa40 product month) (pay product plan month) G (radius product (suc month))
    (second_with_lumps product plan G (suc month)) cells

-- the first radius there
abbrev pub radius_inside : Product → ℕ → ℕ → ℕ
radius_inside product month cells = grow_cells (kappa40 product month) 1024 (radius product (suc month)) cells

-- the second radius goes from the end of a month to its start
abbrev pub SecondGoesBack : Type 0
SecondGoesBack = (product : Product) (plan : Plan) (G month : ℕ) → month < product.months
    → second_at product plan G month ≡ second_inside product plan G month 32

-- four times the first radius at each date, and at most 5 more with lumps and inside a month
pub record IsFourfold (product : Product) (plan : Plan) (G : ℕ) : Type 0 where
  pub dates : (date : ℕ) → second_at product plan G date ≤ 4 * radius product date
  pub lumps : (date : ℕ) → date ≤ product.months
      → second_with_lumps product plan G date ≤ 4 * radius product date + 5
  pub cells : (month cells : ℕ) → month < product.months → cells ≤ 32
      → second_inside product plan G month cells ≤ 4 * radius_inside product month cells + 5

-- so it is for any plan whose bound is within 1024 G
abbrev pub SecondIsFourfold : Type 0
SecondIsFourfold = (product : Product) (plan : Plan) (G : ℕ) → IsWellFormed product → ObeysAllMonths product
    → 1 ≤ G → bound1024 product plan ≤ 1024 * G → IsFourfold product plan G

-- the second radius of the payment plan, and each value on the way to it
pub record HasSmallSecond (product : Product) (G : ℕ) : Type 0 where
  pub fourfold : (date : ℕ) → second_radius product date ≤ 4 * radius product date
  pub dates : (date : ℕ) → second_radius product date < 2 ^ 41
  pub lumps : (date : ℕ) → date ≤ product.months
      → second_with_lumps product (payment_plan product) G date ≤ 4 * greatest_radius + 5
  pub cells : (month cells : ℕ) → month < product.months → cells ≤ 32
      → second_inside product (payment_plan product) G month cells ≤ 4 * greatest_radius + 5

-- they are so small where rules 15 to 17 hold in each month, for the G of the payment plan
abbrev pub SecondStaysSmall : Type 0
SecondStaysSmall = (product : Product) → IsWellFormed product → ObeysAllMonths product
    → HasSmallSecond product (2 ^ scale product (payment_plan product))
