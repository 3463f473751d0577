-- The ledgers counted by the months that are left to the term, as their definitions go, with each cell on the way.
use Rattle.std.specs.Prelude.{ℕ, suc, ◌+◌, ◌-◌, ◌*◌, ◌<◌, ◌≤◌, length}
use Rattle.model_specs.specs.Product.{Product}
use Rattle.model_specs.specs.Payments.{Plan, lumps_at}
use Rattle.model_specs.specs.Growth.{kappa40, pay}
use Rattle.model_specs.specs.Ledgers.{grow_cells, greatest_lump, bound_before_term, bound1024, radius_before_term}
use Rattle.model_specs.specs.Ledgers.{second_grow_cells, date_adds, second_before_term}
use Rattle.model_specs.specs.RecordRules.{IsWellFormed}
use Rattle.ledger_laws.specs.MonthLaws.{ObeysAllMonths}
use Rattle.ledger_laws.specs.GrowthLaws.{greatest_radius}

-- the month that ends some months before the term
abbrev pub month_ending : Product → ℕ → ℕ
month_ending product months = product.months - suc months

-- the first radius after some cells of that month, from its end on
abbrev pub radius_cells : Product → ℕ → ℕ → ℕ
radius_cells product months cells =
    grow_cells (kappa40 product (month_ending product months)) 1024 (radius_before_term product months) cells

-- the bound after some cells of that month, with the lumps of its end, in 1/1024 minor units
abbrev pub bound_cells : Product → Plan → ℕ → ℕ → ℕ
bound_cells product plan months cells =
    let month = month_ending product months in
    grow_cells (kappa40 product month) (pay product plan month)
    (bound_before_term product plan months + 1024 * greatest_lump product plan (suc month)) cells

-- the second radius after some cells of that month, with what the lumps of its end add; G is 2^scale
abbrev pub second_cells : Product → Plan → ℕ → ℕ → ℕ → ℕ
second_cells product plan G months cells =
    let month = month_ending product months in
    let w = radius_before_term product months in
    let lumps = lumps_at (length product.states) plan (suc month) in
    second_grow_cells (kappa40 product month) (pay product plan month) G w
    (second_before_term product plan G months
    + date_adds lumps (greatest_lump product plan (suc month)) w G) cells

-- the first radius on its way
pub record KeepsRadiusSmall (product : Product) : Type 0 where
  pub months : (months : ℕ) → months ≤ product.months → radius_before_term product months ≤ greatest_radius
  pub cells : (months cells : ℕ) → months < product.months → cells ≤ 32
      → radius_cells product months cells ≤ greatest_radius

-- it stays so small where rules 15 to 17 hold in each month
abbrev pub RadiusStaysSmallBeforeTerm : Type 0
RadiusStaysSmallBeforeTerm = (product : Product) → IsWellFormed product → ObeysAllMonths product
    → KeepsRadiusSmall product

-- the bound after each cell is at most the last one
abbrev pub BoundIsGreatestBeforeTerm : Type 0
BoundIsGreatestBeforeTerm = (product : Product) (plan : Plan) (months cells : ℕ) → months < product.months
    → cells ≤ 32 → bound_cells product plan months cells ≤ bound1024 product plan

-- the second radius beside the first one
pub record KeepsFourfold (product : Product) (plan : Plan) (G : ℕ) : Type 0 where
  pub months : (months : ℕ) → months ≤ product.months
      → second_before_term product plan G months ≤ 4 * radius_before_term product months
  pub cells : (months cells : ℕ) → months < product.months → cells ≤ 32
      → second_cells product plan G months cells ≤ 4 * radius_cells product months cells + 5

-- at most four times the first, and 5 more inside a month, where those rules hold and the bound is within 1024 G
abbrev pub SecondIsFourfoldBeforeTerm : Type 0
SecondIsFourfoldBeforeTerm = (product : Product) (plan : Plan) (G : ℕ) → IsWellFormed product
    → ObeysAllMonths product → 1 ≤ G → bound1024 product plan ≤ 1024 * G → KeepsFourfold product plan G
