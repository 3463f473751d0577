-- The bound ledger never falls, so its last value bounds all others, and each part that went into it.
use Rattle.std.specs.Prelude.{◌≡◌, ℕ, suc, ◌+◌, ◌-◌, ◌*◌, ◌^◌, ◌<◌, ◌≤◌}
use Rattle.model_specs.specs.Product.{Product}
use Rattle.model_specs.specs.Payments.{Plan}
use Rattle.model_specs.specs.Growth.{kappa40, pay, greatest_sum}
use Rattle.model_specs.specs.Ledgers.{grow_cells, greatest_lump, bound_before_term, bound1024, scale}

-- the bound ledger at a date, before the date's lumps
abbrev pub bound_at : Product → Plan → ℕ → ℕ
bound_at product plan date = bound_before_term product plan (product.months - date)

-- the bound ledger at a date with the date's lumps
abbrev pub bound_with_lumps : Product → Plan → ℕ → ℕ
bound_with_lumps product plan date = bound_at product plan date + 1024 * greatest_lump product plan date

-- after some cells of a month, which are counted from its end
abbrev pub bound_inside : Product → Plan → ℕ → ℕ → ℕ
bound_inside product plan month cells =
    grow_cells (kappa40 product month) (pay product plan month) (bound_with_lumps product plan (suc month)) cells

-- the ledger goes from the end of a month to its start
abbrev pub BoundGoesBack : Type 0
BoundGoesBack = (product : Product) (plan : Plan) (month : ℕ) → month < product.months
    → bound_at product plan month ≡ bound_inside product plan month 32

-- it never falls from month to month, as it doesn't from cell to cell
abbrev pub BoundNeverFalls : Type 0
BoundNeverFalls = (product : Product) (plan : Plan) (months : ℕ)
    → bound_before_term product plan months ≤ bound_before_term product plan (suc months)

-- each value of the ledger is at most a limit
pub record StaysWithin (product : Product) (plan : Plan) (limit : ℕ) : Type 0 where
  pub months : (months : ℕ) → months ≤ product.months → bound_before_term product plan months ≤ limit
  pub dates : (date : ℕ) → date ≤ product.months → bound_with_lumps product plan date ≤ limit
  pub cells : (month cells : ℕ) → month < product.months → cells ≤ 32
      → bound_inside product plan month cells ≤ limit

-- each part that the ledger adds up is at most a limit in 1/1024 minor units
pub record AddsPartsWithin (product : Product) (plan : Plan) (limit : ℕ) : Type 0 where
  pub pays : (month : ℕ) → month < product.months → 32 * pay product plan month ≤ limit
  pub lumps : (date : ℕ) → date ≤ product.months → 1024 * greatest_lump product plan date ≤ limit
  pub sums : 1024 * greatest_sum product plan ≤ limit

-- no value of the ledger is above the bound
abbrev pub BoundIsGreatest : Type 0
BoundIsGreatest = (product : Product) (plan : Plan) → StaysWithin product plan (bound1024 product plan)

-- and no part of it is
abbrev pub BoundHasAllParts : Type 0
BoundHasAllParts = (product : Product) (plan : Plan) → AddsPartsWithin product plan (bound1024 product plan)

-- and so the scale bounds them
abbrev pub ScaleBoundsLedger : Type 0
ScaleBoundsLedger = (product : Product) (plan : Plan)
    → (bound1024 product plan ≤ 1024 * 2 ^ scale product plan)
    × StaysWithin product plan (1024 * 2 ^ scale product plan)

-- the parts by a largest amount in minor units: what the months pay, what each date pays, and the sums
pub record ScalesParts (product : Product) (plan : Plan) (largest : ℕ) : Type 0 where
  pub pays : (month : ℕ) → month < product.months → pay product plan month ≤ 32 * largest
  pub lumps : (date : ℕ) → date ≤ product.months → greatest_lump product plan date ≤ largest
  pub sums : greatest_sum product plan ≤ largest

-- G is such an amount
abbrev pub ScaleBoundsParts : Type 0
ScaleBoundsParts = (product : Product) (plan : Plan) → ScalesParts product plan (2 ^ scale product plan)
