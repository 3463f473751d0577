-- The bound ledger never falls.
use Rattle.std.specs.Prelude.{◌≡◌, ℕ, zero, suc, ◌+◌, ◌-◌, ◌*◌, ◌^◌, ◌<◌, ◌≤◌}
use Rattle.std.specs.Int.{div_ceil}
use Rattle.std.proofs.Common.{arith, ap, ◌∙◌}
use Rattle.frac_laws.proofs.LedgerLaws.{scale_of_bound-scale}
use Rattle.model_specs.specs.Product.{Product}
use Rattle.model_specs.specs.Payments.{Plan}
use Rattle.model_specs.specs.Growth.{kappa40, pay, greatest_sum}
use Rattle.model_specs.specs.Ledgers.{grow_cells, greatest_lump, bound_before_term, bound1024, scale}
use Rattle.ledger_laws.specs.BoundLaws.{bound_at, bound_with_lumps, bound_inside, StaysWithin, AddsPartsWithin}
use Rattle.ledger_laws.specs.BoundLaws.{BoundGoesBack, BoundNeverFalls, BoundIsGreatest, BoundHasAllParts}
use Rattle.ledger_laws.specs.BoundLaws.{ScaleBoundsLedger, ScalesParts, ScaleBoundsParts}
use Rattle.ledger_laws.proofs.Rounding.{never_falls, rises_far, le_through, le_when_same}

-- the months before the term, and the month there
pub months_left : (months month : ℕ) → month < months → months - month ≡ suc (months - suc month)
months_left months month below = omega arith

pub month_of : (months month : ℕ) → month < months → months - suc (months - suc month) ≡ month
month_of months month below = omega arith

pub date_of : (months month : ℕ) → month < months → suc (months - suc (months - suc month)) ≡ suc month
date_of months month below = omega arith

pub bound_back : BoundGoesBack
bound_back product plan month below =
    ap (bound_before_term product plan) (months_left product.months month below)
    ∙ ap (λ m. grow_cells (kappa40 product m) (pay product plan m)
    (bound_before_term product plan (product.months - suc month) + 1024 * greatest_lump product plan (suc m)) 32)
    (month_of product.months month below)

is_least : (a b c : ℕ) → a ≡ b → c ≤ b → c ≤ a
is_least a b c e h = omega arith

-- what cells add
pub cells_add : (kappa add w cells : ℕ) → w + cells * add ≤ grow_cells kappa add w cells
cells_add kappa add w zero = omega arith
cells_add kappa add w (suc cells) = one_more w (cells * add) add (grow_cells kappa add w cells)
    (div_ceil (grow_cells kappa add w cells * kappa) (2 ^ 40)) (suc cells * add)
    (cells_add kappa add w cells) (next cells add)
  where
    next : (cells add : ℕ) → suc cells * add ≡ cells * add + add
    next cells add = grind arith

    one_more : (w adds add v growth total : ℕ) → w + adds ≤ v → total ≡ adds + add → w + total ≤ v + growth + add
    one_more w adds add v growth total h e = omega arith

module _ (product : Product) (plan : Plan) where
  month_rises : (months : ℕ) → bound_before_term product plan months
      + 1024 * greatest_lump product plan (suc (product.months - suc months))
      ≤ bound_before_term product plan (suc months)
  month_rises months =
      let month = product.months - suc months in
      never_falls (kappa40 product month) (pay product plan month)
      (bound_before_term product plan months + 1024 * greatest_lump product plan (suc month)) 0 32 (omega arith)

  left_of_sum : (a b c : ℕ) → a + b ≤ c → a ≤ c
  left_of_sum a b c h = omega arith

  right_of_sum : (a b c : ℕ) → a + b ≤ c → b ≤ c
  right_of_sum a b c h = omega arith

  pub rises : (months : ℕ) → bound_before_term product plan months ≤ bound_before_term product plan (suc months)
  rises months = left_of_sum (bound_before_term product plan months)
      (1024 * greatest_lump product plan (suc (product.months - suc months)))
      (bound_before_term product plan (suc months)) (month_rises months)

  pub months_within : (months : ℕ) → months ≤ product.months
      → bound_before_term product plan months ≤ bound1024 product plan
  months_within months within =
      let last = bound_before_term product plan product.months in
      le_through (bound_before_term product plan months) last (bound1024 product plan)
      (rises_far (bound_before_term product plan) rises months product.months within)
      (less_than_sum last (1024 * greatest_lump product plan 0))
    where
      less_than_sum : (a b : ℕ) → a ≤ a + b
      less_than_sum a b = omega arith

  pub at_within : (date : ℕ) → bound_at product plan date ≤ bound1024 product plan
  at_within date = months_within (product.months - date) (omega arith)

  pub inside_at : (month cells : ℕ) → month < product.months → cells ≤ 32
      → bound_inside product plan month cells ≤ bound_at product plan month
  inside_at month cells below within =
      is_least (bound_at product plan month) (bound_inside product plan month 32)
      (bound_inside product plan month cells) (bound_back product plan month below)
      (never_falls (kappa40 product month) (pay product plan month) (bound_with_lumps product plan (suc month))
      cells 32 within)

  pub inside_within : (month cells : ℕ) → month < product.months → cells ≤ 32
      → bound_inside product plan month cells ≤ bound1024 product plan
  inside_within month cells below within =
      le_through (bound_inside product plan month cells) (bound_at product plan month) (bound1024 product plan)
      (inside_at month cells below within) (at_within month)

  pub lumps_within : (date : ℕ) → date ≤ product.months
      → bound_with_lumps product plan date ≤ bound1024 product plan
  lumps_within zero within = le_when_same (bound_with_lumps product plan 0) (bound1024 product plan)
      (ap (λ m. bound_before_term product plan m + 1024 * greatest_lump product plan 0) (all_months product.months))
    where
      all_months : (months : ℕ) → months - 0 ≡ months
      all_months months = omega arith
  lumps_within (suc month) within = inside_within month 0 within (omega arith)

  pay_within : (month : ℕ) → month < product.months → 32 * pay product plan month ≤ bound1024 product plan
  pay_within month below =
      right_of_sum (bound_with_lumps product plan (suc month)) (32 * pay product plan month) (bound1024 product plan)
      (le_through (bound_with_lumps product plan (suc month) + 32 * pay product plan month)
      (bound_inside product plan month 32) (bound1024 product plan)
      (cells_add (kappa40 product month) (pay product plan month) (bound_with_lumps product plan (suc month)) 32)
      (inside_within month 32 below (omega arith)))

  pub bound_parts : AddsPartsWithin product plan (bound1024 product plan)
  bound_parts = record {
    pays = pay_within;
    lumps = λ date within. right_of_sum (bound_at product plan date) (1024 * greatest_lump product plan date)
        (bound1024 product plan) (lumps_within date within);
    sums = months_within 0 (omega arith);
  }

  pub bound_greatest : StaysWithin product plan (bound1024 product plan)
  bound_greatest = record { months = months_within; dates = lumps_within; cells = inside_within }

  pub scale_enough : bound1024 product plan ≤ 1024 * 2 ^ scale product plan
  scale_enough = (scale_of_bound-scale (bound1024 product plan)).enough

stays_wider : (product : Product) (plan : Plan) (limit wider : ℕ) → limit ≤ wider → StaysWithin product plan limit
    → StaysWithin product plan wider
stays_wider product plan limit wider order stays = record {
  months = λ months within. le_through (bound_before_term product plan months) limit wider
      (stays.months months within) order;
  dates = λ date within. le_through (bound_with_lumps product plan date) limit wider (stays.dates date within) order;
  cells = λ month cells below within. le_through (bound_inside product plan month cells) limit wider
      (stays.cells month cells below within) order;
}

scales : (product : Product) (plan : Plan) (limit largest : ℕ) → limit ≤ 1024 * largest
    → AddsPartsWithin product plan limit → ScalesParts product plan largest
scales product plan limit largest order parts = record {
  pays = λ month below. pay_scaled (pay product plan month) limit largest (parts.pays month below) order;
  lumps = λ date within. sum_scaled (greatest_lump product plan date) limit largest (parts.lumps date within) order;
  sums = sum_scaled (greatest_sum product plan) limit largest parts.sums order;
}
  where
    pay_scaled : (pay limit largest : ℕ) → 32 * pay ≤ limit → limit ≤ 1024 * largest → pay ≤ 32 * largest
    pay_scaled pay limit largest h k = omega arith

    sum_scaled : (sum limit largest : ℕ) → 1024 * sum ≤ limit → limit ≤ 1024 * largest → sum ≤ largest
    sum_scaled sum limit largest h k = omega arith

pub never_falls_by_months : BoundNeverFalls
never_falls_by_months product plan months = rises product plan months

pub greatest_is_bound : BoundIsGreatest
greatest_is_bound product plan = bound_greatest product plan

pub has_all_parts : BoundHasAllParts
has_all_parts product plan = bound_parts product plan

pub scale_bounds_ledger : ScaleBoundsLedger
scale_bounds_ledger product plan = (
  scale_enough product plan,
  stays_wider product plan (bound1024 product plan) (1024 * 2 ^ scale product plan) (scale_enough product plan)
      (bound_greatest product plan),
)

pub scale_bounds_parts : ScaleBoundsParts
scale_bounds_parts product plan = scales product plan (bound1024 product plan) (2 ^ scale product plan)
    (scale_enough product plan) (bound_parts product plan)
