-- The bound of a plan whose payments are small.
use Rattle.std.specs.Prelude.{◌≡◌, ℕ, zero, suc, ◌+◌, ◌-◌, ◌*◌, ◌^◌, ◌<◌, ◌≤◌, nat_le, true}
use Rattle.std.proofs.Common.{arith}
use Rattle.std.proofs.lemmas.Bool.Decides.{nat_tests}
use Rattle.std.proofs.lemmas.Nat.{mul-le}
use Rattle.frac_laws.proofs.LedgerLaws.{scale_of_bound-scale}
use Rattle.model_specs.specs.Product.{Product}
use Rattle.model_specs.specs.Payments.{Plan, payment_plan, pattern_plan}
use Rattle.model_specs.specs.Growth.{kappa40, pay, greatest_sum}
use Rattle.model_specs.specs.Ledgers.{grow_cells, greatest_lump, bound_before_term, bound1024, scale}
use Rattle.model_specs.specs.RecordRules.{IsWellFormed}
use Rattle.ledger_laws.specs.MonthLaws.{ObeysAllMonths, greatest_kappa40}
use Rattle.ledger_laws.specs.PlanBoundLaws.{AddsAtMost, PlanBoundStaysSmall, PaymentBoundStaysSmall}
use Rattle.ledger_laws.specs.PlanBoundLaws.{PatternBoundStaysSmall, AdmissibleScaleIsSmall}
use Rattle.ledger_laws.proofs.GrowthFacts.{scaled_cells, kappa_most}
use Rattle.ledger_laws.proofs.LongestLedgers.{unit_months, century_months}
use Rattle.ledger_laws.proofs.MonthFacts.{admissible_obeys_18}
use Rattle.ledger_laws.proofs.PaymentFacts.{payment_loads, pattern_loads, payments_pay, pattern_pays}
use Rattle.ledger_laws.proofs.Rounding.{cells_mono, never_falls, rises_far, le_through}

-- a month of a ledger against a month of the one that adds 1
month_scaled : (w lump add times t kappa : ℕ) → w ≤ times * t → lump ≤ times → add ≤ times
    → kappa ≤ greatest_kappa40
    → grow_cells kappa add (w + lump) 32 ≤ times * grow_cells greatest_kappa40 1 (t + 1) 32
month_scaled w lump add times t kappa most lumps adds small =
    le_through (grow_cells kappa add (w + lump) 32) (grow_cells greatest_kappa40 add (w + lump) 32)
    (times * grow_cells greatest_kappa40 1 (t + 1) 32)
    (cells_mono (w + lump) (w + lump) kappa greatest_kappa40 add add 32 (le_same (w + lump)) small (le_same add))
    (scaled_cells (w + lump) add times (t + 1) greatest_kappa40 32 (with_lump w lump times t most lumps) adds)
  where
    le_same : (a : ℕ) → a ≤ a
    le_same a = omega arith

    with_lump : (w lump times t : ℕ) → w ≤ times * t → lump ≤ times → w + lump ≤ times * (t + 1)
    with_lump w lump times t h k = omega (arith, h, k)

unit_rises : (months : ℕ) → unit_months 1 months ≤ unit_months 1 (suc months)
unit_rises months = le_through (unit_months 1 months) (unit_months 1 months + 1) (unit_months 1 (suc months))
    (one_more (unit_months 1 months)) (never_falls greatest_kappa40 1 (unit_months 1 months + 1) 0 32 (omega arith))
  where
    one_more : (a : ℕ) → a ≤ a + 1
    one_more a = omega arith

module _ (product : Product) (plan : Plan) (most : ℕ) (well : IsWellFormed product) (rules : ObeysAllMonths product)
    (adds : AddsAtMost product plan most) where
  bound_scaled : (months : ℕ) → months ≤ product.months
      → bound_before_term product plan months ≤ most * unit_months 1 months
  bound_scaled zero within = once (1024 * greatest_sum product plan) most adds.sums
    where
      once : (a m : ℕ) → a ≤ m → a ≤ m * 1
      once a m h = omega arith
  bound_scaled (suc months) within =
      let month = product.months - suc months in
      month_scaled (bound_before_term product plan months) (1024 * greatest_lump product plan (suc month))
      (pay product plan month) most (unit_months 1 months) (kappa40 product month)
      (bound_scaled months (omega arith)) (adds.lumps (suc month)) (adds.pays month (omega arith))
      (kappa_most product well rules month (omega arith))

  pub bound_most : bound1024 product plan ≤ 2 ^ 26 * most
  bound_most = total (bound_before_term product plan product.months) (1024 * greatest_lump product plan 0) most
      (unit_months 1 product.months) (unit_months 1 1200)
      (bound_scaled product.months (le_same product.months)) (adds.lumps 0)
      (rises_far (unit_months 1) unit_rises product.months 1200 well.head.at_most_a_century) century_months
    where
      le_same : (a : ℕ) → a ≤ a
      le_same a = omega arith

      total : (bound lump most t last : ℕ) → bound ≤ most * t → lump ≤ most → t ≤ last → last ≡ 46786362
          → bound + lump ≤ 2 ^ 26 * most
      total bound lump most t last h l order is =
          let top : most * t ≤ most * 46786362 = mul-le most t most 46786362 (omega arith) (omega (arith, order, is)) in
          omega (arith, h, l, top)

pub plan_bound : PlanBoundStaysSmall
plan_bound product plan most well rules adds = bound_most product plan most well rules adds

-- 1024 times the largest lump is the most that a payment plan adds, and 1024 what a pattern does
payments_add : (product : Product) → IsWellFormed product → ObeysAllMonths product
    → AddsAtMost product (payment_plan product) (9216 * 10 ^ 12)
payments_add product well rules = record {
  sums = sum (greatest_sum product (payment_plan product)) (payment_loads product well).greatest_sum;
  lumps = λ date. lump (greatest_lump product (payment_plan product) date) ((payment_loads product well).lumps date);
  pays = λ month below. cell (pay product (payment_plan product) month)
      (payments_pay product month well (rules month below) below).cells;
}
  where
    sum : (s : ℕ) → s ≤ 9 * 10 ^ 12 → 1024 * s ≤ 9216 * 10 ^ 12
    sum s h = omega arith

    lump : (l : ℕ) → l ≤ 10 ^ 12 → 1024 * l ≤ 9216 * 10 ^ 12
    lump l h = omega arith

    cell : (p : ℕ) → p ≤ 144 * 10 ^ 12 → p ≤ 9216 * 10 ^ 12
    cell p h = omega arith

pattern_adds : (product : Product) → IsWellFormed product → ObeysAllMonths product
    → AddsAtMost product (pattern_plan product) 1024
pattern_adds product well rules = record {
  sums = sum (greatest_sum product (pattern_plan product)) (pattern_loads product).greatest_sum;
  lumps = λ date. lump (greatest_lump product (pattern_plan product) date) ((pattern_loads product).lumps date);
  pays = λ month below. cell (pay product (pattern_plan product) month)
      (pattern_pays product month well (rules month below) below).cells;
}
  where
    sum : (s : ℕ) → s ≤ 0 → 1024 * s ≤ 1024
    sum s h = omega arith

    lump : (l : ℕ) → l ≤ 1 → 1024 * l ≤ 1024
    lump l h = omega arith

    cell : (p : ℕ) → p ≤ 6 → p ≤ 1024
    cell p h = omega arith

-- the scale is the least one
scale_least : (product : Product) (plan : Plan) (g : ℕ) → bound1024 product plan ≤ 1024 * 2 ^ g
    → scale product plan ≤ g
scale_least product plan g enough = (scale_of_bound-scale (bound1024 product plan)).least g enough

pub payment_bound : PaymentBoundStaysSmall
payment_bound product well rules =
    let plan = payment_plan product in
    let small = bound_most product plan (9216 * 10 ^ 12) well rules (payments_add product well rules) in
    record {
      bound = below (bound1024 product plan) small;
      scale = scale_least product plan 70 (scaled (bound1024 product plan) small);
    }
  where
    below : (b : ℕ) → b ≤ 2 ^ 26 * (9216 * 10 ^ 12) → b < 2 ^ 80
    below b h = omega arith

    scaled : (b : ℕ) → b ≤ 2 ^ 26 * (9216 * 10 ^ 12) → b ≤ 1024 * 2 ^ 70
    scaled b h = omega arith

pub admissible_scale : AdmissibleScaleIsSmall
admissible_scale product admissible =
    let plan = payment_plan product in
    let most = within_from_test (bound1024 product plan) (2 ^ 66) (admissible_obeys_18 product admissible) in
    (most, scale_least product plan 56 (scaled (bound1024 product plan) most))
  where
    within_from_test : (a b : ℕ) → nat_le a b ≡ true → a ≤ b
    within_from_test a b h = grind (arith, nat_tests)

    scaled : (b : ℕ) → b ≤ 2 ^ 66 → b ≤ 1024 * 2 ^ 56
    scaled b h = omega arith

pub pattern_bound : PatternBoundStaysSmall
pattern_bound product well rules =
    let plan = pattern_plan product in
    let small = bound_most product plan 1024 well rules (pattern_adds product well rules) in
    record {
      most = within (bound1024 product plan) small;
      below = below (bound1024 product plan) small;
      scale = scale_least product plan 26 (scaled (bound1024 product plan) small);
    }
  where
    within : (b : ℕ) → b ≤ 2 ^ 26 * 1024 → b ≤ 2 ^ 36
    within b h = omega arith

    below : (b : ℕ) → b ≤ 2 ^ 26 * 1024 → b < 2 ^ 39
    below b h = omega arith

    scaled : (b : ℕ) → b ≤ 2 ^ 26 * 1024 → b ≤ 1024 * 2 ^ 26
    scaled b h = omega arith
