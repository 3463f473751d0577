-- The second radius over a term.
use Rattle.std.specs.Prelude.{ℕ, zero, suc, ◌+◌, ◌-◌, ◌*◌, ◌^◌, ◌<◌, ◌≤◌, length}
use Rattle.std.proofs.Common.{arith, ap, ◌∙◌}
use Rattle.std.proofs.lemmas.Nat.{pow_pos}
use Rattle.model_specs.specs.Product.{Product}
use Rattle.model_specs.specs.Payments.{Plan, lumps_at, payment_plan}
use Rattle.model_specs.specs.Growth.{kappa40, pay}
use Rattle.model_specs.specs.Ledgers.{greatest_lump, bound_before_term, bound1024, scale}
use Rattle.model_specs.specs.Ledgers.{radius_before_term, radius, second_radius, second_grow_cells, date_adds}
use Rattle.model_specs.specs.Ledgers.{second_before_term}
use Rattle.model_specs.specs.RecordRules.{IsWellFormed}
use Rattle.ledger_laws.specs.MonthLaws.{ObeysAllMonths}
use Rattle.ledger_laws.specs.GrowthLaws.{greatest_radius}
use Rattle.ledger_laws.specs.BoundLaws.{bound_at, bound_with_lumps, bound_inside}
use Rattle.ledger_laws.specs.SecondLaws.{second_at, second_with_lumps, second_inside, radius_inside}
use Rattle.ledger_laws.specs.SecondLaws.{SecondGoesBack, IsFourfold, SecondIsFourfold}
use Rattle.ledger_laws.specs.SecondLaws.{SecondStaysSmall}
use Rattle.ledger_laws.proofs.BoundFacts.{months_left, month_of, at_within, lumps_within, scale_enough}
use Rattle.ledger_laws.proofs.BoundFacts.{inside_within}
use Rattle.ledger_laws.proofs.GrowthFacts.{backward_small, radii_small_inside}
use Rattle.ledger_laws.proofs.MonthFacts.{month_numbers}
use Rattle.ledger_laws.proofs.Rounding.{le_through}
use Rattle.ledger_laws.proofs.SecondSteps.{with_lumps_within, cells_within, later_cells_within, fourfold}
use Rattle.ledger_laws.proofs.SecondSteps.{nearly_fourfold}

-- a month back, at its month and with the first radius where it begins
abbrev month_on : Product → Plan → ℕ → ℕ → ℕ → ℕ → ℕ
month_on product plan G months month date =
    second_grow_cells (kappa40 product month) (pay product plan month) G (radius_before_term product months)
    (second_before_term product plan G months
    + date_adds (lumps_at (length product.states) plan date) (greatest_lump product plan date)
    (radius_before_term product months) G) 32

pub second_back : SecondGoesBack
second_back product plan G month below =
    ap (second_before_term product plan G) (months_left product.months month below)
    ∙ ap (λ m. month_on product plan G (product.months - suc month) m (suc m))
    (month_of product.months month below)

module _ (product : Product) (plan : Plan) (G : ℕ) (well : IsWellFormed product) (rules : ObeysAllMonths product)
    (some : 1 ≤ G) where
  pub kappa_small : (month : ℕ) → month < product.months → kappa40 product month ≤ 2 ^ 40
  kappa_small month below = small (kappa40 product month)
      (month_numbers product month well (rules month below)).kappa_below
    where
      small : (k : ℕ) → k ≤ 2 ^ 28 → k ≤ 2 ^ 40
      small k h = omega arith

  -- G times the second radius against the bound and the first radius
  pub before_term : (months : ℕ) → months ≤ product.months → 512 * G * second_before_term product plan G months
      ≤ (bound_before_term product plan months + 1024 * G) * radius_before_term product months
  before_term zero within = omega arith
  before_term (suc months) within =
      let month = product.months - suc months in
      let largest = greatest_lump product plan (suc month) in
      let lumps = lumps_at (length product.states) plan (suc month) in
      let w = radius_before_term product months in
      later_cells_within (kappa40 product month) (pay product plan month) G w
      (second_before_term product plan G months + date_adds lumps largest w G)
      (bound_before_term product plan months + 1024 * largest)
      (kappa_small month (omega arith)) some
      (with_lumps_within lumps (second_before_term product plan G months) largest w G
      (bound_before_term product plan months) some (before_term months (omega arith)))
      31

  at_date : (date : ℕ) → 512 * G * second_at product plan G date
      ≤ (bound_at product plan date + 1024 * G) * radius product date
  at_date date = before_term (product.months - date) (omega arith)

  with_lumps : (date : ℕ) → 512 * G * second_with_lumps product plan G date
      ≤ (bound_with_lumps product plan date + 1024 * G) * radius product date + 2560 * G
  with_lumps date =
      with_lumps_within (lumps_at (length product.states) plan date) (second_at product plan G date)
      (greatest_lump product plan date) (radius product date) G (bound_at product plan date) some (at_date date)

  inside : (month cells : ℕ) → month < product.months → 512 * G * second_inside product plan G month cells
      ≤ (bound_inside product plan month cells + 1024 * G) * radius_inside product month cells + 2560 * G
  inside month cells below =
      cells_within (kappa40 product month) (pay product plan month) G (radius product (suc month))
      (second_with_lumps product plan G (suc month)) (bound_with_lumps product plan (suc month))
      (kappa_small month below) some (with_lumps (suc month)) cells

  pub is_fourfold : bound1024 product plan ≤ 1024 * G → IsFourfold product plan G
  is_fourfold enough = record {
    dates = λ date. fourfold (second_at product plan G date) (radius product date) G (bound_at product plan date) some
        (le_through (bound_at product plan date) (bound1024 product plan) (1024 * G)
        (at_within product plan date) enough)
        (at_date date);
    lumps = λ date within. nearly_fourfold (second_with_lumps product plan G date) (radius product date) G
        (bound_with_lumps product plan date) some
        (le_through (bound_with_lumps product plan date) (bound1024 product plan) (1024 * G)
        (lumps_within product plan date within) enough)
        (with_lumps date);
    cells = λ month cells below within. nearly_fourfold (second_inside product plan G month cells)
        (radius_inside product month cells) G (bound_inside product plan month cells) some
        (le_through (bound_inside product plan month cells) (bound1024 product plan) (1024 * G)
        (inside_within product plan month cells below within) enough)
        (inside month cells below);
  }

pub second_fourfold : SecondIsFourfold
second_fourfold product plan G well rules some enough = is_fourfold product plan G well rules some enough

pub second_small : SecondStaysSmall
second_small product well rules =
    let plan = payment_plan product in
    let G = 2 ^ scale product plan in
    let four = is_fourfold product plan G well rules (pow_pos (scale product plan)) (scale_enough product plan) in
    record {
      fourfold = four.dates;
      dates = λ date. below (second_radius product date) (radius product date) (four.dates date)
          (backward_small product well rules date);
      lumps = λ date within. five_more (second_with_lumps product plan G date) (radius product date)
          (four.lumps date within) (backward_small product well rules date);
      cells = λ month cells below within. five_more (second_inside product plan G month cells)
          (radius_inside product month cells) (four.cells month cells below within)
          (radii_small_inside product well rules month cells below within).backward;
    }
  where
    below : (second w : ℕ) → second ≤ 4 * w → w ≤ greatest_radius → second < 2 ^ 41
    below second w h k = omega arith

    five_more : (second w : ℕ) → second ≤ 4 * w + 5 → w ≤ greatest_radius → second ≤ 4 * greatest_radius + 5
    five_more second w h k = omega arith
