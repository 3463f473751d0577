-- How large ledgers become over a term.
use Rattle.std.specs.Prelude.{◌≡◌, ℕ, zero, suc, ◌+◌, ◌-◌, ◌*◌, ◌^◌, ◌<◌, ◌≤◌}
use Rattle.std.specs.Int.{div_ceil}
use Rattle.std.proofs.Common.{arith, ap, ◌∙◌}
use Rattle.std.proofs.lemmas.Grind.{div_ceil_times}
use Rattle.std.proofs.lemmas.Nat.{mul-le}
use Rattle.std.proofs.Math.Nat.{mul-le-mul_right}
use Rattle.frac_laws.specs.Ledger.{grow}
use Rattle.model_specs.specs.Product.{Product}
use Rattle.model_specs.specs.Growth.{kappa40}
use Rattle.model_specs.specs.Ledgers.{grow_cells, radius_before_term, radius, radius_forward}
use Rattle.model_specs.specs.RecordRules.{IsWellFormed}
use Rattle.ledger_laws.specs.MonthLaws.{ObeysAllMonths, greatest_kappa40}
use Rattle.ledger_laws.specs.GrowthLaws.{GrowthKeepsOrder, CellsNeverFall, LongLedgersStaySmall}
use Rattle.ledger_laws.specs.GrowthLaws.{RadiiStaySmall, RadiusGoesBack, RadiiStaySmallInside, greatest_radius}
use Rattle.ledger_laws.proofs.LongestLedgers.{unit_century, radius_century}
use Rattle.ledger_laws.proofs.MonthFacts.{month_numbers}
use Rattle.ledger_laws.proofs.Rounding.{div_ceil_most, cells_mono, never_falls, cells_after}
use Rattle.ledger_laws.proofs.Rounding.{le_then_is, le_through}

pub keeps_order : GrowthKeepsOrder
keeps_order w v kappa higher add more cells order grows adds =
    cells_mono w v kappa higher add more cells order grows adds

pub cells_never_fall : CellsNeverFall
cells_never_fall kappa add w fewer more order = never_falls kappa add w fewer more order

-- a ledger that adds more is at most so many times the one that adds 1
share_most : (w times t kappa : ℕ) → w ≤ times * t
    → div_ceil (w * kappa) (2 ^ 40) ≤ times * div_ceil (t * kappa) (2 ^ 40)
share_most w times t kappa most =
    let part : t * kappa ≤ div_ceil (t * kappa) (2 ^ 40) * 2 ^ 40 =
    (div_ceil_times (t * kappa) (2 ^ 40) (omega arith)).0 in
    let scaled : times * (t * kappa) ≤ times * (div_ceil (t * kappa) (2 ^ 40) * 2 ^ 40) =
    mul-le times (t * kappa) times (div_ceil (t * kappa) (2 ^ 40) * 2 ^ 40) (omega arith) part in
    let whole : w * kappa ≤ times * t * kappa = mul-le-mul_right kappa most in
    let same : times * t * kappa ≡ times * (t * kappa) = grind arith in
    let right : times * (div_ceil (t * kappa) (2 ^ 40) * 2 ^ 40) ≡ times * div_ceil (t * kappa) (2 ^ 40) * 2 ^ 40 =
    grind arith in
    div_ceil_most (w * kappa) (2 ^ 40) (times * div_ceil (t * kappa) (2 ^ 40)) (omega arith)
    (omega (arith, whole, same, scaled, right))

pub scaled_grow : (w add times t kappa : ℕ) → w ≤ times * t → add ≤ times
    → grow w kappa add ≤ times * grow t kappa 1
scaled_grow w add times t kappa most adds =
    let share = share_most w times t kappa most in
    let parts : times * (t + div_ceil (t * kappa) (2 ^ 40) + 1)
    ≡ times * t + times * div_ceil (t * kappa) (2 ^ 40) + times = grind arith in
    omega (arith, most, share, parts, adds)

pub scaled_cells : (w add times t kappa cells : ℕ) → w ≤ times * t → add ≤ times
    → grow_cells kappa add w cells ≤ times * grow_cells kappa 1 t cells
scaled_cells w add times t kappa zero most adds = most
scaled_cells w add times t kappa (suc cells) most adds =
    scaled_grow (grow_cells kappa add w cells) add times (grow_cells kappa 1 t cells) kappa
    (scaled_cells w add times t kappa cells most adds) adds

pub long_ledgers : LongLedgersStaySmall
long_ledgers ledger add from_0 grows cell within =
    capped (ledger cell) (add + 1) (grow_cells greatest_kappa40 1 0 cell) (grow_cells greatest_kappa40 1 0 38400)
    (step cell within) (never_falls greatest_kappa40 1 0 cell 38400 within) unit_century
  where
    step : (cell : ℕ) → cell ≤ 38400 → ledger cell ≤ (add + 1) * grow_cells greatest_kappa40 1 0 cell
    step zero within = omega (arith, from_0)
    step (suc cell) within =
        omega (
          arith,
          grows cell (omega arith),
          scaled_grow (ledger cell) add (add + 1) (grow_cells greatest_kappa40 1 0 cell)
              greatest_kappa40 (step cell (omega arith)) (omega arith),
        )

    capped : (w times t last : ℕ) → w ≤ times * t → t ≤ last → last ≡ 45849679 → w ≤ 2 ^ 26 * times
    capped w times t last most order is =
        let top : times * t ≤ times * 2 ^ 26 = mul-le times t times (2 ^ 26) (omega arith) (omega (arith, order, is)) in
        omega (arith, most, top)

-- the radii are at most the ledger of as many cells at the greatest growth
module _ (product : Product) (well : IsWellFormed product) (rules : ObeysAllMonths product) where
  pub kappa_most : (month : ℕ) → month < product.months → kappa40 product month ≤ greatest_kappa40
  kappa_most month below = (month_numbers product month well (rules month below)).kappa_most

  month_on : (w month months : ℕ) → month < product.months → w ≤ grow_cells greatest_kappa40 1024 0 (32 * months)
      → grow_cells (kappa40 product month) 1024 w 32 ≤ grow_cells greatest_kappa40 1024 0 (32 * suc months)
  month_on w month months below within =
      le_then_is (grow_cells (kappa40 product month) 1024 w 32)
      (grow_cells greatest_kappa40 1024 (grow_cells greatest_kappa40 1024 0 (32 * months)) 32)
      (grow_cells greatest_kappa40 1024 0 (32 * suc months))
      (cells_mono w (grow_cells greatest_kappa40 1024 0 (32 * months)) (kappa40 product month) greatest_kappa40
      1024 1024 32 within (kappa_most month below) (omega arith))
      (cells_after greatest_kappa40 1024 0 (32 * months) 32
      ∙ ap (grow_cells greatest_kappa40 1024 0) (next months))
    where
      next : (months : ℕ) → 32 + 32 * months ≡ 32 * suc months
      next months = omega arith

  backward_most : (months : ℕ) → months ≤ product.months
      → radius_before_term product months ≤ grow_cells greatest_kappa40 1024 0 (32 * months)
  backward_most zero within = omega arith
  backward_most (suc months) within =
      month_on (radius_before_term product months) (product.months - suc months) months (omega arith)
      (backward_most months (omega arith))

  forward_most : (month : ℕ) → month ≤ product.months
      → radius_forward product month ≤ grow_cells greatest_kappa40 1024 0 (32 * month)
  forward_most zero within = omega arith
  forward_most (suc month) within =
      month_on (radius_forward product month) month month (omega arith) (forward_most month (omega arith))

  century : (w months : ℕ) → months ≤ product.months → w ≤ grow_cells greatest_kappa40 1024 0 (32 * months)
      → w ≤ greatest_radius
  century w months within most =
      omega (
        arith,
        most,
        never_falls greatest_kappa40 1024 0 (32 * months) 38400
            (omega (arith, well.head.at_most_a_century)),
        radius_century,
      )

  pub backward_months : (months : ℕ) → months ≤ product.months → radius_before_term product months ≤ greatest_radius
  backward_months months within =
      century (radius_before_term product months) months within (backward_most months within)

  pub backward_small : (date : ℕ) → radius product date ≤ greatest_radius
  backward_small date = backward_months (product.months - date) (omega arith)

  pub forward_small : (date : ℕ) → date ≤ product.months → radius_forward product date ≤ greatest_radius
  forward_small date within = century (radius_forward product date) date within (forward_most date within)

pub radii_small : RadiiStaySmall
radii_small product well rules date within = record {
  backward = backward_small product well rules date;
  forward = forward_small product well rules date within;
  backward_below = below (radius product date) (backward_small product well rules date);
  forward_below = below (radius_forward product date) (forward_small product well rules date within);
}
  where
    below : (w : ℕ) → w ≤ greatest_radius → w < 2 ^ 39
    below w h = omega arith

pub radius_back : RadiusGoesBack
radius_back product month below =
    ap (radius_before_term product) (months_left product.months month below)
    ∙ ap (λ m. grow_cells (kappa40 product m) 1024 (radius product (suc month)) 32)
    (month_of product.months month below)
  where
    months_left : (months month : ℕ) → month < months → months - month ≡ suc (months - suc month)
    months_left months month below = omega arith

    month_of : (months month : ℕ) → month < months → months - suc (months - suc month) ≡ month
    month_of months month below = omega arith

pub radii_small_inside : RadiiStaySmallInside
radii_small_inside product well rules month cells below within = record {
  backward = le_through (grow_cells (kappa40 product month) 1024 (radius product (suc month)) cells)
      (grow_cells (kappa40 product month) 1024 (radius product (suc month)) 32) greatest_radius
      (never_falls (kappa40 product month) 1024 (radius product (suc month)) cells 32 within)
      (is_most (radius product month) (grow_cells (kappa40 product month) 1024 (radius product (suc month)) 32)
      greatest_radius (radius_back product month below) (backward_small product well rules month));
  forward = le_through (grow_cells (kappa40 product month) 1024 (radius_forward product month) cells)
      (grow_cells (kappa40 product month) 1024 (radius_forward product month) 32) greatest_radius
      (never_falls (kappa40 product month) 1024 (radius_forward product month) cells 32 within)
      (forward_small product well rules (suc month) below);
}
  where
    is_most : (a b c : ℕ) → a ≡ b → a ≤ c → b ≤ c
    is_most a b c e h = omega arith
