-- The second moments of two degrees are close.
use Rattle.std.specs.Prelude.{◌≡◌, ℕ, zero, suc, pos, ◌+◌, ◌-◌, ◌*◌, ◌^◌, ◌<◌, ◌≤◌, [], ◌∷◌}
use Rattle.std.specs.Int.{div_ceil}
use Rattle.std.proofs.Common.{refl, ap, sym, subst, ◌∙◌, arith, lit≤, pow_pos}
use Rattle.std.proofs.Math.IntN.{pos-*ℤ-pos}
use mathlib.Core.Path.{ap₂}
use Rattle.frac_laws.specs.Fraction.{Fraction, over, whole, ◌*ℚ◌, ◌≤ℚ◌}
use Rattle.frac_laws.specs.Lists.{scale_list}
use Rattle.frac_laws.specs.Norms.{Sup}
use Rattle.frac_laws.proofs.FractionTerms.{ring, terms}
use Rattle.frac_laws.proofs.LedgerFacts.{rounded_up_le}
use Rattle.frac_laws.proofs.Linear.{linear, claims, natural, ◌⊠◌}
use Rattle.frac_laws.proofs.Order.{le_trans, le_of_equal}
use Rattle.frac_laws.proofs.Quotients.{inverse, over_mul, whole_mul}
use Rattle.cell_laws.specs.ErrorLaws.{distance}
use Rattle.model_specs.specs.Product.{Product}
use Rattle.model_specs.specs.Payments.{Plan, payment_plan}
use Rattle.model_specs.specs.Growth.{kappa40, pay}
use Rattle.model_specs.specs.ValuationRules.{IsAdmissible}
use Rattle.model_specs.specs.Systems.{norberg_pair}
use Rattle.model_specs.specs.Ledgers.{scale, radius_before_term, second_before_term, second_radius}
use Rattle.model_specs.specs.Runs.{Moments, moments_before_term, second_moment}
use Rattle.model_laws.proofs.Moments.{first_moments_agree}
use Rattle.ledger_laws.specs.BeforeTermLaws.{radius_cells, second_cells}
use Rattle.ledger_laws.proofs.BeforeTerm.{radius_small, second_fourfold}
use Rattle.ledger_laws.proofs.BoundFacts.{scale_bounds_ledger}
use Rattle.ledger_laws.proofs.MonthFacts.{admissible_obeys}
use Rattle.product_cells.specs.EachCell.{plan_scaling, backward_cell}
use Rattle.product_laws.specs.TameCells.{coupling_of}
use Rattle.moment_laws.specs.SecondMomentLaws.{moments_after_cells}
use Rattle.moment_laws.proofs.SecondMoments.{moments_go, four_power}
use Rattle.sweep_laws.specs.ScaledSteps.{both_first, both_second}
use Rattle.sweep_laws.proofs.ScaledSteps.{first_moments_step, both_moments_step}
use Rattle.limit_laws.specs.CellTails.{IsWithinRadius}
use Rattle.limit_laws.specs.Modulus.{AreCloseBy, second_moment_modulus, OfTwoDegrees, SecondMomentsConverge}
use Rattle.limit_laws.specs.Modulus.{AllSecondMomentsConverge}
use Rattle.limit_laws.proofs.CellSteps.{second_carried}
use Rattle.limit_laws.proofs.FirstMoments.{first_moments_inside}
use Rattle.limit_laws.proofs.ModulusForms.{self_within, scaled_apart, close_by, close}
use Rattle.limit_laws.proofs.ReserveModulus.{StepsOf, at_dates, inside_months}
use Rattle.limit_laws.proofs.SecondDates.{date_carried}

-- what the second half of a month's pair takes of a first radius is counted
coupling_counts : (product : Product) (plan : Plan) (month w : ℕ) → coupling_of product plan month *ℚ whole (pos w)
    ≤ℚ whole (pos (div_ceil (2 * pay product plan month * w) (1024 * 2 ^ scale product plan)))
coupling_counts product plan month w = counts (pay product plan month) (2 ^ scale product plan)
    (pow_pos (scale product plan))
  where
    once : (n : ℕ) → n * 1 ≡ n
    once n = omega arith

    counts : (pay g : ℕ) → 1 ≤ g
        → over (pos (2 * pay)) (1024 * g) *ℚ whole (pos w) ≤ℚ whole (pos (div_ceil (2 * pay * w) (1024 * g)))
    counts pay g some = le_trans
        (le_of_equal (over_mul (pos (2 * pay)) (pos w) (1024 * g) 1 (omega (arith, some)) (lit≤ tt)
        ∙ ap₂ over (pos-*ℤ-pos (2 * pay) w) (once (1024 * g))))
        (rounded_up_le (2 * pay * w) (1024 * g) (omega (arith, some)))

-- both degrees
module _ (product : Product) (n more : ℕ) (admissible : IsAdmissible product) (above : 8 ≤ n) where
  abbrev paid : Plan
  paid = payment_plan product

  abbrev G : ℕ
  G = 2 ^ scale product paid

  abbrev unit : Fraction
  unit = plan_scaling product paid

  abbrev before : ℕ → ℕ → Moments
  before degree months = moments_before_term product paid degree months

  steps : StepsOf product paid n
  steps = (first_moments_step product n admissible (omega (arith, above))).0

  later_steps : StepsOf product paid (n + more)
  later_steps = (first_moments_step product (n + more) admissible (omega (arith, above))).0

  first_at_dates : (months : ℕ) → months ≤ product.months → IsWithinRadius n (radius_before_term product months)
      (distance Sup (scale_list unit (before (n + more) months).first) (scale_list unit (before n months).first))
  first_at_dates months within = subst (IsWithinRadius n (radius_before_term product months))
      (sym (ap₂ (λ u v. distance Sup (scale_list unit u) (scale_list unit v))
      (first_moments_agree product paid (n + more) months) (first_moments_agree product paid n months)))
      (at_dates product paid n more above steps later_steps months within)

  first_inside : (months done : ℕ) → months < product.months → done ≤ 32
      → IsWithinRadius n (radius_cells product months done)
      (distance Sup (both_first product (n + more) months done) (both_first product n months done))
  first_inside months done inside few = subst (IsWithinRadius n (radius_cells product months done))
      (sym (ap₂ (λ u v. distance Sup (scale_list unit u) (scale_list unit v))
      (first_moments_inside product paid (n + more) months done) (first_moments_inside product paid n months done)))
      (inside_months product paid n more above steps later_steps months done inside few)

  abbrev AtDate : ℕ → Type 0
  AtDate months = IsWithinRadius n (second_before_term product paid G months)
      (distance Sup (scale_list (unit *ℚ unit) (before (n + more) months).second)
      (scale_list (unit *ℚ unit) (before n months).second))

  in_cells : (months done : ℕ) → months < product.months → done ≤ 32 → AtDate months
      → IsWithinRadius n (second_cells product paid G months done)
      (distance Sup (both_second product (n + more) months done) (both_second product n months done))
  in_cells months zero inside few near =
      date_carried product (suc (product.months - suc months)) (before n months) (before (n + more) months) n
      (radius_before_term product months) (second_before_term product paid G months)
      (first_at_dates months (omega (arith, inside))) near
  in_cells months (suc done) inside few near =
      let low : done < 32 = omega (arith, few) in
      let month = product.months - suc months in
      let w = radius_cells product months done in
      let step = both_moments_step product n months done admissible (omega (arith, above)) inside low in
      let later = both_moments_step product (n + more) months done admissible (omega (arith, above)) inside low in
      second_carried (kappa40 product month) n more w (second_cells product paid G months done)
      (div_ceil (2 * pay product paid month * w) (1024 * G)) (coupling_of product paid month) _
      (both_first product n months done) (both_second product n months done)
      (both_first product n months (suc done)) (both_second product n months (suc done))
      (both_first product (n + more) months done) (both_second product (n + more) months done)
      (both_first product (n + more) months (suc done)) (both_second product (n + more) months (suc done))
      step later (lit≤ tt) above (natural (2 * pay product paid month) (1024 * G))
      (coupling_counts product paid month w) (first_inside months done inside (omega (arith, few)))
      (in_cells months done inside (omega (arith, few)) near)

  second_at_dates : (months : ℕ) → months ≤ product.months → AtDate months
  second_at_dates zero within = self_within Sup n 0 (scale_list (unit *ℚ unit) (before n 0).second)
  second_at_dates (suc months) within =
      let month = λ (degree : ℕ). moments_go
      (λ cell. norberg_pair (backward_cell product paid (product.months - suc months) cell)) degree 32
      (moments_after_cells product paid degree months 0) in
      subst (IsWithinRadius n (second_before_term product paid G (suc months)))
      (sym (ap₂ (λ (u : Moments) (v : Moments). distance Sup (scale_list (unit *ℚ unit) u.second)
      (scale_list (unit *ℚ unit) v.second)) (month (n + more)) (month n)))
      (in_cells months 32 (omega (arith, within)) (lit≤ tt) (second_at_dates months (omega (arith, within))))

  pub second_close : (date state : ℕ) → AreCloseBy n (second_moment_modulus product date)
      (second_moment product (n + more) date state) (second_moment product n date state)
  second_close date state =
      let months = product.months - date in
      close_by n (4 ^ scale product paid) (second_radius product date) (unit *ℚ unit)
      (second_moment product (n + more) date state) (second_moment product n date state) _ squared
      (scaled_apart Sup (unit *ℚ unit) (before (n + more) months).second (before n months).second state
      (natural_square (natural 1 G)))
      (second_at_dates months (omega arith))
    where
      natural_square : {x : Fraction} → whole (pos 0) ≤ℚ x → whole (pos 0) ≤ℚ x *ℚ x
      natural_square {x} h = linear (x ∷ []) (h ⊠ h) (hlevel claims) refl

      square : (g h : Fraction) → g *ℚ h ≡ whole (pos 1) → g *ℚ g *ℚ (h *ℚ h) ≡ whole (pos 1)
      square g h e = ring (g ∷ h ∷ []) (hlevel terms) refl ∙ ap₂ (λ x y. x *ℚ y) e e ∙ ring [] (hlevel terms) refl

      squared : whole (pos (4 ^ scale product paid)) *ℚ (unit *ℚ unit) ≡ whole (pos 1)
      squared = ap (λ z. z *ℚ (unit *ℚ unit))
          (ap (λ k. whole (pos k)) (four_power (scale product paid))
          ∙ ap whole (sym (pos-*ℤ-pos G G)) ∙ whole_mul (pos G) (pos G))
          ∙ square (whole (pos G)) unit (inverse G (pow_pos (scale product paid)))

module _ (product : Product) (admissible : IsAdmissible product) where
  second_has_modulus : OfTwoDegrees (λ n later. (date state : ℕ) → AreCloseBy n (second_moment_modulus product date)
      (second_moment product later date state) (second_moment product n date state))
  second_has_modulus n later above more date state =
      let e : n + (later - n) ≡ later = omega (arith, more) in
      subst (λ degree. AreCloseBy n (second_moment_modulus product date)
      (second_moment product degree date state) (second_moment product n date state)) e
      (second_close product n (later - n) admissible above date state)

  few : (date : ℕ) → second_radius product date ≤ 2 ^ 45
  few date =
      let rules = admissible_obeys product admissible in
      let small = radius_small product admissible.well_formed rules in
      let plan = payment_plan product in
      let fourfold = second_fourfold product plan (2 ^ scale product plan) admissible.well_formed rules
      (pow_pos (scale product plan)) ((scale_bounds_ledger product plan).0) in
      let most = small.months (product.months - date) (omega arith) in
      let most_too = fourfold.months (product.months - date) (omega arith) in omega (arith, most, most_too)

  pub second_moments_converge : SecondMomentsConverge product
  second_moments_converge = record {
    modulus = second_has_modulus;
    close = λ n later above more date state. close n (4 ^ scale product (payment_plan product))
        (second_radius product date) (second_moment product later date state) (second_moment product n date state)
        (few date) (second_has_modulus n later above more date state);
  }

pub all_second_moments_converge : AllSecondMomentsConverge
all_second_moments_converge product admissible = second_moments_converge product admissible
