-- Sweeps of both moments stay within both radius ledgers.
use Rattle.std.specs.Prelude.{◌≡◌, ℕ, zero, suc, pos, ◌+◌, ◌-◌, ◌*◌, ◌^◌, ◌<◌, ◌≤◌, unsigned_abs, List, [], ◌∷◌}
use Rattle.std.specs.Prelude.{ℤ, length, map}
use Rattle.std.specs.Int.{div_ceil}
use Rattle.std.proofs.Common.{refl, ap, sym, ◌∙◌, arith, lit≤, inl, inr, pow_pos}
use Rattle.std.proofs.lemmas.Bool.{cases_lt}
use Rattle.std.proofs.lemmas.Int.{ints}
use Rattle.std.proofs.lemmas.List.{get_or_past}
use Rattle.std.proofs.Math.IntN.{pos-*ℤ-pos}
use mathlib.Core.Path.{ap₂}
use Rattle.frac_laws.specs.Fraction.{Fraction, over, whole, size, ◌+ℚ◌, ◌-ℚ◌, ◌*ℚ◌, ◌≤ℚ◌}
use Rattle.frac_laws.specs.Ledger.{grow}
use Rattle.frac_laws.specs.Lists.{Vector, number_at, scale_list, subtract_lists}
use Rattle.frac_laws.specs.Norms.{Sup, sizes}
use Rattle.frac_laws.proofs.FractionTerms.{ring, terms}
use Rattle.frac_laws.proofs.Linear.{linear, claims, natural, ◌⊞◌, ◌⊠◌}
use Rattle.frac_laws.proofs.LedgerFacts.{rounded_up_le}
use Rattle.frac_laws.proofs.Norms.{greatest_below, number_at-sizes, number_below_norm, size_zero}
use Rattle.frac_laws.proofs.Order.{le_trans, le_of_equal, mul_mono}
use Rattle.frac_laws.proofs.Quotients.{over_is, over_mul, whole_add, whole_mul}
use Rattle.frac_laws.proofs.Sizes.{size_add, size_sub, size_mul, size_of_natural, size_natural}
use Rattle.frac_laws.proofs.Vectors.{number_at-scale_list, number_at-subtract_lists}
use Rattle.cell_laws.specs.ErrorLaws.{distance}
use Rattle.model_specs.specs.Product.{Product}
use Rattle.model_specs.specs.Payments.{Plan, payment_plan, lump_at, lumps_at}
use Rattle.whole_laws.specs.Whole.{greatest_natural}
use Rattle.model_specs.specs.Growth.{kappa40, pay}
use Rattle.model_specs.specs.ValuationRules.{IsAdmissible}
use Rattle.model_specs.specs.Systems.{norberg_pair}
use Rattle.model_specs.specs.Ledgers.{date_adds, greatest_lump, scale, radius_before_term, second_before_term}
use Rattle.model_specs.specs.Runs.{Moments, before_lumps, moments_before_term, lump_vector}
use Rattle.whole_laws.proofs.ListsByPlace.{at-list_of, past-list_of}
use Rattle.product_cells.specs.EachCell.{plan_scaling, backward_cell}
use Rattle.sweep_laws.specs.SweepLaws.{units}
use Rattle.sweep_laws.specs.PairSweepLaws.{AnswersDate, IsPairSweep, PairStaysNear, PairSweepsStayNear}
use Rattle.sweep_laws.specs.ScaledSteps.{both_first, both_second}
use Rattle.moment_laws.specs.SecondMomentLaws.{moments_after_cells}
use Rattle.ledger_laws.specs.BeforeTermLaws.{radius_cells, second_cells, KeepsRadiusSmall, KeepsFourfold}
use Rattle.ledger_laws.proofs.BeforeTerm.{radius_small, second_fourfold}
use Rattle.ledger_laws.proofs.BoundFacts.{scale_bounds_ledger}
use Rattle.ledger_laws.proofs.MonthFacts.{admissible_obeys}
use Rattle.moment_laws.proofs.ScaledRuns.{scale-add}
use Rattle.sweep_laws.proofs.ScaledSteps.{both_moments_step}
use Rattle.moment_laws.proofs.SecondMoments.{moments_go}
use Rattle.sweep_laws.proofs.Sweeps.{distance-shifted, units-order}
use Rattle.moment_laws.proofs.LumpSizes.{lump_within, size-whole}

-- a distance by numbers, and its numbers
pub distance_most : (u v : Vector) (r : Fraction) → whole (pos 0) ≤ℚ r
    → ((i : ℕ) → size (number_at u i -ℚ number_at v i) ≤ℚ r) → distance Sup u v ≤ℚ r
distance_most u v r some each = greatest_below (sizes (subtract_lists u v)) some (λ i.
    le_trans (le_of_equal (number_at-sizes (subtract_lists u v) i ∙ ap size (number_at-subtract_lists u v i))) (each i))

pub number_near : (u v : Vector) (i : ℕ) → size (number_at u i -ℚ number_at v i) ≤ℚ distance Sup u v
number_near u v i =
    le_trans (le_of_equal (ap size (sym (number_at-subtract_lists u v i))))
    (number_below_norm Sup (subtract_lists u v) i)

-- a date's numbers: exact z + 2 l w + l^2 against the stored ones
pub date_number : (z w l z0 w0 z1 s r t : Fraction) → size (z -ℚ z0) ≤ℚ s → size (w -ℚ w0) ≤ℚ r → size l ≤ℚ t
    → size (z1 -ℚ (z0 +ℚ whole (pos 2) *ℚ l *ℚ w0 +ℚ l *ℚ l)) ≤ℚ units 4
    → size ((z +ℚ whole (pos 2) *ℚ l *ℚ w +ℚ l *ℚ l) -ℚ z1) ≤ℚ s +ℚ whole (pos 2) *ℚ t *ℚ r +ℚ units 4
date_number z w l z0 w0 z1 s r t hz hw hl stored =
    let a = z -ℚ z0 in
    let b = whole (pos 2) *ℚ l *ℚ (w -ℚ w0) in
    let c = z1 -ℚ (z0 +ℚ whole (pos 2) *ℚ l *ℚ w0 +ℚ l *ℚ l) in
    let parts : (z +ℚ whole (pos 2) *ℚ l *ℚ w +ℚ l *ℚ l) -ℚ z1 ≡ (a +ℚ b) -ℚ c =
    ring (z ∷ w ∷ l ∷ z0 ∷ w0 ∷ z1 ∷ []) (hlevel terms) refl in
    let sized : size b ≡ whole (pos 2) *ℚ size l *ℚ size (w -ℚ w0) =
    size_mul (whole (pos 2) *ℚ l) (w -ℚ w0) ∙ ap (λ y. y *ℚ size (w -ℚ w0)) (size_mul (whole (pos 2)) l
    ∙ ap (λ y. y *ℚ size l) (size_of_natural (natural 2 1))) in
    let product = mul_mono hl hw (size_natural l) (le_trans (size_natural (w -ℚ w0)) hw) in
    rw parts (linear (size ((a +ℚ b) -ℚ c) ∷ size (a +ℚ b) ∷ size a ∷ size b ∷ size c ∷ size l ∷ size (w -ℚ w0)
    ∷ s ∷ r ∷ t ∷ units 4 ∷ [])
    (size_sub (a +ℚ b) c ⊞ size_add a b ⊞ hz ⊞ le_of_equal sized ⊞ product ⊠ natural 2 1 ⊞ stored) (hlevel claims) refl)

-- the ledger covers what a date adds
pub date_ledger : (s l w g : ℕ) → 1 ≤ g
    → units s +ℚ whole (pos 2) *ℚ (over (pos 1) g *ℚ whole (pos l)) *ℚ units w +ℚ units 4
    ≤ℚ units (s + (div_ceil (2 * l * w) g + 4))
date_ledger s l w g some =
    let rounded = rounded_up_le (2 * l * w) g some in
    let dc = div_ceil (2 * l * w) g in
    let top : over (pos (2 * l * w)) g ≡ whole (pos 2) *ℚ whole (pos l) *ℚ whole (pos w) *ℚ over (pos 1) g =
    over_is (pos (2 * l * w)) g ∙ ap (λ z. z *ℚ over (pos 1) g) (times (2 * l) w
    ∙ ap (λ z. z *ℚ whole (pos w)) (times 2 l)) in
    let all : whole (pos (s + (dc + 4))) ≡ whole (pos s) +ℚ (whole (pos dc) +ℚ whole (pos 4)) =
    whole_add (pos s) (pos (dc + 4)) ∙ ap (λ z. whole (pos s) +ℚ z) (whole_add (pos dc) (pos 4)) in
    rw (over_is (pos s) (2 ^ 64), over_is (pos w) (2 ^ 64), over_is (pos (s + (dc + 4))) (2 ^ 64), all)
    (linear (whole (pos s) ∷ whole (pos l) ∷ whole (pos w) ∷ whole (pos dc) ∷ over (pos 1) g ∷ [])
    ((rw top at rounded) ⊠ natural 1 (2 ^ 64)) (hlevel claims) refl)
  where
    times : (a b : ℕ) → whole (pos (a * b)) ≡ whole (pos a) *ℚ whole (pos b)
    times a b = ap whole (sym (pos-*ℤ-pos a b)) ∙ whole_mul (pos a) (pos b)

module _ (product : Product) (date : ℕ) (v : Moments) (w0 z0 z1 : Vector) (r s : ℕ)
    (answer : AnswersDate product date w0 z0 z1) where
  abbrev plan : Plan
  plan = payment_plan product

  abbrev h : Fraction
  h = plan_scaling product plan

  abbrev states : ℕ
  states = length product.states

  abbrev l : ℕ → Fraction
  l i = whole (lump_at plan date i)

  abbrev number : ℕ → Fraction
  number i = number_at v.second i +ℚ whole (pos 2) *ℚ l i *ℚ number_at v.first i +ℚ l i *ℚ l i

  abbrev exact : Vector
  exact = scale_list (h *ℚ h) (before_lumps product plan date v).second

  exact-at : (i : ℕ) → i < states → number_at exact i ≡ h *ℚ h *ℚ number i
  exact-at i b = number_at-scale_list (h *ℚ h) (before_lumps product plan date v).second i
      ∙ ap (λ z. h *ℚ h *ℚ z) (at-list_of states number i (whole (pos 0)) b)

  beyond : (i : ℕ) → states ≤ i → number_at exact i -ℚ number_at z1 i ≡ whole (pos 0)
  beyond i b =
      ap₂ ◌-ℚ◌ (number_at-scale_list (h *ℚ h) (before_lumps product plan date v).second i
      ∙ ap (λ z. h *ℚ h *ℚ z) (past-list_of states number i (whole (pos 0)) b))
      (get_or_past z1 i (whole (pos 0)) (omega (arith, b, answer.fits)))
      ∙ ring (h ∷ []) (hlevel terms) refl

  nothing : (z : ℤ) → unsigned_abs z ≤ 0 → z ≡ pos 0
  nothing z b = grind (arith, ints, b)

  none_at : lumps_at states plan date ≡ [] → (i : ℕ) → i < states → lump_at plan date i ≡ pos 0
  none_at none i b =
      let most : greatest_lump product plan date ≡ 0 =
      ap (λ ls. greatest_natural (map (λ (x : ℕ × ℤ). unsigned_abs x.1) ls)) none in
      nothing (lump_at plan date i) (omega (arith, lump_within product plan date i b, most))

  date_near : (near : distance Sup (scale_list h v.first) w0 ≤ℚ units r)
      (near_too : distance Sup (scale_list (h *ℚ h) v.second) z0 ≤ℚ units s)
      (ls : List (ℕ × ℤ)) → lumps_at states plan date ≡ ls
      → distance Sup exact z1 ≤ℚ units (s + date_adds ls (greatest_lump product plan date) r (2 ^ scale product plan))
  date_near near near_too [] none =
      distance_most exact z1 _ (natural (s + 0) (2 ^ 64)) (λ i. elim (cases_lt i states) [
        | inl b ↦ le_trans (le_of_equal (ap size (unchanged i b)))
            (le_trans (number_near (scale_list (h *ℚ h) v.second) z0 i)
            (le_trans near_too (units-order s (s + 0) (omega arith))))
        | inr b ↦ rw (beyond i b, size_zero) (natural (s + 0) (2 ^ 64))
      ])
    where
      unchanged : (i : ℕ) → i < states
          → number_at exact i -ℚ number_at z1 i ≡ number_at (scale_list (h *ℚ h) v.second) i -ℚ number_at z0 i
      unchanged i b = ap₂ ◌-ℚ◌
          (exact-at i b ∙ ap (λ x. h *ℚ h *ℚ (number_at v.second i +ℚ whole (pos 2) *ℚ whole x *ℚ number_at v.first i
          +ℚ whole x *ℚ whole x)) (none_at none i b)
          ∙ ring (h ∷ number_at v.second i ∷ number_at v.first i ∷ []) (hlevel terms) refl
          ∙ sym (number_at-scale_list (h *ℚ h) v.second i))
          (answer.no_lumps none i)
  date_near near near_too (x ∷ ls) some =
      let most = greatest_lump product plan date in
      let G = 2 ^ scale product plan in
      let total = s + (div_ceil (2 * most * r) G + 4) in
      distance_most exact z1 (units total) (natural total (2 ^ 64)) (λ i. elim (cases_lt i states) [
        | inl b ↦ le_trans (le_of_equal (ap (λ y. size (y -ℚ number_at z1 i)) (moved i b)))
            (le_trans (date_number (number_at (scale_list (h *ℚ h) v.second) i) (number_at (scale_list h v.first) i)
            (h *ℚ l i) (number_at z0 i) (number_at w0 i) (number_at z1 i) (units s) (units r) (h *ℚ whole (pos most))
            (le_trans (number_near (scale_list (h *ℚ h) v.second) z0 i) near_too)
            (le_trans (number_near (scale_list h v.first) w0 i) near) (lump_small i b) (answer.lumps i b))
            (date_ledger s most r G (pow_pos (scale product plan))))
        | inr b ↦ rw (beyond i b, size_zero) (natural total (2 ^ 64))
      ])
    where
      moved : (i : ℕ) → i < states → number_at exact i
          ≡ number_at (scale_list (h *ℚ h) v.second) i
          +ℚ whole (pos 2) *ℚ (h *ℚ l i) *ℚ number_at (scale_list h v.first) i +ℚ (h *ℚ l i) *ℚ (h *ℚ l i)
      moved i b = exact-at i b
          ∙ ring (h ∷ number_at v.second i ∷ number_at v.first i ∷ l i ∷ []) (hlevel terms) refl
          ∙ sym (ap₂ (λ p q. p +ℚ whole (pos 2) *ℚ (h *ℚ l i) *ℚ q +ℚ (h *ℚ l i) *ℚ (h *ℚ l i))
          (number_at-scale_list (h *ℚ h) v.second i) (number_at-scale_list h v.first i))

      lump_small : (i : ℕ) → i < states → size (h *ℚ l i) ≤ℚ h *ℚ whole (pos (greatest_lump product plan date))
      lump_small i b =
          let some_h = natural 1 (2 ^ scale product plan) in
          le_trans (le_of_equal (size_mul h (l i) ∙ ap (λ z. z *ℚ size (l i)) (size_of_natural some_h)))
          (linear (h ∷ size (l i) ∷ whole (pos (greatest_lump product plan date)) ∷ [])
          (size-whole (lump_at plan date i) (greatest_lump product plan date) (lump_within product plan date i b) ⊠
          some_h)
          (hlevel claims) refl)

-- what the second half takes is counted
pub taken_counts : (pay radius g : ℕ) → 1 ≤ g
    → over (pos (2 * pay)) (1024 * g) *ℚ whole (pos radius) ≤ℚ whole (pos (div_ceil (2 * pay * radius) (1024 * g)))
taken_counts pay radius g some =
    let rounded = rounded_up_le (2 * pay * radius) (1024 * g) (omega (arith, some)) in
    le_trans (le_of_equal (over_mul (pos (2 * pay)) (pos radius) (1024 * g) 1 (omega (arith, some)) (lit≤ tt)
    ∙ ap₂ over (pos-*ℤ-pos (2 * pay) radius) (once (1024 * g)))) rounded
  where
    once : (n : ℕ) → n * 1 ≡ n
    once n = omega arith

module _ (product : Product) (n : ℕ) (admissible : IsAdmissible product) (above : 6 ≤ n) (w z : ℕ → Vector)
    (w_in z_in : ℕ → ℕ → Vector) (sweep : IsPairSweep product n w z w_in z_in) where
  abbrev paid : Plan
  paid = payment_plan product

  abbrev G : ℕ
  G = 2 ^ scale product paid

  abbrev unit : Fraction
  unit = plan_scaling product paid

  radii : KeepsRadiusSmall product
  radii = radius_small product admissible.well_formed (admissible_obeys product admissible)

  fourfold : KeepsFourfold product paid G
  fourfold = second_fourfold product paid G admissible.well_formed (admissible_obeys product admissible)
      (pow_pos (scale product paid)) ((scale_bounds_ledger product paid).0)

  abbrev IsNearAt : ℕ → Type 0
  IsNearAt months = (distance Sup (scale_list unit (moments_before_term product paid n months).first) (w months)
      ≤ℚ units (radius_before_term product months))
      × (distance Sup (scale_list (unit *ℚ unit) (moments_before_term product paid n months).second) (z months)
      ≤ℚ units (second_before_term product paid G months))

  abbrev IsNearIn : ℕ → ℕ → Type 0
  IsNearIn months done = (distance Sup (both_first product n months done) (w_in months done)
      ≤ℚ units (radius_cells product months done))
      × (distance Sup (both_second product n months done) (z_in months done)
      ≤ℚ units (second_cells product paid G months done))

  in_cells : (months done : ℕ) → months < product.months → done ≤ 32 → IsNearAt months → IsNearIn months done
  in_cells months zero inside few near =
      let date = suc (product.months - suc months) in
      let v = moments_before_term product paid n months in
      let l = lump_vector product paid date in (
        le_trans (le_of_equal (ap₂ (distance Sup) (sym (scale-add unit v.first l)) (sweep.first_lumps months inside)
            ∙ distance-shifted Sup (scale_list unit v.first) (w months) (scale_list unit l))) near.0,
        date_near product date v (w months) (z months) (z_in months 0) (radius_before_term product months)
            (second_before_term product paid G months) (sweep.second_lumps months inside) near.0 near.1
            (lumps_at (length product.states) paid date) refl,
      )
  in_cells months (suc done) inside few near =
      let low : done < 32 = omega (arith, few) in
      let month = product.months - suc months in
      let before = in_cells months done inside (omega (arith, few)) near in
      let step = both_moments_step product n months done admissible above inside low in
      let radius = radius_cells product months done in
      let second = second_cells product paid G months done in
      let taken = div_ceil (2 * pay product paid month * radius) (1024 * G) in
      let small = radii.cells months done inside (omega (arith, few)) in
      let small_too = fourfold.cells months done inside (omega (arith, few)) in
      let answers = sweep.steps months done inside low (both_first product n months done)
      (both_second product n months done)
      radius second taken step.first_fits step.second_fits step.first_starts step.second_starts before.0 before.1
      (omega (arith, small)) (omega (arith, small, small_too))
      (taken_counts (pay product paid month) radius G (pow_pos (scale product paid))) in (
        rw step.first_steps (le_trans answers.0 (units-order (grow radius (kappa40 product month) 1023)
            (grow radius (kappa40 product month) 1024) (omega arith))),
        rw step.second_steps (le_trans answers.1 (units-order (grow second (kappa40 product month) (taken + 1023))
            (grow second (kappa40 product month) (taken + 1024)) (omega arith))),
      )

  zeros_near : (c : Fraction) → distance Sup (scale_list c (moments_before_term product paid n 0).first) [] ≤ℚ units 0
  zeros_near c = distance_most (scale_list c (moments_before_term product paid n 0).first) [] (units 0)
      (natural 0 (2 ^ 64))
      (λ i. le_trans (le_of_equal (ap size (ap (λ y. y -ℚ whole (pos 0)) (number_at-scale_list c _ i
      ∙ ap (λ y. c *ℚ y) (zero_at i)) ∙ gone c) ∙ size_zero)) (natural 0 (2 ^ 64)))
    where
      gone : (x : Fraction) → x *ℚ whole (pos 0) -ℚ whole (pos 0) ≡ whole (pos 0)
      gone x = ring (x ∷ []) (hlevel terms) refl

      zero_at : (i : ℕ) → number_at (moments_before_term product paid n 0).first i ≡ whole (pos 0)
      zero_at i = elim (cases_lt i (length product.states)) [
        | inl b ↦ at-list_of (length product.states) (λ k. whole (pos 0)) i (whole (pos 0)) b
        | inr b ↦ past-list_of (length product.states) (λ k. whole (pos 0)) i (whole (pos 0)) b
      ]

  at_dates : (months : ℕ) → months ≤ product.months → IsNearAt months
  at_dates zero within = (rw sweep.first_term (zeros_near unit), rw sweep.second_term (zeros_near (unit *ℚ unit)))
  at_dates (suc months) within =
      let inside : months < product.months = omega (arith, within) in
      let last = in_cells months 32 inside (lit≤ tt) (at_dates months (omega (arith, within))) in
      let whole_month = moments_go (λ cell. norberg_pair
      (backward_cell product paid (product.months - suc months) cell)) n 32
      (moments_after_cells product paid n months 0) in (
        le_trans (le_of_equal (ap₂ (λ (m : Moments) (u : Vector). distance Sup (scale_list unit m.first) u) whole_month
            (sweep.first_months months inside))) last.0,
        le_trans (le_of_equal (ap₂ (λ (m : Moments) (u : Vector). distance Sup (scale_list (unit *ℚ unit) m.second) u)
            whole_month (sweep.second_months months inside))) last.1,
      )

  pub pair_near : PairStaysNear product n w z w_in z_in
  pair_near = record {
    at_dates = at_dates;
    in_cells = λ months done inside few. in_cells months done inside few (at_dates months (omega (arith, inside)));
  }

pub pair_sweeps_stay_near : PairSweepsStayNear
pair_sweeps_stay_near product n admissible above w z w_in z_in sweep =
    pair_near product n admissible above w z w_in z_in sweep
