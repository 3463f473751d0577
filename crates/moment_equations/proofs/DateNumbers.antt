-- The exact numbers of a date, and how near a table's numbers are to them.
use Rattle.std.specs.Prelude.{◌≡◌, ℕ, zero, suc, pos, ◌+◌, ◌-◌, ◌^◌, ◌<◌, ◌≤◌, ℤ, List, [], ◌∷◌, length, replicate}
use Rattle.std.specs.Prelude.{slice_index_or, take, drop, ◌+ℤ◌, ◌≤ℤ◌, unsigned_abs}
use Rattle.std.proofs.lemmas.Bool.{cases_lt}
use Rattle.std.proofs.lemmas.List.{get_or-take, get_or-drop, get_or_past}
use Rattle.std.proofs.lemmas.List.{length-take}
use Rattle.std.proofs.Common.{refl, ap, sym, subst, ◌∙◌, arith, inl, inr, pow_pos}
use mathlib.Core.Path.{ap₂}
use Rattle.frac_laws.specs.Fraction.{Fraction, over, whole, size, ◌-ℚ◌, ◌*ℚ◌, ◌≤ℚ◌}
use Rattle.frac_laws.specs.Lists.{Vector, number_at, scale_list, add_lists}
use Rattle.frac_laws.proofs.FractionTerms.{ring, terms}
use Rattle.frac_laws.proofs.Linear.{linear, claims, natural, ◌⊞◌, ◌⊠◌, ◌·◌}
use Rattle.frac_laws.specs.Norms.{Sup}
use Rattle.frac_laws.proofs.Norms.{size_zero}
use Rattle.frac_laws.proofs.Order.{le_trans, le_of_equal}
use Rattle.frac_laws.proofs.Quotients.{inverse, whole_mul}
use Rattle.frac_laws.proofs.Sizes.{size_mul_natural}
use Rattle.frac_laws.proofs.Vectors.{number_at-scale_list}
use Rattle.std.proofs.Math.IntN.{pos-*ℤ-pos}
use Rattle.model_specs.specs.Product.{Product}
use Rattle.model_specs.specs.Payments.{Plan, payment_plan}
use Rattle.model_specs.specs.Cells.{Backward, cells_of_32}
use Rattle.model_specs.specs.Ledgers.{scale, radius, second_radius, radius_before_term, second_before_term}
use Rattle.model_specs.specs.Runs.{first_before_term, moments_before_term, month_back}
use Rattle.model_specs.specs.Runs.{before_lumps, lump_vector, reserve, second_moment}
use Rattle.model_specs.specs.Systems.{norberg_pair, thiele_system, vector_of}
use Rattle.whole_laws.proofs.ListsByPlace.{at-list_of, past-list_of}
use Rattle.model_specs.specs.ValuationRules.{IsAdmissible}
use Rattle.cell_laws.specs.ErrorLaws.{distance}
use Rattle.product_cells.specs.EachCell.{backward_cell, plan_scaling}
use Rattle.moment_laws.proofs.ReserveLedger.{reserves_stay_within_scale}
use Rattle.moment_laws.proofs.SecondMoments.{second_moments_stay_within_scale, four_power}
use Rattle.fixed_interval.specs.declared.printed.Printed.{Printed}
use Rattle.fixed_interval.specs.Printing.{LiesBetweenIn, AreEndsUpTo}
use Rattle.named_numbers.specs.Numbers.{highest_degree}
use Rattle.ledger_laws.proofs.BeforeTerm.{radius_small, second_fourfold}
use Rattle.ledger_laws.proofs.BoundFacts.{scale_bounds_ledger}
use Rattle.ledger_laws.proofs.MonthFacts.{admissible_obeys}
use Rattle.sweep_laws.specs.SweepLaws.{units}
use Rattle.sweep_laws.proofs.PairSweeps.{distance_most}
use Rattle.taylor_step.specs.CanStep.{AreAtMost}
use Rattle.moment_equations.specs.declared.ends.Moment.{Moment}
use Rattle.moment_equations.specs.declared.ends.Moment.TheVariants.{First, Second, Variance}
use Rattle.moment_equations.specs.Dates.{HoldsAt, AreNearFrom}
use Rattle.moment_equations.specs.Kinds.{exact_of, form_of, number_of, width_by, width_of}
use Rattle.moment_equations.specs.NearMoments.{AreNear}
use Rattle.moment_equations.proofs.Halves.{first_within, second_within, number_within, halves_most}
use Rattle.model_laws.proofs.Moments.{month-first}
use Rattle.linear_system.proofs.NumbersInUnits.{zeros_none}
use Rattle.linear_system.specs.StandsFor.{in_units}

pub moments-first : (product : Product) (plan : Plan) (n k : ℕ) → (moments_before_term product plan n k).first
    ≡ first_before_term (cells_of_32 Backward) product plan n k
moments-first product plan n zero = refl
moments-first product plan n (suc k) =
    let month = product.months - suc k in
    month-first (λ cell. norberg_pair (backward_cell product plan month cell)) n 32
    (before_lumps product plan (suc month) (moments_before_term product plan n k))
    ∙ ap (λ (v : Vector). month_back (λ cell. thiele_system (backward_cell product plan month cell)) n 32
    (add_lists v (lump_vector product plan (suc month)))) (moments-first product plan n k)

-- divided by the scale they are at most 1 in size
module _ (h G : Fraction) (unit : h *ℚ G ≡ whole (pos 1)) (some : whole (pos 0) ≤ℚ h) where
  scaled_small : (x : Fraction) → size x ≤ℚ G → size (h *ℚ x) ≤ℚ whole (pos 1)
  scaled_small x small =
      le_trans (le_of_equal (size_mul_natural x some))
      (linear (h ∷ G ∷ size x ∷ []) (small ⊠ some ⊞ whole (pos 1) · unit) (hlevel claims) refl)

module _ (product : Product) (n date : ℕ) (within : date ≤ product.months) where
  abbrev plan : Plan
  plan = payment_plan product

  abbrev h : Fraction
  h = plan_scaling product plan

  abbrev g : ℕ
  g = scale product plan

  -- the numbers that stand for them, of a state
  abbrev pub scaled_reserve : ℕ → Fraction
  scaled_reserve state = h *ℚ reserve product plan n date state

  abbrev pub scaled_second : ℕ → Fraction
  scaled_second state = h *ℚ h *ℚ second_moment product n date state

  unit : h *ℚ whole (pos (2 ^ g)) ≡ whole (pos 1)
  unit = ring (h ∷ whole (pos (2 ^ g)) ∷ []) (hlevel terms) refl ∙ inverse (2 ^ g) (pow_pos g)

  four : whole (pos (4 ^ g)) ≡ whole (pos (2 ^ g)) *ℚ whole (pos (2 ^ g))
  four = ap (λ k. whole (pos k)) (four_power g) ∙ ap whole (sym (pos-*ℤ-pos (2 ^ g) (2 ^ g)))
      ∙ whole_mul (pos (2 ^ g)) (pos (2 ^ g))

  pub reserve_small : IsAdmissible product → 6 ≤ n → (state : ℕ) → size (scaled_reserve state) ≤ℚ whole (pos 1)
  reserve_small admissible above state = scaled_small h (whole (pos (2 ^ g))) unit (natural 1 (2 ^ g))
      (reserve product plan n date state)
      ((reserves_stay_within_scale product n admissible above).0.dates date state within)

  pub second_small : IsAdmissible product → 6 ≤ n → (state : ℕ) → size (scaled_second state) ≤ℚ whole (pos 1)
  second_small admissible above state = scaled_small (h *ℚ h) (whole (pos (4 ^ g)))
      (ap (λ x. h *ℚ h *ℚ x) four ∙ twice h (whole (pos (2 ^ g))) unit) (squared h (natural 1 (2 ^ g)))
      (second_moment product n date state)
      ((second_moments_stay_within_scale product n admissible above).dates date state within)
    where
      twice : (h G : Fraction) → h *ℚ G ≡ whole (pos 1) → h *ℚ h *ℚ (G *ℚ G) ≡ whole (pos 1)
      twice h G is = ring (h ∷ G ∷ []) (hlevel terms) refl ∙ ap₂ ◌*ℚ◌ is is ∙ ring [] (hlevel terms) refl

      squared : (h : Fraction) → whole (pos 0) ≤ℚ h → whole (pos 0) ≤ℚ h *ℚ h
      squared h some = linear (h ∷ []) (some ⊠ some) (hlevel claims) refl

  -- how near the numbers of a table are
  module _ (mid : List ℤ) (long : length mid ≡ length product.states + length product.states)
      (near : AreNear product n (product.months - date) mid) (state : ℕ) (b : state < length product.states) where
    pub first_near : size (scaled_reserve state -ℚ over (slice_index_or mid state (pos 0)) (2 ^ 64))
        ≤ℚ over (pos (radius product date)) (2 ^ 64)
    first_near =
        let v = moments_before_term product plan n (product.months - date) in
        let is : number_at (scale_list h v.first) state ≡ scaled_reserve state =
        number_at-scale_list h v.first state
        ∙ ap (λ (u : Vector). h *ℚ number_at u state) (moments-first product plan n (product.months - date)) in
        subst (λ x. size (x -ℚ over (slice_index_or mid state (pos 0)) (2 ^ 64))
        ≤ℚ over (pos (radius product date)) (2 ^ 64)) is
        (first_within mid (length product.states) long (scale_list h v.first) (scale_list (h *ℚ h) v.second)
        (radius product date) (second_radius product date) near.first near.second state b)

    pub second_near : size (scaled_second state
        -ℚ over (slice_index_or mid (length product.states + state) (pos 0)) (2 ^ 64))
        ≤ℚ over (pos (second_radius product date)) (2 ^ 64)
    second_near =
        let v = moments_before_term product plan n (product.months - date) in
        subst (λ x. size (x -ℚ over (slice_index_or mid (length product.states + state) (pos 0)) (2 ^ 64))
        ≤ℚ over (pos (second_radius product date)) (2 ^ 64)) (number_at-scale_list (h *ℚ h) v.second state)
        (second_within mid (length product.states) long (scale_list h v.first) (scale_list (h *ℚ h) v.second)
        (radius product date) (second_radius product date) near.first near.second state b)

  -- and back at the scale
  pub number-is : (kind : Moment) (state : ℕ)
      → number_of kind g (scaled_reserve state) (scaled_second state) ≡ exact_of kind product n date state
  number-is First state = back (whole (pos (2 ^ g))) h (reserve product plan n date state) unit
    where
      back : (G h x : Fraction) → h *ℚ G ≡ whole (pos 1) → G *ℚ (h *ℚ x) ≡ x
      back G h x is =
          ring (G ∷ h ∷ x ∷ []) (hlevel terms) refl ∙ ap (λ y. y *ℚ x) is ∙ ring (x ∷ []) (hlevel terms) refl
  number-is Second state = ap (λ q. q *ℚ scaled_second state) four
      ∙ back (whole (pos (2 ^ g))) h (second_moment product n date state) unit
    where
      back : (G h x : Fraction) → h *ℚ G ≡ whole (pos 1) → G *ℚ G *ℚ (h *ℚ h *ℚ x) ≡ x
      back G h x is = ring (G ∷ h ∷ x ∷ []) (hlevel terms) refl ∙ ap (λ y. y *ℚ y *ℚ x) is
          ∙ ring (x ∷ []) (hlevel terms) refl
  number-is Variance state = ap (λ q. q *ℚ (scaled_second state -ℚ scaled_reserve state *ℚ scaled_reserve state)) four
      ∙ back (whole (pos (2 ^ g))) h (reserve product plan n date state) (second_moment product n date state) unit
    where
      back : (G h v z : Fraction) → h *ℚ G ≡ whole (pos 1)
          → G *ℚ G *ℚ (h *ℚ h *ℚ z -ℚ (h *ℚ v) *ℚ (h *ℚ v)) ≡ z -ℚ v *ℚ v
      back G h v z is = ring (G ∷ h ∷ v ∷ z ∷ []) (hlevel terms) refl ∙ ap (λ y. y *ℚ y *ℚ (z -ℚ v *ℚ v)) is
          ∙ ring (v ∷ z ∷ []) (hlevel terms) refl

-- what ends of a kind promise of the numbers that stand near a state's
abbrev pub HoldsNear : Moment → (mid mid2 : ℤ) → (w w2 g : ℕ) → Printed → Type 0
HoldsNear kind mid mid2 w w2 g ends = (y z : Fraction) → size y ≤ℚ whole (pos 1)
    → size (y -ℚ over mid (2 ^ 64)) ≤ℚ over (pos w) (2 ^ 64) → size (z -ℚ over mid2 (2 ^ 64)) ≤ℚ over (pos w2) (2 ^ 64)
    → LiesBetweenIn (form_of kind).unit ends (number_of kind g y z)

module _ (kind : Moment) (product : Product) (date state : ℕ) (mid : List ℤ) (admissible : IsAdmissible product)
    (within : date ≤ product.months) (b : state < length product.states)
    (long : length mid ≡ length product.states + length product.states) where
  abbrev first_mid : ℤ
  first_mid = slice_index_or mid state (pos 0)

  abbrev second_mid : ℤ
  second_mid = slice_index_or mid (length product.states + state) (pos 0)

  -- the ends of a state
  pub ends_hold : (degree : ℕ) (ends : Printed) → 8 ≤ degree → AreNearFrom product degree date mid
      → ends.lo ≤ℤ ends.hi → ends.hi ≤ℤ (ends.lo +ℤ pos (width_of kind product date))
      → AreEndsUpTo (form_of kind).most ends
      → HoldsNear kind first_mid second_mid (radius product date) (second_radius product date)
      (scale product (payment_plan product)) ends → HoldsAt kind product degree date state ends
  ends_hold degree ends least near ordered narrow small holds = record {
    holds = λ n from.
        let here = near n from in
        subst (LiesBetweenIn (form_of kind).unit ends) (number-is product n date within kind state)
        (holds (scaled_reserve product n date within state) (scaled_second product n date within state)
        (reserve_small product n date within admissible (omega (arith, least, from)) state)
        (first_near product n date within mid long here state b)
        (second_near product n date within mid long here state b));
    ordered = ordered;
    narrow = narrow;
    small = small;
  }

  -- and so if what they are made of has other names
  pub ends_given : (degree : ℕ) (ends : Printed) → 8 ≤ degree → AreNearFrom product degree date mid
      → (states w w2 g : ℕ) → states ≡ length product.states → w ≡ radius product date
      → w2 ≡ second_radius product date → g ≡ scale product (payment_plan product) → ends.lo ≤ℤ ends.hi
      → ends.hi ≤ℤ (ends.lo +ℤ pos (width_by kind w w2 g)) → AreEndsUpTo (form_of kind).most ends
      → HoldsNear kind first_mid (slice_index_or mid (states + state) (pos 0)) w w2 g ends
      → HoldsAt kind product degree date state ends
  ends_given degree ends least near states w w2 g is_states is_w is_w2 is_g ordered narrow small holds =
      ends_hold degree ends least near ordered (rw (is_w, is_w2, is_g) at narrow) small
      (rw (is_states, is_w, is_w2, is_g) at holds)

  -- the numbers themselves
  pub first_most : AreNear product highest_degree (product.months - date) mid
      → unsigned_abs first_mid ≤ 2 ^ 64 + radius product date
  first_most near = number_within (scaled_reserve product 24 date within state) first_mid (radius product date)
      (reserve_small product 24 date within admissible (omega arith) state)
      (first_near product 24 date within mid long near state b)

  pub second_most : AreNear product highest_degree (product.months - date) mid
      → unsigned_abs second_mid ≤ 2 ^ 64 + second_radius product date
  second_most near = number_within (scaled_second product 24 date within state) second_mid (second_radius product date)
      (second_small product 24 date within admissible (omega arith) state)
      (second_near product 24 date within mid long near state b)

-- all numbers of a date are not much larger than 1
pub date_most : (product : Product) (date : ℕ) (mid : List ℤ) → IsAdmissible product → date ≤ product.months
    → length mid ≡ length product.states + length product.states
    → AreNear product highest_degree (product.months - date) mid → AreAtMost (2 ^ 64 + 2 ^ 45) mid
date_most product date mid admissible within long near =
    let plan = payment_plan product in
    let h = plan_scaling product plan in
    let left = product.months - date in
    let v = moments_before_term product plan 24 left in
    let obeys = admissible_obeys product admissible in
    let radii = (radius_small product admissible.well_formed obeys).months left (omega arith) in
    let fourfold = (second_fourfold product plan (2 ^ scale product plan) admissible.well_formed obeys
    (pow_pos (scale product plan)) ((scale_bounds_ledger product plan).0)).months left (omega arith) in
    halves_most mid (length product.states) long (scale_list h v.first) (scale_list (h *ℚ h) v.second)
    (radius product date) (second_radius product date) near.first near.second
    (λ i. le_trans (le_of_equal (ap size (number_at-scale_list h v.first i
    ∙ ap (λ (u : Vector). h *ℚ number_at u i) (moments-first product plan 24 left))))
    (reserve_small product 24 date within admissible (omega arith) i))
    (λ i. le_trans (le_of_equal (ap size (number_at-scale_list (h *ℚ h) v.second i)))
    (second_small product 24 date within admissible (omega arith) i))
    (omega (arith, radii)) (omega (arith, radii, fourfold))

-- and those of its halves
pub front_most : (mid : List ℤ) (S most : ℕ) → AreAtMost most mid → AreAtMost most (take S mid)
front_most mid S most all i = elim (cases_lt i S) [
  | inl b ↦ rw (get_or-take S mid i (pos 0) b) (all i)
  | inr past ↦ rw (get_or_past (take S mid) i (pos 0) (omega (arith, past, length-take S mid))) (omega arith)
]

pub back_most : (mid : List ℤ) (S most : ℕ) → AreAtMost most mid → AreAtMost most (drop S mid)
back_most mid S most all i = rw (get_or-drop S mid i (pos 0)) (all (S + i))

exact_none : (product : Product) (n i : ℕ)
    → number_at (vector_of (length product.states) (λ k. whole (pos 0))) i ≡ whole (pos 0)
exact_none product n i = elim (cases_lt i (length product.states)) [
  | inl b ↦ at-list_of (length product.states) (λ k. whole (pos 0)) i (whole (pos 0)) b
  | inr past ↦ past-list_of (length product.states) (λ k. whole (pos 0)) i (whole (pos 0)) past
]

scaled-none : (c : Fraction) (v : Vector) (i : ℕ) → number_at v i ≡ whole (pos 0)
    → number_at (scale_list c v) i ≡ whole (pos 0)
scaled-none c v i none = number_at-scale_list c v i ∙ ap (λ x. c *ℚ x) none ∙ ring (c ∷ []) (hlevel terms) refl

zero_near : (u v : Vector) (r : ℕ) → ((i : ℕ) → number_at u i ≡ whole (pos 0))
    → ((i : ℕ) → number_at v i ≡ whole (pos 0)) → distance Sup u v ≤ℚ units r
zero_near u v r none nothing = distance_most u v (units r) (natural r (2 ^ 64)) (λ i.
    le_trans (le_of_equal (ap size (ap₂ ◌-ℚ◌ (none i) (nothing i) ∙ ring [] (hlevel terms) refl) ∙ size_zero))
    (natural r (2 ^ 64)))

zeros-at : (S i : ℕ) → number_at (take S (in_units (replicate (S + S) (pos 0)))) i ≡ whole (pos 0)
zeros-at S i = elim (cases_lt i S) [
  | inl b ↦ get_or-take S (in_units (replicate (S + S) (pos 0))) i (whole (pos 0)) b ∙ zeros_none (S + S) i
  | inr past ↦ get_or_past (take S (in_units (replicate (S + S) (pos 0)))) i (whole (pos 0))
      (omega (arith, past, length-take S (in_units (replicate (S + S) (pos 0)))))
]

zeros-behind : (S i : ℕ) → number_at (drop S (in_units (replicate (S + S) (pos 0)))) i ≡ whole (pos 0)
zeros-behind S i = get_or-drop S (in_units (replicate (S + S) (pos 0))) i (whole (pos 0)) ∙ zeros_none (S + S) (S + i)

pub near_at_term : (product : Product) (n : ℕ) (mid : List ℤ)
    → mid ≡ replicate (length product.states + length product.states) (pos 0) → AreNear product n 0 mid
near_at_term product n mid is = rw is (record {
  first = zero_near (scale_list (plan_scaling product (payment_plan product))
      (moments_before_term product (payment_plan product) n 0).first) _
      (radius_before_term product 0)
      (λ i. scaled-none (plan_scaling product (payment_plan product)) _ i (exact_none product n i))
      (zeros-at (length product.states));
  second = zero_near
      (scale_list (plan_scaling product (payment_plan product) *ℚ plan_scaling product (payment_plan product))
      (moments_before_term product (payment_plan product) n 0).second) _
      (second_before_term product (payment_plan product) (2 ^ scale product (payment_plan product)) 0)
      (λ i. scaled-none (plan_scaling product (payment_plan product) *ℚ plan_scaling product (payment_plan product)) _ i
      (exact_none product n i)) (zeros-behind (length product.states));
})
