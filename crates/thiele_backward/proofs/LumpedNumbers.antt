-- Numbers near a vector before the lumps of a date are near it with the lumps, once these are added.
use Rattle.std.specs.Prelude.{◌≡◌, ℕ, suc, pos, ◌+◌, ◌-◌, ◌*◌, ◌^◌, ◌<◌, ◌≤◌, ℤ, ◌+ℤ◌, ◌*ℤ◌, List, [], ◌∷◌, length}
use Rattle.std.specs.Prelude.{slice_index_or, unsigned_abs, All}
use Rattle.std.proofs.Common.{refl, ap, sym, ◌∙◌, arith, inl, inr, pow_pos, add-one}
use mathlib.Core.Path.{ap₂}
use Rattle.std.proofs.lemmas.Bool.{cases_lt}
use Rattle.std.proofs.lemmas.Nat.{pow-add}
use Rattle.std.proofs.Math.Nat.{mul-le-mul_left}
use Rattle.moment_laws.proofs.LumpSizes.{lump_within}
use Rattle.frac_laws.specs.Fraction.{Fraction, over, whole, ◌+ℚ◌, ◌-ℚ◌, ◌*ℚ◌}
use Rattle.frac_laws.specs.Lists.{Vector, number_at, scale_list, add_lists, subtract_lists}
use Rattle.frac_laws.specs.Norms.{Sup}
use Rattle.frac_laws.proofs.FractionTerms.{ring, terms}
use Rattle.frac_laws.proofs.Norms.{norm-same}
use Rattle.frac_laws.proofs.Order.{le_trans, le_of_equal}
use Rattle.frac_laws.proofs.Quotients.{over_add, over_mul, over_is, inverse}
use Rattle.frac_laws.proofs.Vectors.{number_at-add_lists, number_at-scale_list, number_at-subtract_lists}
use Rattle.named_numbers.specs.Numbers.{cells_of_month}
use Rattle.model_specs.specs.Product.{Product}
use Rattle.model_specs.specs.Payments.{Plan, lump_at, lumps_at}
use Rattle.model_specs.specs.Ledgers.{scale, radius}
use Rattle.model_specs.specs.Runs.{lump_vector}
use Rattle.whole_laws.proofs.ListsByPlace.{at-list_of, past-list_of}
use Rattle.ledger_laws.proofs.BoundFacts.{scale_bounds_parts}
use Rattle.product_cells.specs.EachCell.{plan_scaling}
use Rattle.cell_coeffs.specs.Lumps.{units_to}
use Rattle.cell_coeffs.proofs.DateLumps.{units-lump, lumps_most, few_lumps}
use Rattle.model_specs.specs.RecordRules.{IsWellFormed}
use Rattle.payment_plan.specs.declared.pattern.Which.{Which}
use Rattle.payment_plan.specs.Payments.{Payments, plan_of}
use Rattle.product_model.specs.Views.{payments_of}
use Rattle.rate_bounds.specs.MonthPay.{plan_named}
use Rattle.rate_bounds.proofs.PaySteps.{plan_is}
use Rattle.model_specs.specs.ValuationRules.{IsAdmissible}
use Rattle.ledger_laws.proofs.GrowthFacts.{radii_small, radius_back}
use Rattle.ledger_laws.proofs.MonthFacts.{admissible_obeys}
use Rattle.taylor_step.specs.CanStep.{AreAtMost}
use Rattle.thiele_backward.specs.MonthRuns.{IsNearAt, IsNearLumped, HasSome, StaysNearWithSpare, EnclosesMonth}
use Rattle.thiele_backward.proofs.MonthSteps.{begun_within}
use Rattle.thiele_backward.proofs.NearNumbers.{mid_most}
use Rattle.linear_system.specs.StandsFor.{in_units}
use Rattle.linear_system.proofs.NumbersInUnits.{at-units, past-units}

-- an amount in units of 2^-64 at the scale 2^g
over-lump : (z : ℤ) (g : ℕ) → g ≤ 56 → over (z *ℤ pos (2 ^ (64 - g))) (2 ^ 64) ≡ over (pos 1) (2 ^ g) *ℚ whole z
over-lump z g few =
    let d = 2 ^ (64 - g) in
    let sum : g + (64 - g) ≡ 64 = omega (arith, few) in
    let parts : 2 ^ g * d ≡ 2 ^ 64 = sym (pow-add 2 g (64 - g)) ∙ ap (λ k. 2 ^ k) sum in
    ap (over (z *ℤ pos d)) (sym parts)
    ∙ sym (over_mul z (pos d) (2 ^ g) d (pow_pos g) (pow_pos (64 - g)))
    ∙ ap₂ ◌*ℚ◌ (over_is z (2 ^ g)) (over_is (pos d) d ∙ inverse d (pow_pos (64 - g)))
    ∙ turned (whole z) (over (pos 1) (2 ^ g))
  where
    turned : (x h : Fraction) → (x *ℚ h) *ℚ whole (pos 1) ≡ h *ℚ x
    turned x h = ring (x ∷ h ∷ []) (hlevel terms) refl

-- the lumps of a date are within the plan's scale
pub lumps_within : (product : Product) (plan : Plan) (g date : ℕ) → g ≡ scale product plan → date ≤ product.months
    → All (λ (lump : ℕ × ℤ). unsigned_abs lump.1 ≤ 2 ^ g) (lumps_at (length product.states) plan date)
lumps_within product plan g date is within = lumps_most (lumps_at (length product.states) plan date) (2 ^ g)
    (rw is ((scale_bounds_parts product plan).lumps date within))

module _ (product : Product) (plan : Plan) (month g : ℕ) (is : g ≡ scale product plan) (few : g ≤ 56)
    (old new : List ℤ) (lumps : List (ℕ × ℤ)) (are : lumps ≡ lumps_at (length product.states) plan (suc month))
    (long : length old ≡ length product.states) (same : length new ≡ length product.states)
    (applied : (i : ℕ) → slice_index_or new i (pos 0)
    ≡ slice_index_or old i (pos 0) +ℤ units_to g lumps i (length lumps)) where
  abbrev h : Fraction
  h = plan_scaling product plan

  abbrev l : Vector
  l = lump_vector product plan (suc month)

  added : (i : ℕ) → i < length product.states → number_at (in_units new) i
      ≡ number_at (in_units old) i +ℚ h *ℚ number_at l i
  added i b =
      let z = lump_at plan (suc month) i in
      let units_are : units_to g lumps i (length lumps) ≡ z *ℤ pos (2 ^ (64 - g)) =
      ap (λ (ls : List (ℕ × ℤ)). units_to g ls i (length ls)) are
      ∙ units-lump g (length product.states) plan (suc month) i b in
      at-units new i (rw same b)
      ∙ ap (λ (w : ℤ). over w (2 ^ 64)) (applied i ∙ ap (λ (w : ℤ). slice_index_or old i (pos 0) +ℤ w) units_are)
      ∙ over_add (slice_index_or old i (pos 0)) (z *ℤ pos (2 ^ (64 - g))) (2 ^ 64)
      ∙ ap₂ ◌+ℚ◌ (sym (at-units old i (rw long b)))
      (over-lump z g few ∙ ap₂ ◌*ℚ◌ (ap (λ k. over (pos 1) (2 ^ k)) is)
      (sym (at-list_of (length product.states) (λ k. whole (lump_at plan (suc month) k)) i (whole (pos 0)) b)))

  beyond : (i : ℕ) → length product.states ≤ i → number_at (in_units new) i
      ≡ number_at (in_units old) i +ℚ h *ℚ number_at l i
  beyond i past =
      past-units new i (rw same past)
      ∙ nothing h (number_at (in_units old) i) (number_at l i) (past-units old i (rw long past))
      (past-list_of (length product.states) (λ k. whole (lump_at plan (suc month) k)) i (whole (pos 0)) past)
    where
      nothing : (h x y : Fraction) → x ≡ whole (pos 0) → y ≡ whole (pos 0) → whole (pos 0) ≡ x +ℚ h *ℚ y
      nothing h x y none zero = rw (none, zero) (ring (h ∷ []) (hlevel terms) refl)

  pub more : (i : ℕ) → number_at (in_units new) i ≡ number_at (in_units old) i +ℚ h *ℚ number_at l i
  more i = elim (cases_lt i (length product.states)) [
    | inl b ↦ added i b
    | inr past ↦ beyond i past
  ]

  pub lumped_near : (v : Vector) → IsNearAt product plan (suc month) old v → IsNearLumped product plan month new v
  lumped_near v start = record {
    begins = start.begins;
    near = le_trans (le_of_equal (norm-same Sup (subtract_lists (scale_list h (add_lists v l)) (in_units new))
        (subtract_lists (scale_list h v) (in_units old)) (λ i.
        number_at-subtract_lists (scale_list h (add_lists v l)) (in_units new) i
        ∙ ap₂ ◌-ℚ◌ (number_at-scale_list h (add_lists v l) i ∙ ap (λ x. h *ℚ x) (number_at-add_lists v l i)) (more i)
        ∙ gone h (number_at v i) (number_at l i) (number_at (in_units old) i)
        ∙ ap (λ x. x -ℚ number_at (in_units old) i) (sym (number_at-scale_list h v i))
        ∙ sym (number_at-subtract_lists (scale_list h v) (in_units old) i)))) start.near;
  }
    where
      gone : (h x y o : Fraction) → h *ℚ (x +ℚ y) -ℚ (o +ℚ h *ℚ y) ≡ h *ℚ x -ℚ o
      gone h x y o = ring (h ∷ x ∷ y ∷ o ∷ []) (hlevel terms) refl

-- the lumps that the payments of a product have at a month's end
pub lumps_are : (which : Which) (product : Product) (month : ℕ) (p : Payments) (lumps : List (ℕ × ℤ))
    → p ≡ payments_of product → lumps ≡ lumps_at p.states (plan_of which p) (month + 1)
    → lumps ≡ lumps_at (length product.states) (plan_named which product) (suc month)
lumps_are which product month p lumps is are =
    are ∙ ap (λ (q : Payments). lumps_at q.states (plan_of which q) (month + 1)) is
    ∙ ap (λ k. lumps_at (length product.states) (plan_of which (payments_of product)) k) (add-one month)
    ∙ ap (λ (plan : Plan). lumps_at (length product.states) plan (suc month)) (plan_is which product)

pub lumps_few : (product : Product) (plan : Plan) (date : ℕ) (lumps : List (ℕ × ℤ)) → IsWellFormed product
    → lumps ≡ lumps_at (length product.states) plan date → length lumps ≤ 12
lumps_few product plan date lumps formed are =
    rw are (omega (arith, few_lumps (length product.states) plan date, formed.names.at_most_twelve))

-- the lump of a state is within any scale
pub lump_small : (product : Product) (plan : Plan) (g date i : ℕ) → g ≡ scale product plan → g ≤ 56
    → date ≤ product.months → i < length product.states → unsigned_abs (lump_at plan date i) ≤ 2 ^ 56
lump_small product plan g date i is few within b =
    let sum : g + (56 - g) ≡ 56 = omega (arith, few) in
    let split : 2 ^ g * 2 ^ (56 - g) ≡ 2 ^ 56 = sym (pow-add 2 g (56 - g)) ∙ ap (λ k. 2 ^ k) sum in
    omega (
      arith,
      lump_within product plan date i b,
      rw (← is) at ((scale_bounds_parts product plan).lumps date within),
      mul-le-mul_left (2 ^ g) (pow_pos (56 - g)),
      split,
    )

-- numbers near a vector with which a run may begin fit
pub start_most : (product : Product) (plan : Plan) (month : ℕ) (mid : List ℤ) → IsAdmissible product
    → month < product.months → HasSome (IsNearAt product plan (suc month) mid) → AreAtMost (2 ^ 65) mid
start_most product plan month mid admissible inside some =
    mid_most (scale_list (plan_scaling product plan) some.values) mid (radius product (suc month))
    (begun_within product plan (product.months - suc month) some.values (omega arith) some.has.begins) some.has.near
    (omega (
      arith,
      (radii_small product admissible.well_formed (admissible_obeys product admissible) (suc month)
          (omega (arith, inside))).backward_below,
    ))

pub some_lumped : (product : Product) (plan : Plan) (month : ℕ) (old new : List ℤ)
    → ((v : Vector) → IsNearAt product plan (suc month) old v → IsNearLumped product plan month new v)
    → HasSome (IsNearAt product plan (suc month) old) → HasSome (IsNearLumped product plan month new)
some_lumped product plan month old new near some = record { values = some.values; has = near some.values some.has }

-- lumps and cells together
pub encloses_month : (product : Product) (plan : Plan) (month degree : ℕ) (old mid new : List ℤ)
    → month < product.months
    → ((v : Vector) → IsNearAt product plan (suc month) old v → IsNearLumped product plan month mid v)
    → StaysNearWithSpare product plan month degree cells_of_month mid new
    → EnclosesMonth product plan month degree old new
encloses_month product plan month degree old mid new inside lumped stays n v from start =
    rw (radius_back product month inside) (stays n v from (lumped v start))
