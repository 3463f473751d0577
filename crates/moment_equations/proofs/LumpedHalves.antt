-- Numbers near both moments before the lumps of a month's end are near them with the lumps, once these are added.
use Rattle.std.specs.Prelude.{◌≡◌, ℕ, suc, pos, ◌-◌, ◌^◌, ◌<◌, ◌≤◌, ℤ, ◌+ℤ◌, List, [], ◌∷◌, ◌++◌}
use Rattle.std.specs.Prelude.{length, take, drop, slice_index_or}
use Rattle.std.specs.List.{take-map, drop-map}
use Rattle.std.proofs.Common.{refl, ap, sym, subst, ◌∙◌, arith, inl, inr}
use Rattle.std.proofs.Math.Seq.{take-append_seam, drop-append_seam}
use mathlib.Core.Path.{ap₂}
use Rattle.std.proofs.lemmas.Bool.{cases_lt}
use Rattle.std.proofs.lemmas.List.{length-map}
use Rattle.frac_laws.specs.Fraction.{Fraction, over, whole, size, ◌+ℚ◌, ◌-ℚ◌, ◌*ℚ◌, ◌≤ℚ◌}
use Rattle.frac_laws.specs.Lists.{number_at, scale_list, add_lists, subtract_lists}
use Rattle.frac_laws.specs.Norms.{Sup}
use Rattle.frac_laws.proofs.FractionTerms.{ring, terms}
use Rattle.frac_laws.proofs.Linear.{linear, claims, natural}
use Rattle.frac_laws.proofs.Norms.{norm-same}
use Rattle.frac_laws.proofs.Order.{le_trans, le_of_equal}
use Rattle.frac_laws.proofs.Vectors.{number_at-add_lists, number_at-scale_list, number_at-subtract_lists}
use Rattle.cell_laws.specs.ErrorLaws.{distance}
use Rattle.model_specs.specs.Product.{Product}
use Rattle.model_specs.specs.Payments.{Plan, payment_plan, lump_at, lumps_at}
use Rattle.model_specs.specs.Ledgers.{scale, radius_before_term, second_before_term}
use Rattle.model_specs.specs.Runs.{Moments, lump_vector, moments_before_term}
use Rattle.linear_system.specs.StandsFor as stands
use Rattle.cell_bounds.specs.ScaledSystems.{scaling}
use Rattle.product_cells.specs.EachCell.{plan_scaling}
use Rattle.sweep_laws.specs.PairSweepLaws.{AnswersDate}
use Rattle.sweep_laws.specs.SweepLaws.{units}
use Rattle.cell_coeffs.specs.Lumps.{units_to}
use Rattle.cell_coeffs.specs.SecondLumps.{amount_in, second_with_lump, IsLumped}
use Rattle.cell_coeffs.proofs.DateLumps.{lump-found}
use Rattle.thiele_backward.proofs.LumpedNumbers.{more}
use Rattle.moment_equations.specs.NearMoments.{AreNear, AreNearIn}
use Rattle.moment_equations.proofs.DateLedgers.{date_near}
use Rattle.linear_system.specs.StandsFor.{in_units}
use Rattle.linear_system.proofs.NumbersInUnits.{at-units, past-units}

-- halves of numbers that were split
pub first-split : (S : ℕ) (front back : List ℤ) → length front ≡ S
    → take S (in_units (front ++ back)) ≡ in_units front
first-split S front back long =
    take-map stands.units S (front ++ back) ∙ ap in_units (ap (λ k. take k (front ++ back)) (sym long)
    ∙ take-append_seam front back)

pub second-split : (S : ℕ) (front back : List ℤ) → length front ≡ S
    → drop S (in_units (front ++ back)) ≡ in_units back
second-split S front back long =
    drop-map stands.units S (front ++ back) ∙ ap in_units (ap (λ k. drop k (front ++ back)) (sym long)
    ∙ drop-append_seam front back)

module _ (product : Product) (n months month g : ℕ) (month_is : product.months - suc months ≡ month)
    (is : g ≡ scale product (payment_plan product)) (few : g ≤ 56) (f0 s0 f1 s1 : List ℤ) (lumps : List (ℕ × ℤ))
    (are : lumps ≡ lumps_at (length product.states) (payment_plan product) (suc month))
    (f0_long : length f0 ≡ length product.states) (s0_long : length s0 ≡ length product.states)
    (f1_long : length f1 ≡ length product.states) (s1_long : length s1 ≡ length product.states)
    (applied : (i : ℕ) → slice_index_or f1 i (pos 0)
    ≡ slice_index_or f0 i (pos 0) +ℤ units_to g lumps i (length lumps))
    (lumped : (i : ℕ) → i < length s0 → IsLumped g (amount_in lumps i) (slice_index_or f0 i (pos 0))
    (slice_index_or s0 i (pos 0)) (slice_index_or s1 i (pos 0)))
    (unlumped : (i : ℕ) → amount_in lumps i ≡ pos 0 → slice_index_or s1 i (pos 0) ≡ slice_index_or s0 i (pos 0)) where
  abbrev S : ℕ
  S = length product.states

  abbrev plan : Plan
  plan = payment_plan product

  abbrev h : Fraction
  h = plan_scaling product plan

  abbrev v : Moments
  v = moments_before_term product plan n months

  amount-is : (i : ℕ) → i < S → amount_in lumps i ≡ lump_at plan (suc month) i
  amount-is i b = ap (λ (ls : List (ℕ × ℤ)). amount_in ls i) are ∙ lump-found S plan (suc month) i b

  units-short : (mid : List ℤ) → length mid ≡ S → length (in_units mid) ≤ S
  units-short mid long = omega (arith, long, length-map mid stands.units)

  -- what the date answers
  answers : AnswersDate product (suc month) (in_units f0) (in_units s0) (in_units s1)
  answers = record {
    fits = units-short s1 s1_long;
    no_lumps = λ none i. elim (cases_lt i S) [
      | inl b ↦ at-units s1 i (omega (arith, s1_long, b))
          ∙ ap (λ (z : ℤ). over z (2 ^ 64))
          (unlumped i (ap (λ (ls : List (ℕ × ℤ)). amount_in ls i) (are ∙ none)))
          ∙ sym (at-units s0 i (omega (arith, s0_long, b)))
      | inr past ↦ past-units s1 i (omega (arith, s1_long, past)) ∙ sym (past-units s0 i (omega (arith, s0_long, past)))
    ];
    lumps = λ i b.
        let l = h *ℚ whole (lump_at plan (suc month) i) in
        let near = lumped i (omega (arith, s0_long, b)) in
        let amount : scaling g *ℚ whole (amount_in lumps i) ≡ l =
        ap₂ (λ q (z : ℤ). scaling q *ℚ whole z) is (amount-is i b) in
        rw (
          at-units s1 i (omega (arith, s1_long, b)),
          at-units s0 i (omega (arith, s0_long, b)),
          at-units f0 i (omega (arith, f0_long, b)),
        )
        (le_trans (subst (λ x. size (over (slice_index_or s1 i (pos 0)) (2 ^ 64)
        -ℚ second_with_lump x (over (slice_index_or f0 i (pos 0)) (2 ^ 64))
        (over (slice_index_or s0 i (pos 0)) (2 ^ 64))) ≤ℚ units 1) amount near)
        (linear [] (natural 3 (2 ^ 64)) (hlevel claims) refl));
  }

  first_lumped : distance Sup (scale_list h v.first) (in_units f0) ≤ℚ units (radius_before_term product months)
      → distance Sup (scale_list h (add_lists v.first (lump_vector product plan (suc month)))) (in_units f1)
      ≤ℚ units (radius_before_term product months)
  first_lumped near =
      let l = lump_vector product plan (suc month) in
      le_trans (le_of_equal (norm-same Sup (subtract_lists (scale_list h (add_lists v.first l)) (in_units f1))
      (subtract_lists (scale_list h v.first) (in_units f0)) (λ i.
      number_at-subtract_lists (scale_list h (add_lists v.first l)) (in_units f1) i
      ∙ ap₂ ◌-ℚ◌ (number_at-scale_list h (add_lists v.first l) i ∙ ap (λ x. h *ℚ x) (number_at-add_lists v.first l i))
      (more product plan month g is few f0 f1 lumps are f0_long f1_long applied i)
      ∙ gone h (number_at v.first i) (number_at l i) (number_at (in_units f0) i)
      ∙ ap (λ x. x -ℚ number_at (in_units f0) i) (sym (number_at-scale_list h v.first i))
      ∙ sym (number_at-subtract_lists (scale_list h v.first) (in_units f0) i)))) near
    where
      gone : (h x y o : Fraction) → h *ℚ (x +ℚ y) -ℚ (o +ℚ h *ℚ y) ≡ h *ℚ x -ℚ o
      gone h x y o = ring (h ∷ x ∷ y ∷ o ∷ []) (hlevel terms) refl

  pub lumped_near : AreNear product n months (f0 ++ s0) → AreNearIn product n months 0 (f1 ++ s1)
  lumped_near near =
      let G = 2 ^ scale product plan in
      let first = rw (first-split S f0 s0 f0_long) at near.first in
      let second = rw (second-split S f0 s0 f0_long) at near.second in
      let here = date_near product (suc month) v (in_units f0) (in_units s0) (in_units s1)
      (radius_before_term product months) (second_before_term product plan G months) answers first second
      (lumps_at S plan (suc month)) refl in
      record {
        first = rw (month_is, first-split S f1 s1 f1_long) (first_lumped first);
        second = rw (month_is, second-split S f1 s1 f1_long) here;
      }
