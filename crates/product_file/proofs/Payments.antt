-- Rules 10 and 11: good payments.
use Rattle.std.proofs.Common.{◌≡◌, ℕ, ◌*◌, ◌<◌, ◌≤◌, List, [], ◌∷◌, length, map, get_or, arith, refl, sym, subst}
use Rattle.std.specs.Prelude.{Bool, ℤ, true, false, ◌&&◌, not, if◌then◌else◌, pos, codes, All, slice_index_or, None}
use Rattle.std.specs.Prelude.{is_some, ◌==◌, nat_le, unsigned_abs, Option, Some, unwrap_or, option_and_then}
use Rattle.std.proofs.lemmas.Bool.{false≢true, leb-true, eq-eqb}
use Rattle.std.proofs.lemmas.Option.{none-some}
use Rattle.std.proofs.lemmas.List.{length-map}
use Rattle.std.proofs.lemmas.List.Elements.{All-map}
use Rattle.std.proofs.lemmas.Simd.{map-map}
use Rattle.toml.specs.Data.{Data, no_items, Members, boolean, get_member, as_array}
use Rattle.named_numbers.specs.Numbers.{most_amount, bernstein_unit}
use Rattle.model_specs.specs.Product.{Step}
use Rattle.model_specs.specs.Payments.{constant_step}
use Rattle.model_specs.specs.MonthNumbers.{bernstein_numerators, coefficient_at}
use Rattle.model_specs.specs.RecordRules.{IsPayment, IsBoundedStep, IsBoundedPayment, HasGoodPayments, AreDistinct}
use Rattle.model_specs.specs.RecordRules.{is_bounded}
use Rattle.whole_laws.proofs.ListsByPlace.{length-list_of}
use Rattle.whole_laws.proofs.Members.{each_passes}
use Rattle.product_file.specs.Checks.{first_failed, first_failed_of_lists}
use Rattle.product_file.specs.Members.{whole_of, item_at, items_of, members_of, is_absent, wholes_of, listed}
use Rattle.product_file.specs.HeadRules.{is_format_1, state_names}
use Rattle.product_file.specs.TransitionRule.{transition_items, state_index, state_at}
use Rattle.product_file.specs.CurveRules.{months_of_term}
use Rattle.product_file.specs.PaymentRules.{steps_rule_10, sum_rule_10, sojourn_rule_10, rule_10, is_step, step_of}
use Rattle.product_file.specs.PaymentRules.{is_good_sojourn, is_sojourn, sojourn_items, sum_items, steps_items}
use Rattle.product_file.specs.PaymentRules.{amount_of, are_small, is_bounded_step, steps_rule_11, rule_11}
use Rattle.product_file.specs.Reads.{product_of, transition_of, sojourn_of}
use Rattle.product_file.proofs.Passed.{left-of, right-of, denied, each-holds, each-of-some, some-there, each-list-holds}
use Rattle.product_file.proofs.Passed.{each-place-holds, front-holds, back-holds, each-place-passes}
use Rattle.product_file.proofs.Wholes.{distinct_values}
use Rattle.product_file.proofs.Heads.{index_inside}
use Rattle.product_file.proofs.Transitions.{all_items}
use Rattle.product_file.proofs.Curves.{starts_rise}
use Rattle.model_laws.proofs.BoundedCoefficients.{bounded_from_test}

-- a step of either format has four coefficients
four : (tree : Members) (d : Data) → length (amount_of tree d) ≡ 4
four tree d = either (is_format_1 tree) _ _ refl
    (length-list_of 4 (coefficient_at (wholes_of (items_of (codes "c") (members_of d)))))
  where
    either : (b : Bool) (x y : List ℤ) → length x ≡ 4 → length y ≡ 4 → length (if b then x else y) ≡ 4
    either true x y h k = h
    either false x y h k = k

-- a list of steps whose checks hold
steps_are_good : (tree : Members) (items : List Data) → first_failed (steps_rule_10 tree items) ≡ None
    → IsPayment (months_of_term tree) (map (step_of tree) items)
steps_are_good tree items h = record {
  four = All-map (λ step. length step.c ≡ 4) (step_of tree) items (λ k d below. four tree (get_or items k d));
  starts = starts_rise (whole_of (codes "months") tree) items (step_of tree) (λ step. step.from) (λ d. refl)
      (some-there (length items) _ h)
      (λ i below. right-of (is_step tree (item_at items i)) _ (each-of-some (length items) _ h i below));
}

-- a sum that is there has good steps
sum_is_good : (tree : Members) (d : Data) → first_failed (sum_rule_10 tree d) ≡ None
    → 1 ≤ length (map (step_of tree) (sum_items d)) → IsPayment (months_of_term tree) (map (step_of tree) (sum_items d))
sum_is_good tree d h some = by-absence (is_absent (codes "sum") (members_of d)) refl h
  where
    nothing : (o : Option Data) → not (is_some o) ≡ true → length (listed (unwrap_or
        (option_and_then as_array o) no_items)) ≡ 0
    nothing None e = refl
    nothing (Some x) e = absurd (false≢true e)

    by-absence : (b : Bool) → is_absent (codes "sum") (members_of d) ≡ b
        → first_failed (if b then [] else steps_rule_10 tree (sum_items d)) ≡ None
        → IsPayment (months_of_term tree) (map (step_of tree) (sum_items d))
    by-absence true e g =
        let none : length (sum_items d) ≡ 0 = nothing (get_member (codes "sum") (members_of d)) e in
        let count : length (map (step_of tree) (sum_items d)) ≡ length (sum_items d) = length-map (sum_items d)
        (step_of tree) in
        absurd (omega (arith, none, count, some))
    by-absence false e g = steps_are_good tree (sum_items d) g

-- a sojourn whose checks hold is good, and has good steps
sojourn_is_good : (tree : Members) (s : ℕ) → first_failed (sojourn_rule_10 tree s) ≡ None
    → (is_good_sojourn tree s ≡ true) × (first_failed (steps_rule_10 tree (steps_items (item_at
    (sojourn_items tree) s))) ≡ None)
sojourn_is_good tree s h = by-answer (is_good_sojourn tree s) h
  where
    by-answer : (b : Bool)
        → first_failed (if b then steps_rule_10 tree (steps_items (item_at (sojourn_items tree) s)) else
        (false ∷ [])) ≡ None
        → (b ≡ true) × (first_failed (steps_rule_10 tree (steps_items (item_at (sojourn_items tree) s))) ≡ None)
    by-answer true g = (refl, g)
    by-answer false g = absurd (none-some _ (sym g))

-- a step whose test holds is bounded
step_is_bounded : (step : Step) (s : ℕ) → is_bounded_step step s ≡ true → IsBoundedStep step.c s
step_is_bounded step s h = record {
  coefficients = bounded_from_test step.c s (left-of _ _ h);
  amounts = λ k below i d inside. leb-true _ _
      (each_passes (λ b. nat_le (unsigned_abs b) (most_amount * bernstein_unit))
      (bernstein_numerators step.c k)
      (each-place-passes s (λ m. are_small (bernstein_numerators step.c m)) (λ m. m)
      (right-of (is_bounded step.c s) _ h) k below) i d inside);
}

steps_are_bounded : (tree : Members) (items : List Data) → first_failed (steps_rule_11 tree items) ≡ None
    → IsBoundedPayment (months_of_term tree) (map (step_of tree) items)
steps_are_bounded tree items h k below =
    step_is_bounded (slice_index_or (map (step_of tree) items) k (constant_step 0 (pos 0))) _
    (each-holds (length (map (step_of tree) items)) _ h k below)

pub good_payments : (tree : Members) → first_failed_of_lists (rule_10 tree) ≡ None
    → first_failed_of_lists (rule_11 tree) ≡ None → HasGoodPayments (product_of tree)
good_payments tree h10 h11 = record {
  states = All-map (λ s. s.state < length (state_names tree)) (sojourn_of tree) items
      (all_items (λ d. state_index tree (codes "state") d < length (state_names tree)) items
      (λ i below. index_inside tree _ (right-of (is_sojourn (item_at items i)) _ (left-of _ _ (good i below).0))));
  distinct = subst (AreDistinct 0) (sym (map-map (λ s. s.state) (sojourn_of tree) items))
      (distinct_values {A = Data} {B = ℕ} 0 (state_index tree (codes "state")) (λ a b. b == a) items (boolean false)
      (λ y. eq-eqb y y refl)
      (λ k below. denied _ (right-of (is_sojourn (item_at items k) && is_some (state_at tree (codes "state")
      (item_at items k))) _
      (good k below).0)));
  sojourns = All-map (λ s. IsPayment (months_of_term tree) s.steps) (sojourn_of tree) items
      (all_items (λ d. IsPayment (months_of_term tree) (map (step_of tree) (steps_items d))) items
      (λ i below. steps_are_good tree _ (good i below).1));
  sums = All-map (λ t. 1 ≤ length t.sum → IsPayment (months_of_term tree) t.sum) (transition_of tree)
      (transition_items tree)
      (λ k d below. sum_is_good tree (get_or (transition_items tree) k d) (sums k d below));
  bounded_sojourns = All-map (λ s. IsBoundedPayment (months_of_term tree) s.steps) (sojourn_of tree) items
      (λ k d below. steps_are_bounded tree _ (bounded-sojourns k d below));
  bounded_sums = All-map (λ t. IsBoundedPayment (months_of_term tree) t.sum) (transition_of tree)
      (transition_items tree)
      (λ k d below. steps_are_bounded tree _ (bounded-sums k d below));
}
  where
    items : List Data
    items = sojourn_items tree

    sum_checks : List (List Bool)
    sum_checks = map (sum_rule_10 tree) (transition_items tree)

    good : (i : ℕ) → i < length (sojourn_items tree) → (is_good_sojourn tree i ≡ true)
        × (first_failed (steps_rule_10 tree (steps_items (item_at (sojourn_items tree) i))) ≡ None)
    good i below = sojourn_is_good tree i
        (each-place-holds (length (sojourn_items tree)) _ (sojourn_rule_10 tree)
        (back-holds 0 (map (sum_rule_10 tree) (transition_items tree)) _ h10) i below)

    sums : All (λ d. first_failed (sum_rule_10 tree d) ≡ None) (transition_items tree)
    sums = each-list-holds (sum_rule_10 tree) 0 (transition_items tree)
        (front-holds 0 (map (sum_rule_10 tree) (transition_items tree)) _ h10)

    bounded-sums : All (λ d. first_failed (steps_rule_11 tree (sum_items d)) ≡ None) (transition_items tree)
    bounded-sums = each-list-holds (λ d. steps_rule_11 tree (sum_items d)) 0 (transition_items tree)
        (front-holds 0 (map (λ d. steps_rule_11 tree (sum_items d)) (transition_items tree)) _ h11)

    bounded-sojourns : All (λ d. first_failed (steps_rule_11 tree (steps_items d)) ≡ None) (sojourn_items tree)
    bounded-sojourns = each-list-holds (λ d. steps_rule_11 tree (steps_items d)) _ (sojourn_items tree)
        (back-holds 0 (map (λ d. steps_rule_11 tree (sum_items d)) (transition_items tree)) _ h11)
