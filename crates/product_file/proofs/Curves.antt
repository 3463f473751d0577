-- Rules 8 and 9: good curves.
use Rattle.std.proofs.Common.{◌≡◌, ℕ, zero, suc, ◌<◌, ◌≤◌, List, [], length, map, get_or}
use Rattle.std.proofs.Common.{arith, refl, ap, sym, subst, ◌∙◌}
use Rattle.std.specs.Prelude.{true, false, ℤ, pos, int_le, int_lt, codes, All, slice_index}
use Rattle.std.specs.Prelude.{None}
use Rattle.std.proofs.lemmas.List.{get_or-map, length-map}
use Rattle.std.proofs.lemmas.List.Elements.{All-map}
use Rattle.std.proofs.lemmas.Simd.{map-map}
use Rattle.toml.specs.Data.{Data, Members, boolean}
use Rattle.whole_laws.specs.Whole.{natural_part}
use Rattle.model_specs.specs.MonthNumbers.{coefficient_at}
use Rattle.model_specs.specs.RecordRules.{StartsRise, IsCurve, IsBoundedCurve, HasGoodCurves}
use Rattle.whole_laws.proofs.ListsByPlace.{length-list_of}
use Rattle.product_file.specs.Checks.{first_failed, first_failed_of_lists}
use Rattle.product_file.specs.Members.{whole_of, item_at, items_of, members_of, wholes_of}
use Rattle.product_file.specs.TransitionRule.{transition_items}
use Rattle.product_file.specs.CurveRules.{start_of, is_in_order, rule_8_of, rule_8, rule_9_of, rule_9}
use Rattle.product_file.specs.CurveRules.{piece_of, months_of_term, curve_items, is_piece, most_coefficients}
use Rattle.product_file.specs.Reads.{product_of, transition_of}
use Rattle.product_file.proofs.Passed.{left-of, right-of, each-holds, each-of-some, some-there, each-list-holds}
use Rattle.product_file.proofs.Wholes.{natural_below, natural_above, natural_zero}
use Rattle.model_laws.proofs.BoundedCoefficients.{bounded_from_test}

-- starts in order at all places: each is not negative
starts-natural : (months : ℤ) (items : List Data) → ((i : ℕ) → i < length items → is_in_order months items i ≡ true)
    → (i : ℕ) → i < length items → int_le (pos 0) (start_of (item_at items i)) ≡ true
starts-natural months items h zero below = left-of _ _ (left-of _ _ (h 0 below))
starts-natural months items h (suc i) below =
    natural_above (start_of (item_at items i)) _ (starts-natural months items h i (omega arith))
    (left-of _ _ (h (suc i) below))

-- and below the term
starts-below : (months : ℤ) (items : List Data) → ((i : ℕ) → i < length items → is_in_order months items i ≡ true)
    → (i : ℕ) → i < length items → int_lt (start_of (item_at items i)) months ≡ true
starts-below months items h zero below = right-of _ _ (h 0 below)
starts-below months items h (suc i) below = right-of _ _ (h (suc i) below)

-- the starts of items rise as those of the parts that are made of them
pub starts_rise : {A : Type 0} (months : ℤ) (items : List Data) (part : Data → A) (from : A → ℕ)
    → ((d : Data) → from (part d) ≡ natural_part (start_of d)) → 1 ≤ length items
    → ((i : ℕ) → i < length items → is_in_order months items i ≡ true)
    → StartsRise (natural_part months) (map from (map part items))
starts_rise {A} months items part from reads some h = record {
  some = subst (λ n. 1 ≤ n) (sym count) some;
  first = start-at 0 some ∙ natural_zero (start_of (item_at items 0)) from-0 to-0;
  rising = λ k below. rise k (subst (λ n. suc k < n) count below);
  below = λ k below. under k (subst (λ n. k < n) count below);
}
  where
    start : Data → ℕ
    start d = from (part d)

    from-0 : int_le (pos 0) (start_of (item_at items 0)) ≡ true
    from-0 = left-of _ (int_le (start_of (item_at items 0)) (pos 0)) (left-of _ _ (h 0 some))

    to-0 : int_le (start_of (item_at items 0)) (pos 0) ≡ true
    to-0 = right-of (int_le (pos 0) (start_of (item_at items 0))) _
        (left-of _ (int_lt (start_of (item_at items 0)) months) (h 0 some))

    count : length (map from (map part items)) ≡ length items
    count = length-map (map part items) from ∙ length-map items part

    start-at : (k : ℕ) → k < length items
        → slice_index (map from (map part items)) k ≡ natural_part (start_of (item_at items k))
    start-at k below = ap (λ xs. slice_index xs k) (map-map from part items)
        ∙ get_or-map (λ d. from (part d)) items k (boolean false) 0 below ∙ reads (item_at items k)

    rise : (k : ℕ) → suc k < length items
        → slice_index (map from (map part items)) k < slice_index (map from (map part items)) (suc k)
    rise k below = rw (start-at k (omega arith)) (rw (start-at (suc k) below)
        (natural_below (start_of (item_at items k)) (start_of (item_at items (suc k)))
        (starts-natural months items h k (omega arith)) (left-of _ _ (h (suc k) below))))

    under : (k : ℕ) → k < length items → slice_index (map from (map part items)) k < natural_part months
    under k below = rw (start-at k below)
        (natural_below (start_of (item_at items k)) months (starts-natural months items h k below)
        (starts-below months items h k below))

-- a curve whose checks hold
pub curve_is_good : (tree : Members) (items : List Data) → first_failed (rule_8_of tree items) ≡ None
    → IsCurve (months_of_term tree) (map piece_of items)
curve_is_good tree items h = record {
  six = All-map (λ piece. length piece.c ≡ 6) piece_of items (λ k d below.
      length-list_of 6 (coefficient_at (wholes_of (items_of (codes "c") (members_of (get_or items k d))))));
  starts = starts_rise (whole_of (codes "months") tree) items piece_of (λ piece. piece.from) (λ d. refl)
      (some-there (length items) _ h)
      (λ i below. right-of (is_piece (most_coefficients tree) (item_at items i)) _
      (each-of-some (length items) _ h i below));
}

pub curve_is_bounded : (tree : Members) (items : List Data) → first_failed (rule_9_of tree items) ≡ None
    → IsBoundedCurve (months_of_term tree) (map piece_of items)
curve_is_bounded tree items h k below =
    bounded_from_test _ _ (each-holds (length (map piece_of items)) _ h k below)

pub good_curves : (tree : Members) → first_failed_of_lists (rule_8 tree) ≡ None
    → first_failed_of_lists (rule_9 tree) ≡ None → HasGoodCurves (product_of tree)
good_curves tree h8 h9 = record {
  interest = curve_is_good tree _ (in-order 0 [] (omega arith));
  rates = All-map (λ t. IsCurve (months_of_term tree) t.rate) (transition_of tree) (transition_items tree)
      (λ k d below. curve_is_good tree _ (rate-at (λ items. first_failed
      (rule_8_of tree items) ≡ None) in-order k d below));
  bounded_interest = curve_is_bounded tree _ (bounded 0 [] (omega arith));
  bounded_rates = All-map (λ t. IsBoundedCurve (months_of_term tree) t.rate) (transition_of tree)
      (transition_items tree)
      (λ k d below. curve_is_bounded tree _ (rate-at (λ items. first_failed
      (rule_9_of tree items) ≡ None) bounded k d below));
}
  where
    in-order : All (λ items. first_failed (rule_8_of tree items) ≡ None) (curve_items tree)
    in-order = each-list-holds (rule_8_of tree) 0 (curve_items tree) h8

    bounded : All (λ items. first_failed (rule_9_of tree items) ≡ None) (curve_items tree)
    bounded = each-list-holds (rule_9_of tree) 0 (curve_items tree) h9

    rate_items : Data → List Data
    rate_items d = items_of (codes "rate") (members_of d)

    rate-at : (P : List Data → Type 0) → All P (curve_items tree) → (k : ℕ) (d : Data)
        → k < length (transition_items tree)
        → P (rate_items (get_or (transition_items tree) k d))
    rate-at P all k d below = subst P (get_or-map rate_items (transition_items tree) k d [] below)
        (all (suc k) [] (subst (λ n. suc k < suc n) (sym (length-map (transition_items tree) rate_items))
        (omega arith)))
