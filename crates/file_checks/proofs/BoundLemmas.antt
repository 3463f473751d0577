-- Rules 9 and 11 of a list, item by item, and what the rules before them say of its starts.
use Rattle.std.proofs.Common.{◌≡◌, ℕ, zero, suc, ◌+◌, ◌<◌, ◌≤◌, pos, Bool, true, false, not, cond, codes, List, []}
use Rattle.std.proofs.Common.{◌∷◌, ◌++◌, map}
use Rattle.std.proofs.Common.{length, get_or, Option, Some, None, is_some, unwrap_or, option_and_then, refl, ap, sym}
use Rattle.std.proofs.Common.{◌∙◌, subst, arith}
use mathlib.Core.Path.{ap₂}
use Rattle.std.proofs.lemmas.Bool.{and_parts, false≢true}
use Rattle.std.proofs.lemmas.List.{length-map, get_or-map}
use Rattle.toml.specs.Data.{Data, Members, boolean, as_array, get_member, no_items}
use Rattle.whole_laws.specs.Whole.{list_of, natural_part}
use Rattle.model_specs.specs.Curve.{Piece, zero_piece}
use Rattle.model_specs.specs.Product.{Step}
use Rattle.model_specs.specs.Payments.{constant_step}
use Rattle.model_specs.specs.RecordRules.{months_of, piece_starts, step_starts, is_bounded}
use Rattle.product_file.specs.Checks.{first_failed, first_failed_from, first_failed_of_lists}
use Rattle.product_file.specs.Members.{whole_of, item_at, listed, members_of, is_absent}
use Rattle.product_file.specs.TransitionRule.{transition_items}
use Rattle.product_file.specs.HeadRules.{rule_4}
use Rattle.product_file.specs.CurveRules.{most_coefficients, is_piece, is_in_order, start_of, not_empty, curve_items}
use Rattle.product_file.specs.CurveRules.{piece_of, months_of_term, rule_8_of, rule_8, rule_9_of}
use Rattle.product_file.specs.PaymentRules.{is_step, step_of, is_bounded_step, steps_rule_10, steps_rule_11}
use Rattle.product_file.specs.PaymentRules.{sum_rule_10}
use Rattle.product_file.specs.PaymentRules.{sum_items, steps_items, sojourn_items, sojourn_rule_10, is_good_sojourn}
use Rattle.product_file.specs.PaymentRules.{rule_10}
use Rattle.file_checks.specs.Lists.{AreInOrder, starts_of, is_good_piece, is_good_step, is_bounded_piece}
use Rattle.file_checks.specs.Lists.{is_bounded_step_at}
use Rattle.whole_laws.proofs.ListsByPlace.{at-list_of, length-list_of, list_of-agree}
use Rattle.file_checks.proofs.Checks.{not_empty-some, holds_at, place_none}
use Rattle.file_checks.proofs.InOrder.{few_in_order, term-le}

-- a list that obeys its rule passes each check
order_from : (n i : ℕ) (check : ℕ → Bool) → first_failed (not_empty n check) ≡ None → i < n → check i ≡ true
order_from n i check none inside =
    holds_at n i check (ap first_failed (sym (not_empty-some n check (omega arith))) ∙ none) inside

pub pieces_in_order : (tree : Members) (items : List Data) → first_failed (rule_8_of tree items) ≡ None
    → AreInOrder tree items
pieces_in_order tree items none = λ i inside.
    (and_parts (is_piece (most_coefficients tree) (item_at items i))
    (is_in_order (whole_of (codes "months") tree) items i)
    (order_from (length items) i (is_good_piece tree items) none inside)).1

pub steps_in_order : (tree : Members) (items : List Data) → first_failed (steps_rule_10 tree items) ≡ None
    → AreInOrder tree items
steps_in_order tree items none = λ i inside.
    (and_parts (is_step tree (item_at items i)) (is_in_order (whole_of (codes "months") tree) items i)
    (order_from (length items) i (is_good_step tree items) none inside)).1

-- nothing at a key has no items
absent_is_empty : (o : Option Data) → not (is_some o) ≡ true
    → listed (unwrap_or (option_and_then as_array o) no_items) ≡ []
absent_is_empty None h = refl
absent_is_empty (Some d) h = absurd (false≢true h)

pub sum_in_order : (tree : Members) (d : Data) → first_failed (sum_rule_10 tree d) ≡ None
    → AreInOrder tree (sum_items d)
sum_in_order tree d none = by_absence (is_absent (codes "sum") (members_of d)) refl none
  where
    by_absence : (b : Bool) → is_absent (codes "sum") (members_of d) ≡ b
        → first_failed (cond b [] (steps_rule_10 tree (sum_items d))) ≡ None → AreInOrder tree (sum_items d)
    by_absence true absent h = λ i inside.
        absurd (omega (arith, ap length (absent_is_empty (get_member (codes "sum") (members_of d)) absent)))
    by_absence false present h = steps_in_order tree (sum_items d) h

pub sojourn_in_order : (tree : Members) (s : ℕ) → first_failed (sojourn_rule_10 tree s) ≡ None
    → AreInOrder tree (steps_items (item_at (sojourn_items tree) s))
sojourn_in_order tree s none = by_good (is_good_sojourn tree s) none
  where
    by_good : (b : Bool)
        → first_failed (cond b (steps_rule_10 tree (steps_items (item_at (sojourn_items tree) s))) (false ∷ [])) ≡ None
        → AreInOrder tree (steps_items (item_at (sojourn_items tree) s))
    by_good true h = steps_in_order tree (steps_items (item_at (sojourn_items tree) s)) h
    by_good false h = cc

-- each of the lists that obey a rule obeys it
from-none_at : (base : ℕ) (lists : List (List Bool)) (k : ℕ) → first_failed_from base lists ≡ None → k < length lists
    → first_failed (get_or lists k []) ≡ None
from-none_at base [] k none inside = absurd (omega arith)
from-none_at base (x ∷ xs) zero none inside =
    (place_none base (first_failed x) (first_failed_from (suc base) xs) none).0
from-none_at base (x ∷ xs) (suc k) none inside =
    from-none_at (suc base) xs k (place_none base (first_failed x) (first_failed_from (suc base) xs) none).1
    (omega arith)

from-both : (base : ℕ) (xs ys : List (List Bool)) → first_failed_from base (xs ++ ys) ≡ None
    → (first_failed_from base xs ≡ None) × (first_failed_from (base + length xs) ys ≡ None)
from-both base [] ys none =
    let same : base + 0 ≡ base = omega arith in (refl, ap (λ n. first_failed_from n ys) same ∙ none)
from-both base (x ∷ xs) ys none =
    let parts = place_none base (first_failed x) (first_failed_from (suc base) (xs ++ ys)) none in
    let rest = from-both (suc base) xs ys parts.1 in
    let same : base + suc (length xs) ≡ suc base + length xs = omega arith in
    (rw parts.0 rest.0, ap (λ n. first_failed_from n ys) same ∙ rest.1)

pub curve_obeys : (tree : Members) (k : ℕ) → first_failed_of_lists (rule_8 tree) ≡ None → k < length (curve_items tree)
    → first_failed (rule_8_of tree (get_or (curve_items tree) k [])) ≡ None
curve_obeys tree k none inside =
    ap first_failed (sym (get_or-map (rule_8_of tree) (curve_items tree) k [] [] inside))
    ∙ from-none_at 0 (rule_8 tree) k none (omega (arith, length-map (curve_items tree) (rule_8_of tree)))

payments_obey : (tree : Members) → first_failed_of_lists (rule_10 tree) ≡ None
    → (first_failed_from 0 (map (sum_rule_10 tree) (transition_items tree)) ≡ None)
    × (first_failed_from (0 + length (map (sum_rule_10 tree) (transition_items tree)))
    (list_of (length (sojourn_items tree)) (sojourn_rule_10 tree)) ≡ None)
payments_obey tree none =
    from-both 0 (map (sum_rule_10 tree) (transition_items tree))
    (list_of (length (sojourn_items tree)) (sojourn_rule_10 tree)) none

pub sum_obeys : (tree : Members) (k : ℕ) → first_failed_of_lists (rule_10 tree) ≡ None
    → k < length (transition_items tree) → first_failed (sum_rule_10 tree (item_at (transition_items tree) k)) ≡ None
sum_obeys tree k none inside =
    ap first_failed (sym (get_or-map (sum_rule_10 tree) (transition_items tree) k (boolean false) [] inside))
    ∙ from-none_at 0 (map (sum_rule_10 tree) (transition_items tree)) k (payments_obey tree none).0
    (omega (arith, length-map (transition_items tree) (sum_rule_10 tree)))

pub sojourn_obeys : (tree : Members) (s : ℕ) → first_failed_of_lists (rule_10 tree) ≡ None
    → s < length (sojourn_items tree) → first_failed (sojourn_rule_10 tree s) ≡ None
sojourn_obeys tree s none inside =
    let count = length (sojourn_items tree) in
    ap first_failed (sym (at-list_of count (sojourn_rule_10 tree) s [] inside))
    ∙ from-none_at (0 + length (map (sum_rule_10 tree) (transition_items tree)))
    (list_of count (sojourn_rule_10 tree)) s
    (payments_obey tree none).1 (omega (arith, length-list_of count (sojourn_rule_10 tree)))

-- the starts of the pieces and steps of the product are those of the file
starts_of-pieces : (items : List Data) → piece_starts (map piece_of items) ≡ starts_of items
starts_of-pieces [] = refl
starts_of-pieces (d ∷ items) = ap (λ more. natural_part (start_of d) ∷ more) (starts_of-pieces items)

starts_of-steps : (tree : Members) (items : List Data) → step_starts (map (step_of tree) items) ≡ starts_of items
starts_of-steps tree [] = refl
starts_of-steps tree (d ∷ items) =
    ap (λ more. natural_part (start_of d) ∷ more) (starts_of-steps tree items)

pub rule_9_is : (tree : Members) (items : List Data)
    → list_of (length items) (is_bounded_piece tree items) ≡ rule_9_of tree items
rule_9_is tree items =
    let months = months_of_term tree in
    let pieces = map piece_of items in
    list_of-agree (length items) (is_bounded_piece tree items)
    (λ i. is_bounded (get_or pieces i zero_piece).c (months_of months (piece_starts pieces) i))
    (λ i below. ap₂ (λ (piece : Piece) (starts : List ℕ). is_bounded piece.c (months_of months starts i))
    (sym (get_or-map piece_of items i (boolean false) zero_piece below)) (sym (starts_of-pieces items)))
    ∙ ap (λ n. list_of n (λ i. is_bounded (get_or pieces i zero_piece).c (months_of months (piece_starts pieces) i)))
    (sym (length-map items piece_of))

pub rule_11_is : (tree : Members) (items : List Data)
    → list_of (length items) (is_bounded_step_at tree items) ≡ steps_rule_11 tree items
rule_11_is tree items =
    let months = months_of_term tree in
    let steps = map (step_of tree) items in
    let none = constant_step 0 (pos 0) in
    list_of-agree (length items) (is_bounded_step_at tree items)
    (λ i. is_bounded_step (get_or steps i none) (months_of months (step_starts steps) i))
    (λ i below. ap₂ (λ (step : Step) (starts : List ℕ). is_bounded_step step (months_of months starts i))
    (sym (get_or-map (step_of tree) items i (boolean false) none below)) (sym (starts_of-steps tree items)))
    ∙ ap (λ n. list_of n (λ i. is_bounded_step (get_or steps i none) (months_of months (step_starts steps) i)))
    (sym (length-map items (step_of tree)))

-- a list in order has at most 1200 items
pub few_ordered : (tree : Members) (items : List Data) (i : ℕ) → first_failed (rule_4 tree) ≡ None
    → AreInOrder tree items → i ≤ length items → i ≤ 1200
few_ordered tree items i term ordered inside =
    few_in_order (whole_of (codes "months") tree) items i (term-le tree term) (λ k below. ordered k (omega arith))

-- equal lists are in order together
pub AreInOrder-same : (tree : Members) (items others : List Data) → items ≡ others → AreInOrder tree items
    → AreInOrder tree others
AreInOrder-same tree items others same ordered = subst (AreInOrder tree) same ordered
