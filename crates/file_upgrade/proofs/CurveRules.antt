-- Rules 8 and 9 hold of a product's tree.
use Rattle.std.proofs.Common.{◌≡◌, ℕ, zero, suc, ◌*◌, ◌^◌, ◌<◌, List, [], ◌∷◌, length, map, get_or}
use Rattle.std.proofs.Common.{arith, refl, ap, sym, ◌∙◌, subst}
use Rattle.std.specs.Prelude.{ℤ, pos, Bool, true, false, None, All, codes, nat_le, unsigned_abs}
use Rattle.std.proofs.lemmas.Bool.{and_from, lt-ltb, le-leb}
use Rattle.std.proofs.lemmas.List.{get_or-map, length-map}
use Rattle.std.proofs.lemmas.List.Elements.{All-get_or, All-map, All-cons}
use Rattle.toml.specs.Data.{Data, Members, boolean}
use Rattle.named_numbers.specs.Numbers.{most_coefficient}
use Rattle.model_specs.specs.Curve.{Piece, zero_piece}
use Rattle.model_specs.specs.MonthNumbers.{coefficient_at}
use Rattle.model_specs.specs.Product.{Product, Transition}
use Rattle.model_specs.specs.RecordRules.{IsWellFormed, StartsRise, IsCurve, IsBounded, IsBoundedCurve}
use Rattle.model_specs.specs.RecordRules.{is_bounded}
use Rattle.product_file.specs.Checks.{first_failed, first_failed_of_lists}
use Rattle.product_file.specs.Members.{item_at, items_of, members_of}
use Rattle.product_file.specs.CurveRules.{start_of, is_in_order, rule_8_of, rule_8, rule_9_of, rule_9}
use Rattle.product_file.specs.CurveRules.{curve_items}
use Rattle.product_file.specs.TransitionRule.{transition_items}
use Rattle.workload_gen.proofs.Passing.{places_pass, some_places_pass, each_place_passes}
use Rattle.file_upgrade.specs.FileTree.{transition_data}
use Rattle.file_upgrade.proofs.Again.{six_make_a_piece}
use Rattle.file_upgrade.proofs.Checks.{all_lists_pass}
use Rattle.file_upgrade.proofs.Trees.{IsTreeOf}
use Rattle.file_upgrade.proofs.Values.{piece_data, pieces_again, not_format_1, term_is, rate_items_are}

-- starts that rise are in order, where the data at each place starts there
pub in_order : (months : ℕ) (items : List Data) (starts : List ℕ) → StartsRise months starts
    → ((i : ℕ) → i < length starts → start_of (item_at items i) ≡ pos (get_or starts i 0))
    → (i : ℕ) → i < length starts → is_in_order (pos months) items i ≡ true
in_order months items starts rise at zero below =
    let first : get_or starts 0 0 ≡ 0 = rise.first in
    rw (at 0 below, first) (lt-ltb 0 months (subst (λ n. n < months) first (rise.below 0 below)))
in_order months items starts rise at (suc i) below =
    rw (at (suc i) below, at i (omega arith))
    (and_from _ _ (lt-ltb (get_or starts i 0) (get_or starts (suc i) 0) (rise.rising i below))
    (lt-ltb (get_or starts (suc i) 0) months (rise.below (suc i) below)))

-- bounded coefficients pass the test
pub bounded_pass : (c : List ℤ) (s : ℕ) → IsBounded c s → is_bounded c s ≡ true
bounded_pass c s h = each_place_passes
    (λ i. nat_le (unsigned_abs (coefficient_at c i) * s ^ i) most_coefficient) (length c) (λ i. i)
    (λ i below. le-leb _ _ (h i below))

module _ (p : Product) (formed : IsWellFormed p) (tree : Members) (t : IsTreeOf p tree) where
  pieces_pass : (pieces : List Piece) → IsCurve p.months pieces
      → first_failed (rule_8_of tree (map piece_data pieces)) ≡ None
  pieces_pass pieces curve =
      let items = map piece_data pieces in
      let starts = map (λ (piece : Piece). piece.from) pieces in
      let count : length items ≡ length pieces = length-map pieces piece_data in
      let as_many : length starts ≡ length pieces = length-map pieces (λ piece. piece.from) in
      let at : (i : ℕ) → i < length pieces → item_at items i ≡ piece_data (get_or pieces i zero_piece) =
      λ i below. get_or-map piece_data pieces i zero_piece (boolean false) below in
      let start_at : (i : ℕ) → i < length starts → start_of (item_at items i) ≡ pos (get_or starts i 0) =
      λ i below. let inside : i < length pieces = subst (λ n. i < n) as_many below in
      ap start_of (at i inside) ∙ ap pos (sym (get_or-map (λ (piece : Piece). piece.from) pieces i zero_piece 0 inside))
      in
      rw (not_format_1 p formed tree t, t.months)
      (some_places_pass (length items) _
      (subst (λ n. 0 < n) (sym count) (subst (λ n. 0 < n) as_many curve.starts.some))
      (λ i below. let inside : i < length pieces = subst (λ n. i < n) count below in
      and_from _ _ (rw (at i inside) (six_make_a_piece (get_or pieces i zero_piece).from (get_or pieces i zero_piece).c
      (All-get_or (λ (piece : Piece). length piece.c ≡ 6) pieces i
      zero_piece inside curve.six)))
      (in_order p.months items starts curve.starts start_at i (subst (λ n. i < n) (sym as_many) inside))))

  sizes_pass : (pieces : List Piece) → IsCurve p.months pieces → IsBoundedCurve p.months pieces
      → first_failed (rule_9_of tree (map piece_data pieces)) ≡ None
  sizes_pass pieces curve bounded =
      rw (pieces_again pieces curve.six, term_is p formed tree t)
      (places_pass (length pieces) _ (λ i below. bounded_pass _ _ (bounded i below)))

  curves_are : curve_items tree ≡ map piece_data p.interest ∷ map (λ (tr : Transition). map piece_data tr.rate)
      p.transitions
  curves_are =
      ap (λ items. items ∷ map (λ d. items_of (codes "rate") (members_of d)) (transition_items tree)) t.interest
      ∙ ap (λ rates. map piece_data p.interest ∷ rates)
      (ap (map (λ d. items_of (codes "rate") (members_of d))) t.transitions
      ∙ rates_are (λ d. items_of (codes "rate") (members_of d)) (transition_data p)
      (λ (tr : Transition). map piece_data tr.rate) (rate_items_are p formed tree t) p.transitions)
    where
      rates_are : {A B C : Type 0} (f : B → C) (g : A → B) (h : A → C) → ((x : A) → f (g x) ≡ h x) → (xs : List A)
          → map f (map g xs) ≡ map h xs
      rates_are f g h same [] = refl
      rates_are f g h same (x ∷ xs) =
          ap (λ y. y ∷ map f (map g xs)) (same x) ∙ ap (λ ys. h x ∷ ys) (rates_are f g h same xs)

  each_curve : (checks : List Data → List Bool) → first_failed (checks (map piece_data p.interest)) ≡ None
      → All (λ (tr : Transition). first_failed (checks (map piece_data tr.rate)) ≡ None) p.transitions
      → All (λ items. first_failed (checks items) ≡ None) (curve_items tree)
  each_curve checks first others = subst (All (λ items. first_failed (checks items) ≡ None)) (sym curves_are)
      (All-cons (λ items. first_failed (checks items) ≡ None) _ _ first
      (All-map (λ items. first_failed (checks items) ≡ None) (λ (tr : Transition). map piece_data tr.rate)
      p.transitions others))

  pub curves_pass : first_failed_of_lists (rule_8 tree) ≡ None
  curves_pass = all_lists_pass (rule_8_of tree) 0 (curve_items tree) (each_curve (rule_8_of tree)
      (pieces_pass p.interest formed.curves.interest)
      (λ k d below. pieces_pass (get_or p.transitions k d).rate (formed.curves.rates k d below)))

  pub bounds_pass : first_failed_of_lists (rule_9 tree) ≡ None
  bounds_pass = all_lists_pass (rule_9_of tree) 0 (curve_items tree) (each_curve (rule_9_of tree)
      (sizes_pass p.interest formed.curves.interest formed.curves.bounded_interest)
      (λ k d below. sizes_pass (get_or p.transitions k d).rate (formed.curves.rates k d below)
      (formed.curves.bounded_rates k d below)))
