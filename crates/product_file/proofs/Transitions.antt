-- Rule 7: good transitions.
use Rattle.std.proofs.Common.{◌≡◌, ◌≢◌, ℕ, ◌<◌, List, length, take, refl, sym, subst, ◌∙◌}
use Rattle.std.specs.Prelude.{Bool, true, false, ◌&&◌, None, codes, All, ◌==◌}
use Rattle.std.proofs.lemmas.Bool.{eq-eqb}
use Rattle.std.proofs.lemmas.List.{get_or_default}
use Rattle.std.proofs.lemmas.List.Elements.{All-map}
use Rattle.std.proofs.lemmas.Simd.{map-map}
use Rattle.toml.specs.Data.{Data, Members, boolean}
use Rattle.model_specs.specs.RecordRules.{AreDistinct, HasGoodTransitions}
use Rattle.product_file.specs.Checks.{first_failed}
use Rattle.product_file.specs.Members.{item_at}
use Rattle.product_file.specs.HeadRules.{state_names}
use Rattle.product_file.specs.TransitionRule.{rule_7, transition_items, state_index, pair_of}
use Rattle.product_file.specs.TransitionRule.{is_same_pair, is_good_transition}
use Rattle.product_file.specs.Reads.{product_of, transition_of}
use Rattle.product_file.proofs.Passed.{left-of, right-of, denied, each-holds}
use Rattle.product_file.proofs.Wholes.{distinct_values, any-map}
use Rattle.product_file.proofs.Heads.{index_inside}
use Rattle.whole_laws.proofs.Tests.{other_numbers}

-- a pair has the same parts as itself
pub same_pair : (x : ℕ × ℕ) → is_same_pair x x ≡ true
same_pair x = both (x.0 == x.0) (x.1 == x.1) (eq-eqb x.0 x.0 refl) (eq-eqb x.1 x.1 refl)
  where
    both : (a b : Bool) → a ≡ true → b ≡ true → (a && b) ≡ true
    both true b h k = k
    both false b h k = h

-- what is said of each item by its place holds of all items
pub all_items : (P : Data → Type 0) (items : List Data) → ((i : ℕ) → i < length items → P (item_at items i))
    → All P items
all_items P items h i d below = subst P (get_or_default items i (boolean false) d below) (h i below)

pub good_transitions : (tree : Members) → first_failed (rule_7 tree) ≡ None → HasGoodTransitions (product_of tree)
good_transitions tree h = record {
  from = All-map (λ t. t.from < length (state_names tree)) (transition_of tree) items
      (all_items (λ d. state_index tree (codes "from") d < length (state_names tree)) items
      (λ i below. index_inside tree _ (right-of _ _ (left-of _ _ (left-of _ _ (left-of _ _ (good i below)))))));
  to = All-map (λ t. t.to < length (state_names tree)) (transition_of tree) items
      (all_items (λ d. state_index tree (codes "to") d < length (state_names tree)) items
      (λ i below. index_inside tree _ (right-of _ _ (left-of _ _ (left-of _ _ (good i below))))));
  different = All-map (λ t. t.from ≢ t.to) (transition_of tree) items
      (all_items (λ d. state_index tree (codes "from") d ≢ state_index tree (codes "to") d) items
      (λ i below. other_numbers _ _ (right-of _ _ (left-of _ _ (good i below)))));
  distinct = subst (AreDistinct {A = ℕ × ℕ} (0, 0))
      (sym (map-map (λ t. (t.from, t.to)) (transition_of tree) items))
      (distinct_values {A = Data} {B = ℕ × ℕ} (0, 0) (pair_of tree) is_same_pair items (boolean false) same_pair
      (λ k below.
      sym (any-map (is_same_pair (pair_of tree (item_at items k))) (pair_of tree) (take k items))
      ∙ denied _ (right-of _ _ (good k below))));
}
  where
    items : List Data
    items = transition_items tree

    good : (i : ℕ) → i < length items → is_good_transition tree i ≡ true
    good = each-holds (length items) (is_good_transition tree) h
