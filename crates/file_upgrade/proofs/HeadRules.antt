-- Rules 2 to 7 hold of a product's tree.
use Rattle.std.proofs.Common.{◌≡◌, ◌≢◌, ℕ, ◌<◌, List, [], ◌∷◌, length, map, take, get_or, refl, ap, sym, ◌∙◌, subst}
use Rattle.std.specs.Prelude.{Bool, true, false, not, ◌&&◌, ◌==◌, None, is_some, codes, bytes_eq, nat_le}
use Rattle.std.specs.List.{list_any}
use Rattle.std.proofs.lemmas.Bool.{and_from, lt-ltb, le-leb, ne_eqb, not_from_false, false_from_ne_true, eqb-true}
use Rattle.std.proofs.lemmas.List.{get_or-map, length-map}
use Rattle.std.proofs.lemmas.List.Elements.{All-get_or}
use Rattle.std.proofs.lemmas.Slice.Eq.{bytes_eq-Decides}
use Rattle.toml.specs.Data.{string, Members, boolean}
use Rattle.named_numbers.specs.Numbers.{most_months, most_states, most_denominator, longest_product_name}
use Rattle.named_numbers.specs.Numbers.{longest_state_name}
use Rattle.model_specs.specs.Names.{IsGoodName, is_name_byte}
use Rattle.model_specs.specs.Product.{Product, Step, Transition, no_transition}
use Rattle.model_specs.specs.RecordRules.{IsWellFormed}
use Rattle.whole_laws.specs.Whole.{list_of}
use Rattle.product_file.specs.Checks.{first_failed}
use Rattle.product_file.specs.Members.{items_of, item_at, is_among, text_of}
use Rattle.product_file.specs.HeadRules.{rule_2, rule_3, rule_4, rule_5, rule_6, is_good_name, is_good_state}
use Rattle.product_file.specs.HeadRules.{state_names, most_states_of}
use Rattle.product_file.specs.TransitionRule.{rule_7, is_transition, is_good_transition, transition_items}
use Rattle.product_file.specs.TransitionRule.{pair_of, is_same_pair}
use Rattle.product_file.proofs.Wholes.{any-map}
use Rattle.workload_gen.proofs.Passing.{places_pass}
use Rattle.file_upgrade.specs.FileTree.{transition_data}
use Rattle.file_upgrade.proofs.Checks.{one_more_passes, all_pass, no_earlier, none_before}
use Rattle.file_upgrade.proofs.Trees.{IsTreeOf}
use Rattle.file_upgrade.proofs.Values.{not_format_1, names_are, name_is_found, from_at, to_at}

-- a good name passes the test
good_name_passes : (most : ℕ) (name : List ℕ) → IsGoodName most name → is_good_name most name ≡ true
good_name_passes most name good =
    and_from _ _ (and_from _ _ (lt-ltb 0 (length name) good.not_empty) (le-leb (length name) most good.short))
    (all_pass is_name_byte name good.bytes)

-- pairs that differ are not the same by the test
pub other_pairs : (x y : ℕ × ℕ) → x ≢ y → is_same_pair y x ≡ false
other_pairs (a, b) (c, d) differ = false_from_ne_true _ (λ same. differ (both (c == a) (d == b) same
    (λ first second. rw (eqb-true c a first, eqb-true d b second) refl)))
  where
    both : {P : Type 0} (x y : Bool) → (x && y) ≡ true → (x ≡ true → y ≡ true → P) → P
    both true y h go = go refl h
    both false y h go = absurd cc

module _ (p : Product) (formed : IsWellFormed p) (tree : Members) (t : IsTreeOf p tree) where
  pub format_passes : first_failed (rule_2 tree) ≡ None
  format_passes = rw t.format refl

  state_passes : (i : ℕ) → i < length p.states → is_good_state tree i ≡ true
  state_passes i inside =
      let item : item_at (items_of (codes "states") tree) i ≡ string (get_or p.states i []) =
      ap (λ items. item_at items i) t.states ∙ get_or-map string p.states i [] (boolean false) inside in
      let none : is_among (take i p.states) (get_or p.states i []) ≡ false =
      none_before (bytes_eq (get_or p.states i [])) p.states i [] inside
      (λ k low. false_from_ne_true _ (λ same. formed.names.distinct k i low inside
      (sym ((bytes_eq-Decides (get_or p.states i []) (get_or p.states k [])).0 same)))) in
      rw (names_are p formed tree t, item)
      (and_from _ _ (good_name_passes longest_state_name _
      (All-get_or (IsGoodName longest_state_name) p.states i [] inside
      formed.names.states))
      (not_from_false _ none))

  pub names_pass : first_failed (rule_3 tree) ≡ None
  names_pass =
      let name : is_good_name longest_product_name (text_of (codes "name") tree) ≡ true =
      rw t.name (good_name_passes longest_product_name p.name formed.names.name) in
      let count : (nat_le 1 (length (state_names tree)) && nat_le (length (state_names tree)) (most_states_of tree))
      ≡ true =
      rw (not_format_1 p formed tree t, names_are p formed tree t)
      (and_from _ _ (le-leb 1 (length p.states) formed.names.some_state)
      (le-leb (length p.states) most_states formed.names.at_most_twelve)) in
      one_more_passes _ _ name (one_more_passes _ _ count
      (subst (λ names. first_failed (list_of (length names) (is_good_state tree)) ≡ None)
      (sym (names_are p formed tree t)) (places_pass (length p.states) (is_good_state tree) state_passes)))

  pub term_passes : first_failed (rule_4 tree) ≡ None
  term_passes = rw t.months (one_more_passes _ _ (and_from _ _ (le-leb 1 p.months formed.head.some_month)
      (le-leb p.months most_months formed.head.at_most_a_century)) refl)

  pub denominator_passes : first_failed (rule_5 tree) ≡ None
  denominator_passes = rw t.den (one_more_passes _ _ (and_from _ _ (le-leb 1 p.den formed.head.some_denominator)
      (le-leb p.den most_denominator formed.head.largest_denominator)) refl)

  pub start_passes : first_failed (rule_6 tree) ≡ None
  start_passes = rw t.start (one_more_passes _ _
      (ap is_some (name_is_found p formed tree t p.start formed.head.start)) refl)

  -- ---- transitions

  transition_is_one : (tr : Transition) → is_transition (transition_data p tr) ≡ true
  transition_is_one tr = by-steps tr.sum refl
    where
      by-steps : (steps : List Step) → tr.sum ≡ steps → is_transition (transition_data p tr) ≡ true
      by-steps [] is = rw is refl
      by-steps (step ∷ steps) is = rw is refl

  pair_is : (tr : Transition) → tr.from < length p.states → tr.to < length p.states
      → pair_of tree (transition_data p tr) ≡ (tr.from, tr.to)
  pair_is tr from to = rw (from_at p formed tree t tr from, to_at p formed tree t tr to) refl

  module _ (k : ℕ) (inside : k < length p.transitions) where
    abbrev at : ℕ → Transition
    at i = get_or p.transitions i no_transition

    from_inside : (i : ℕ) → i < length p.transitions → (at i).from < length p.states
    from_inside i below = formed.transitions.from i no_transition below

    to_inside : (i : ℕ) → i < length p.transitions → (at i).to < length p.states
    to_inside i below = formed.transitions.to i no_transition below

    pair_at : (i : ℕ) → i < length p.transitions
        → pair_of tree (transition_data p (at i)) ≡ ((at i).from, (at i).to)
    pair_at i below = pair_is (at i) (from_inside i below) (to_inside i below)

    no_earlier_pair : list_any (is_same_pair (pair_of tree (transition_data p (at k))))
        (map (pair_of tree) (take k (map (transition_data p) p.transitions))) ≡ false
    no_earlier_pair =
        any-map (is_same_pair (pair_of tree (transition_data p (at k)))) (pair_of tree)
        (take k (map (transition_data p) p.transitions))
        ∙ no_earlier {A = Transition} {B = ℕ × ℕ} (0, 0) (λ tr. (tr.from, tr.to)) (transition_data p)
        (λ d. is_same_pair (pair_of tree (transition_data p (at k))) (pair_of tree d)) p.transitions no_transition k
        formed.transitions.distinct inside
        (λ i below differ.
        ap (λ pair. is_same_pair pair (pair_of tree (transition_data p (at i)))) (pair_at k inside)
        ∙ ap (is_same_pair ((at k).from, (at k).to)) (pair_at i below)
        ∙ other_pairs ((at i).from, (at i).to) ((at k).from, (at k).to) differ)

    transition_passes : is_good_transition tree k ≡ true
    transition_passes =
        let item : item_at (transition_items tree) k ≡ transition_data p (at k) =
        ap (λ items. item_at items k) t.transitions
        ∙ get_or-map (transition_data p) p.transitions k no_transition (boolean false) inside in
        let different : not ((pair_of tree (transition_data p (at k))).0 == (pair_of tree
        (transition_data p (at k))).1) ≡ true =
        ap (λ (pair : ℕ × ℕ). not (pair.0 == pair.1)) (pair_at k inside)
        ∙ not_from_false _ (ne_eqb (at k).from (at k).to (formed.transitions.different k no_transition inside)) in
        rw (item, t.transitions) (and_from _ _ (and_from _ _ (and_from _ _ (and_from _ _ (transition_is_one (at k))
        (ap is_some (from_at p formed tree t (at k) (from_inside k inside))))
        (ap is_some (to_at p formed tree t (at k) (to_inside k inside)))) different)
        (not_from_false _ no_earlier_pair))

  pub transitions_pass : first_failed (rule_7 tree) ≡ None
  transitions_pass =
      let count : length (transition_items tree) ≡ length p.transitions =
      ap length t.transitions ∙ length-map p.transitions (transition_data p) in
      rw count (places_pass (length p.transitions) (is_good_transition tree) transition_passes)
