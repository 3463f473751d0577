-- Rules 3 to 6: good names and a good head.
use Rattle.std.proofs.Common.{◌≡◌, ℕ, suc, ◌<◌, ◌≤◌, List, [], length, take, arith, refl, sym, ◌∙◌, subst}
use Rattle.std.specs.Prelude.{Bool, true, false, ◌&&◌, ℤ, pos, codes, nat_le, slice_index_or, Option, Some, None}
use Rattle.std.specs.Prelude.{is_some, unwrap_or, position, bytes_eq, if◌then◌else◌}
use Rattle.std.proofs.lemmas.Bool.{true≢false, false≢true, ltb-true, leb-true}
use Rattle.std.proofs.lemmas.List.{get_or_default}
use Rattle.std.proofs.lemmas.List.Quantifiers.{position-Some}
use Rattle.std.proofs.lemmas.Slice.Eq.{bytes_eq-Decides}
use Rattle.toml.specs.Data.{Members, as_str}
use Rattle.named_numbers.specs.Numbers.{most_months, most_states, most_states_of_format_1, most_denominator}
use Rattle.named_numbers.specs.Numbers.{longest_product_name, longest_state_name}
use Rattle.model_specs.specs.Names.{IsGoodName, is_name_byte}
use Rattle.model_specs.specs.RecordRules.{AreDistinct, HasGoodNames, HasGoodHead}
use Rattle.product_file.specs.Checks.{first_failed}
use Rattle.product_file.specs.Members.{whole_of, items_of, item_at, is_among}
use Rattle.product_file.specs.HeadRules.{is_good_name, state_names, is_good_state, most_states_of}
use Rattle.product_file.specs.HeadRules.{is_format_1, rule_3, rule_4, rule_5, rule_6, state_of}
use Rattle.product_file.specs.Reads.{product_of}
use Rattle.product_file.proofs.Passed.{left-of, right-of, denied, nth-holds, listed-holds, none-passes}
use Rattle.product_file.proofs.Wholes.{natural_most, natural_some, some_natural}
use Rattle.whole_laws.proofs.Members.{each_passes}

-- a name that passes the test is good
pub name_is_good : (most : ℕ) (name : List ℕ) → is_good_name most name ≡ true → IsGoodName most name
name_is_good most name h = record {
  not_empty = ltb-true 0 (length name) (left-of _ _ (left-of _ _ h));
  short = leb-true (length name) most (right-of _ _ (left-of _ _ h));
  bytes = each_passes is_name_byte name (right-of _ _ h);
}

-- at most twelve states in either format
at-most-twelve : (b : Bool) (n : ℕ) → n ≤ (if b then most_states_of_format_1 else most_states) → n ≤ most_states
at-most-twelve true n h = omega (arith, h)
at-most-twelve false n h = h

-- each state's test holds
state-holds : (tree : Members) → first_failed (rule_3 tree) ≡ None → (i : ℕ) → i < length (state_names tree)
    → is_good_state tree i ≡ true
state-holds tree h i below =
    listed-holds _ (is_good_state tree) i below (nth-holds (rule_3 tree) h (suc (suc i)))

pub good_names : (tree : Members) → first_failed (rule_3 tree) ≡ None → HasGoodNames (product_of tree)
good_names tree h = record {
  name = name_is_good longest_product_name _ (nth-holds (rule_3 tree) h 0);
  some_state = leb-true 1 (length (state_names tree)) (left-of _ _ count);
  at_most_twelve = at-most-twelve (is_format_1 tree) _ (leb-true _ _ (right-of _ _ count));
  states = λ i d below. name_is_good longest_state_name _ (subst (λ name. is_good_name longest_state_name name ≡ true)
      (get_or_default (state_names tree) i [] d below)
      (right-of _ _ (left-of _ _ (state-holds tree h i below))));
  distinct = distinct;
}
  where
    count : (nat_le 1 (length (state_names tree)) && nat_le (length (state_names tree)) (most_states_of tree)) ≡ true
    count = nth-holds (rule_3 tree) h 1

    distinct : AreDistinct [] (state_names tree)
    distinct i j low below equal =
        let differ : is_among (take j (state_names tree)) (slice_index_or (state_names tree) j []) ≡ false =
        denied _ (right-of (is_some (as_str (item_at (items_of (codes "states") tree) j))
        && is_good_name longest_state_name (slice_index_or (state_names tree) j [])) _ (state-holds tree h j below)) in
        let same : bytes_eq (slice_index_or (state_names tree) j []) (slice_index_or (state_names tree) i []) ≡ true =
        (bytes_eq-Decides (slice_index_or (state_names tree) j []) (slice_index_or (state_names tree) i [])).1
        (sym equal) in
        true≢false (sym same ∙ none-passes (bytes_eq (slice_index_or (state_names tree) j [])) (state_names tree) j i []
        differ low (omega (arith, below)))

-- an index that is there is inside
pub index_inside : (tree : Members) (name : List ℕ) → is_some (state_of tree name) ≡ true
    → unwrap_or (state_of tree name) 0 < length (state_names tree)
index_inside tree name h = from-option (position (bytes_eq name) (state_names tree)) refl h
  where
    from-option : (o : Option ℕ) → position (bytes_eq name) (state_names tree) ≡ o → is_some o ≡ true
        → unwrap_or o 0 < length (state_names tree)
    from-option (Some i) e s = (position-Some (bytes_eq name) (state_names tree) i [] e).0
    from-option None e s = absurd (false≢true s)

pub good_head : (tree : Members) → first_failed (rule_4 tree) ≡ None → first_failed (rule_5 tree) ≡ None
    → first_failed (rule_6 tree) ≡ None → HasGoodHead (product_of tree)
good_head tree h4 h5 h6 = record {
  some_month = natural_some months (left-of _ _ (nth-holds (rule_4 tree) h4 0));
  at_most_a_century =
      natural_most months (pos most_months) (some_natural months (left-of _ _ (nth-holds (rule_4 tree) h4 0)))
      (right-of _ _ (nth-holds (rule_4 tree) h4 0));
  some_denominator = natural_some den (left-of _ _ (nth-holds (rule_5 tree) h5 0));
  largest_denominator =
      natural_most den (pos most_denominator) (some_natural den (left-of _ _ (nth-holds (rule_5 tree) h5 0)))
      (right-of _ _
      (nth-holds (rule_5 tree) h5 0));
  start = index_inside tree _ (nth-holds (rule_6 tree) h6 0);
}
  where
    months : ℤ
    months = whole_of (codes "months") tree

    den : ℤ
    den = whole_of (codes "den") tree
