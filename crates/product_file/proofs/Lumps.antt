-- Rules 12 to 14: good lumps, and a good pattern.
use Rattle.std.proofs.Common.{◌≡◌, ℕ, zero, suc, ◌<◌, ◌≤◌, List, [], ◌∷◌, length, map, arith, refl, ap, sym, subst}
use Rattle.std.specs.Prelude.{Bool, true, false, ◌&&◌, if◌then◌else◌, ℤ, pos, int_le, codes, None, is_some}
use Rattle.std.specs.Prelude.{◌==◌, nat_le, unsigned_abs}
use Rattle.std.proofs.lemmas.Bool.{leb-true, eq-eqb}
use Rattle.std.proofs.lemmas.Option.{none-some}
use Rattle.std.proofs.lemmas.List.{length-map}
use Rattle.std.proofs.lemmas.List.Elements.{All-map}
use Rattle.std.proofs.lemmas.Simd.{map-map}
use Rattle.toml.specs.Data.{Data, Members, boolean, as_str}
use Rattle.named_numbers.specs.Numbers.{most_lump, most_every}
use Rattle.whole_laws.specs.Whole.{natural_part}
use Rattle.model_specs.specs.Product.{no_pattern, PremiumPattern, Product}
use Rattle.model_specs.specs.RecordRules.{AreDistinct, HasGoodLumps, HasGoodPattern}
use Rattle.product_file.specs.Checks.{first_failed}
use Rattle.product_file.specs.Members.{whole_of, item_at, members_of, is_absent}
use Rattle.product_file.specs.HeadRules.{state_names, is_from_to}
use Rattle.product_file.specs.TransitionRule.{state_index, state_at, is_same_pair}
use Rattle.product_file.specs.CurveRules.{months_of_term}
use Rattle.product_file.specs.LumpRule.{lump_of, lump_items, is_lump, is_good_lump, rule_12, date_and_state}
use Rattle.product_file.specs.PatternRules.{rule_13, rule_14, is_premium, premium_of, payer_items, payer_index}
use Rattle.product_file.specs.PatternRules.{payer_state, is_good_payer, payer_checks}
use Rattle.product_file.specs.Reads.{product_of}
use Rattle.product_file.proofs.Passed.{left-of, right-of, denied, nth-holds, others-hold, each-holds}
use Rattle.product_file.proofs.Wholes.{distinct_values, natural_most, natural_some, some_natural}
use Rattle.product_file.proofs.Heads.{index_inside}
use Rattle.product_file.proofs.Transitions.{all_items, same_pair}

pub good_lumps : (tree : Members) → first_failed (rule_12 tree) ≡ None → HasGoodLumps (product_of tree)
good_lumps tree h = record {
  dates = All-map (λ l. l.month ≤ months_of_term tree) (lump_of tree) items
      (all_items (λ d. natural_part (date d) ≤ months_of_term tree) items
      (λ i below. natural_most (date (item_at items i)) term (left-of _ (int_le (date (item_at items i)) term)
      (in-term i below))
      (right-of (int_le (pos 0) (date (item_at items i))) _ (in-term i below))));
  states = All-map (λ l. l.state < length (state_names tree)) (lump_of tree) items
      (all_items (λ d. state_index tree (codes "state") d < length (state_names tree)) items
      (λ i below. index_inside tree _ (right-of (is_lump (item_at items i) && is_from_to (pos 0) term (date
      (item_at items i))) _
      (left-of _ _ (left-of _ _ (good i below))))));
  amounts = All-map (λ l. unsigned_abs l.amount ≤ most_lump) (lump_of tree) items
      (all_items (λ d. unsigned_abs (lump_of tree d).amount ≤ most_lump) items
      (λ i below. leb-true _ _ (right-of (is_lump (item_at items i) && is_from_to (pos 0) term (date (item_at items i))
      && is_some (state_at tree (codes "state") (item_at items i))) _ (left-of _ _ (good i below)))));
  distinct = subst (AreDistinct {A = ℕ × ℕ} (0, 0)) (sym (map-map (λ l. (l.month, l.state)) (lump_of tree) items))
      (distinct_values {A = Data} {B = ℕ × ℕ} (0, 0) (λ d. date_and_state (lump_of tree d)) is_same_pair items
      (boolean false)
      same_pair (λ k below. denied _ (right-of (is_lump (item_at items k) && is_from_to (pos 0) term (date
      (item_at items k))
      && is_some (state_at tree (codes "state") (item_at items k))
      && nat_le (unsigned_abs (lump_of tree (item_at items k)).amount) (most_lump)) _ (good k below))));
}
  where
    items : List Data
    items = lump_items tree

    term : ℤ
    term = whole_of (codes "months") tree

    date : Data → ℤ
    date d = whole_of (codes "month") (members_of d)

    good : (i : ℕ) → i < length (lump_items tree) → is_good_lump tree i ≡ true
    good = each-holds (length (lump_items tree)) (is_good_lump tree) h

    in-term : (i : ℕ) → i < length (lump_items tree)
        → is_from_to (pos 0) (whole_of (codes "months") tree)
        (whole_of (codes "month") (members_of (item_at (lump_items tree) i))) ≡ true
    in-term i below = right-of (is_lump (item_at (lump_items tree) i)) _
        (left-of _ _ (left-of _ _ (left-of _ _ (good i below))))

-- what rules 13 and 14 check of a premium table that is there
record PremiumHolds (tree : Members) : Type 0 where
  pub some : 1 ≤ length (payer_items tree)
  pub payers : (i : ℕ) → i < length (payer_items tree) → is_good_payer tree i ≡ true
  pub until : is_from_to (pos 1) (whole_of (codes "months") tree) (whole_of (codes "until") (premium_of tree)) ≡ true
  pub every : is_from_to (pos 0) (pos most_every) (whole_of (codes "every") (premium_of tree)) ≡ true

some-payer : (tree : Members) (n : ℕ) → first_failed (payer_checks tree n) ≡ None → 1 ≤ n
some-payer tree zero h = absurd (none-some _ (sym h))
some-payer tree (suc n) h = omega arith

each-payer : (tree : Members) (n : ℕ) → first_failed (payer_checks tree n) ≡ None → (i : ℕ) → i < n
    → is_good_payer tree i ≡ true
each-payer tree zero h i below = absurd (omega arith)
each-payer tree (suc n) h i below = each-holds (suc n) (is_good_payer tree) h i below

-- the pattern of a premium table
abbrev table_pattern : Members → PremiumPattern
table_pattern tree = record {
  payers = map (payer_index tree) (payer_items tree);
  until = natural_part (whole_of (codes "until") (premium_of tree));
  every = natural_part (whole_of (codes "every") (premium_of tree));
}

-- a product with the head and the states of the tree, and a pattern
abbrev with-pattern : Members → PremiumPattern → Product
with-pattern tree p = record {
  name = (product_of tree).name;
  states = state_names tree;
  start = (product_of tree).start;
  months = months_of_term tree;
  den = (product_of tree).den;
  interest = (product_of tree).interest;
  transitions = (product_of tree).transitions;
  sojourns = (product_of tree).sojourns;
  lumps = (product_of tree).lumps;
  pattern = p;
}

no_pattern_is_good : (tree : Members) → HasGoodPattern (with-pattern tree no_pattern)
no_pattern_is_good tree = record {
  payers = λ k d below. absurd (omega arith);
  distinct = λ i j low below. absurd (omega arith);
  until_above_0 = λ some. absurd (omega arith);
  until_within = omega arith;
  every = omega arith;
  never_until = λ e. refl;
  never_every = λ e. refl;
}

table_pattern_is_good : (tree : Members) → PremiumHolds tree → HasGoodPattern (with-pattern tree (table_pattern tree))
table_pattern_is_good tree h = record {
  payers = All-map (λ i. i < length (state_names tree)) (payer_index tree) items
      (all_items (λ d. payer_index tree d < length (state_names tree)) items
      (λ i below. index_inside tree _ (right-of (is_some (as_str (item_at items i))) _ (left-of _ _
      (h.payers i below)))));
  distinct = distinct_values {A = Data} {B = ℕ} 0 (payer_index tree) (λ a b. b == a) items (boolean false)
      (λ y. eq-eqb y y refl)
      (λ k below. denied _ (right-of (is_some (as_str (item_at items k)) && is_some (payer_state tree
      (item_at items k))) _
      (h.payers k below)));
  until_above_0 = λ some. natural_some until (left-of _ (int_le until term) h.until);
  until_within = natural_most until term (some_natural until (left-of _ (int_le until term) h.until))
      (right-of (int_le (pos 1) until) _ h.until);
  every = natural_most every (pos most_every) (left-of _ (int_le every (pos most_every)) h.every)
      (right-of (int_le (pos 0) every) _ h.every);
  never_until = λ e. absurd (some-payers e);
  never_every = λ e. absurd (some-payers e);
}
  where
    items : List Data
    items = payer_items tree

    term : ℤ
    term = whole_of (codes "months") tree

    until : ℤ
    until = whole_of (codes "until") (premium_of tree)

    every : ℤ
    every = whole_of (codes "every") (premium_of tree)

    some-payers : map (payer_index tree) (payer_items tree) ≡ [] → ⊥
    some-payers e =
        let count : length (map (payer_index tree) (payer_items tree)) ≡ length (payer_items tree) =
        length-map (payer_items tree) (payer_index tree) in
        let none : length (map (payer_index tree) (payer_items tree)) ≡ 0 = ap length e in
        let some : 1 ≤ length (payer_items tree) = h.some in
        omega (arith, count, none, some)

pub good_pattern : (tree : Members) → first_failed (rule_13 tree) ≡ None → first_failed (rule_14 tree) ≡ None
    → HasGoodPattern (product_of tree)
good_pattern tree h13 h14 = by-absence (is_absent (codes "premium") tree) h13 h14
  where
    t : Members
    t = premium_of tree

    term : ℤ
    term = whole_of (codes "months") tree

    count : ℕ
    count = length (payer_items tree)

    by-absence : (b : Bool)
        → first_failed (if b then [] else (is_premium (premium_of tree) ∷ payer_checks tree (length
        (payer_items tree)))) ≡ None
        → first_failed (if b then [] else (is_from_to (pos 1) (whole_of (codes "months") tree) (whole_of
        (codes "until") (premium_of tree))
        ∷ is_from_to (pos 0) (pos most_every) (whole_of (codes "every") (premium_of tree)) ∷ [])) ≡ None
        → HasGoodPattern (with-pattern tree (if b then no_pattern else table_pattern tree))
    by-absence true a c = no_pattern_is_good tree
    by-absence false a c = table_pattern_is_good tree (record {
      some = some-payer tree count (others-hold (is_premium t) (payer_checks tree count) a);
      payers = each-payer tree count (others-hold (is_premium t) (payer_checks tree count) a);
      until = nth-holds (is_from_to (pos 1) term (whole_of (codes "until") t)
          ∷ is_from_to (pos 0) (pos most_every) (whole_of (codes "every") t) ∷ []) c 0;
      every = nth-holds (is_from_to (pos 1) term (whole_of (codes "until") t)
          ∷ is_from_to (pos 0) (pos most_every) (whole_of (codes "every") t) ∷ []) c 1;
    })
