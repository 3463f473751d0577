-- Good transitions have different pairs of states, so there are few of them.
use Rattle.std.proofs.Common.{◌≡◌, ◌≢◌, ℕ, ◌+◌, ◌*◌, ◌<◌, ◌≤◌, Bool, true, false, not, ◌&&◌, eqb, codes, List, map}
use Rattle.std.proofs.Common.{take, length, get_or, None, is_some, ap, sym, ◌∙◌, arith}
use Rattle.std.specs.List.{list_any}
use Rattle.std.proofs.Math.ListN.{get_or-map}
use Rattle.std.proofs.lemmas.List.{length-map, length-take-le, get_or-take}
use Rattle.std.proofs.lemmas.List.Folds.{list_any_at}
use Rattle.std.proofs.lemmas.Bool.{and_parts, false≢true, false_from_ne_true, not-true}
use Rattle.std.proofs.lemmas.Bool.Decides.{nat_tests}
use Rattle.toml.specs.Data.{Members, boolean}
use Rattle.product_file.specs.Checks.{first_failed}
use Rattle.product_file.specs.Members.{item_at}
use Rattle.product_file.specs.HeadRules.{rule_3}
use Rattle.product_file.specs.TransitionRule.{transition_items, is_transition, state_at, pair_of}
use Rattle.product_file.specs.TransitionRule.{is_same_pair, is_good_transition, rule_7}
use Rattle.file_checks.proofs.Checks.{holds_at}
use Rattle.file_checks.proofs.Pigeonhole.{at_most}
use Rattle.file_checks.proofs.StateLemmas.{at_most_twelve, state_index-below}

-- where no element passes, none at a place does
pub none_at : {X : Type 0} (p : X → Bool) (xs : List X) (i : ℕ) (d : X) → list_any p xs ≡ false → i < length xs
    → p (get_or xs i d) ≡ false
none_at p xs i d none inside =
    false_from_ne_true (p (get_or xs i d)) (λ yes. false≢true (sym none ∙ list_any_at p xs i d inside yes))

-- what a good transition at a place says
record IsGood (tree : Members) (k : ℕ) : Type 0 where
  from : is_some (state_at tree (codes "from") (item_at (transition_items tree) k)) ≡ true
  to : is_some (state_at tree (codes "to") (item_at (transition_items tree) k)) ≡ true
  new : list_any (is_same_pair (pair_of tree (item_at (transition_items tree) k)))
      (map (pair_of tree) (take k (transition_items tree))) ≡ false

good_parts : (tree : Members) (k : ℕ) → is_good_transition tree k ≡ true → IsGood tree k
good_parts tree k good =
    let d = item_at (transition_items tree) k in
    let pair = pair_of tree d in
    let from = is_some (state_at tree (codes "from") d) in
    let to = is_some (state_at tree (codes "to") d) in
    let old = list_any (is_same_pair pair) (map (pair_of tree) (take k (transition_items tree))) in
    let all = and_parts (is_transition d && from && to && not (eqb pair.0 pair.1)) (not old) good in
    let first = and_parts (is_transition d && from && to) (not (eqb pair.0 pair.1)) all.0 in
    let ends = and_parts (is_transition d && from) to first.0 in
    let start = and_parts (is_transition d) from ends.0 in
    record { from = start.1; to = ends.1; new = not-true old all.1 }

-- a pair of states as a number
abbrev code_at : Members → ℕ → ℕ
code_at tree k = (pair_of tree (item_at (transition_items tree) k)).0 * 12
    + (pair_of tree (item_at (transition_items tree) k)).1

-- numbers of different pairs differ
codes_differ : (a b c d : ℕ) → b < 12 → d < 12 → is_same_pair (c, d) (a, b) ≡ false → a * 12 + b ≢ c * 12 + d
codes_differ a b c d small little other same =
    let first : c ≡ a = omega arith in
    let second : d ≡ b = omega arith in
    grind (arith, nat_tests)

other_pair : (tree : Members) (i k : ℕ) → i < k → k < length (transition_items tree) → IsGood tree k
    → is_same_pair (pair_of tree (item_at (transition_items tree) k)) (pair_of tree (item_at (transition_items tree) i))
    ≡ false
other_pair tree i k before inside good =
    let items = transition_items tree in
    let none = boolean false in
    let long : i < length (map (pair_of tree) (take k items)) =
    omega (arith, length-map (take k items) (pair_of tree), length-take-le k items (omega arith)) in
    let here : get_or (map (pair_of tree) (take k items)) i (pair_of tree none) ≡ pair_of tree (item_at items i) =
    get_or-map (pair_of tree) (take k items) i none ∙ ap (pair_of tree) (get_or-take k items i none before) in
    ap (is_same_pair (pair_of tree (item_at items k))) (sym here)
    ∙ none_at (is_same_pair (pair_of tree (item_at items k))) (map (pair_of tree) (take k items)) i (pair_of tree none)
    good.new long

-- 144 transitions at most are good, one after the other
pub few_transitions : (tree : Members) (k : ℕ) → first_failed (rule_3 tree) ≡ None
    → k ≤ length (transition_items tree) → ((i : ℕ) → i < k → is_good_transition tree i ≡ true) → k ≤ 144
few_transitions tree k names inside good = at_most (code_at tree) 144 k below differ
  where
    from_below : (i : ℕ) → i < k → (pair_of tree (item_at (transition_items tree) i)).0 < 12
    from_below i before =
        omega (
          arith,
          at_most_twelve tree names,
          state_index-below tree (codes "from") (item_at (transition_items tree) i)
              (good_parts tree i (good i before)).from,
        )

    to_below : (i : ℕ) → i < k → (pair_of tree (item_at (transition_items tree) i)).1 < 12
    to_below i before =
        omega (
          arith,
          at_most_twelve tree names,
          state_index-below tree (codes "to") (item_at (transition_items tree) i)
              (good_parts tree i (good i before)).to,
        )

    below : (i : ℕ) → i < k → code_at tree i < 144
    below i before = omega (arith, from_below i before, to_below i before)

    differ : (i j : ℕ) → i < j → j < k → code_at tree i ≢ code_at tree j
    differ i j first second =
        codes_differ _ _ _ _ (to_below i (omega arith)) (to_below j second)
        (other_pair tree i j first (omega arith) (good_parts tree j (good j second)))

-- so a file that obeys rules 3 and 7 has 144 at most
pub transitions-le : (tree : Members) → first_failed (rule_3 tree) ≡ None → first_failed (rule_7 tree) ≡ None
    → length (transition_items tree) ≤ 144
transitions-le tree names good =
    let count = length (transition_items tree) in
    few_transitions tree count names (omega arith) (λ i below. holds_at count i (is_good_transition tree) good below)
