-- The flags of dates and states tell whether a lump comes again.
use Rattle.std.proofs.Common.{◌≡◌, ◌≢◌, ℕ, suc, ◌+◌, ◌*◌, ◌<◌, ◌≤◌, ℤ, pos, negsuc, ◌≤ℤ◌, eqb, nat_le}
use Rattle.std.proofs.Common.{Bool, true, false}
use Rattle.std.proofs.Common.{not, ◌&&◌, ◌||◌, codes, List, [], ◌∷◌, take, length, get_or, set, None, is_some}
use Rattle.std.proofs.Common.{below_more, refl, ap, sym, ◌∙◌, inl, inr, arith}
use mathlib.Core.Path.{ap₂}
use Rattle.std.specs.Prelude.{int_le, unsigned_abs}
use Rattle.std.specs.List.{list_any}
use Rattle.std.proofs.Math.Bool.{and-false, or-true, or-false}
use Rattle.std.proofs.lemmas.Bool.{and_parts, not-true, cases_eq}
use Rattle.std.proofs.lemmas.Bool.Decides.{nat_tests}
use Rattle.std.proofs.lemmas.Int.{ints}
use Rattle.std.proofs.lemmas.List.{length-take-le, get_or-take, get_or-set_same, get_or-set_other, length-set}
use Rattle.std.proofs.lemmas.List.Folds.{list_any_more}
use Rattle.toml.specs.Data.{Data, Members, boolean}
use Rattle.named_numbers.specs.Numbers.{most_lump}
use Rattle.whole_laws.specs.Whole.{natural_part}
use Rattle.product_file.specs.Checks.{first_failed}
use Rattle.product_file.specs.Members.{whole_of, members_of, item_at}
use Rattle.product_file.specs.HeadRules.{rule_3, rule_4, is_from_to}
use Rattle.product_file.specs.TransitionRule.{state_at, state_index, is_same_pair}
use Rattle.product_file.specs.CurveRules.{months_of_term}
use Rattle.product_file.specs.LumpRule.{lump_items, is_lump, is_good_lump, lump_of, date_and_state}
use Rattle.file_checks.specs.Slots.{is_fair_lump, slot_of, slot_count}
use Rattle.file_checks.proofs.InOrder.{term-le}
use Rattle.file_checks.proofs.Pigeonhole.{at_most}
use Rattle.file_checks.proofs.StateLemmas.{at_most_twelve, state_index-below}
use Rattle.file_checks.proofs.TransitionLemmas.{none_at}

-- the first k lumps are good, and the flags that are set are those of their dates and states
pub record HasSeen (tree : Members) (seen : List Bool) (k : ℕ) : Type 0 where
  pub good : (i : ℕ) → i < k → is_good_lump tree i ≡ true
  pub flags : (q : ℕ) → q < length seen
      → get_or seen q false ≡ list_any (λ e. eqb (slot_of tree e) q) (take k (lump_items tree))

-- what a fair lump says
pub record IsFair (tree : Members) (d : Data) : Type 0 where
  date : int_le (whole_of (codes "month") (members_of d)) (whole_of (codes "months") tree) ≡ true
  named : is_some (state_at tree (codes "state") d) ≡ true

fair_parts : (tree : Members) (d : Data) → is_fair_lump tree d ≡ true → IsFair tree d
fair_parts tree d fair =
    let months = whole_of (codes "months") tree in
    let month = whole_of (codes "month") (members_of d) in
    let dated = is_from_to (pos 0) months month in
    let named = is_some (state_at tree (codes "state") d) in
    let small = nat_le (unsigned_abs (whole_of (codes "amount") (members_of d))) most_lump in
    let all = and_parts (is_lump d && dated && named) small fair in
    let first = and_parts (is_lump d && dated) named all.0 in
    let parts = and_parts (is_lump d) dated first.0 in
    record { date = (and_parts (int_le (pos 0) month) (int_le month months) parts.1).1; named = first.1 }

natural_part-le : (a b : ℤ) → int_le a b ≡ true → natural_part a ≤ natural_part b
natural_part-le (pos a) (pos b) h = grind (arith, ints, nat_tests)
natural_part-le (pos a) (negsuc b) h = cc
natural_part-le (negsuc a) b h = omega arith

natural_part-most : (a : ℤ) → a ≤ℤ pos 1200 → natural_part a ≤ 1200
natural_part-most (pos a) h = omega (arith, ints)
natural_part-most (negsuc a) h = omega arith

pub months-le : (tree : Members) → first_failed (rule_4 tree) ≡ None → months_of_term tree ≤ 1200
months-le tree term = natural_part-most (whole_of (codes "months") tree) (term-le tree term)

state-below : (tree : Members) (d : Data) → first_failed (rule_3 tree) ≡ None → is_fair_lump tree d ≡ true
    → state_index tree (codes "state") d < 12
state-below tree d names fair =
    omega (arith, at_most_twelve tree names, state_index-below tree (codes "state") d (fair_parts tree d fair).named)

within : (m n s : ℕ) → m ≤ n → s < 12 → m * 12 + s < (n + 1) * 12
within m n s h k = omega arith

pub slot_of-within : (tree : Members) (d : Data) → first_failed (rule_3 tree) ≡ None → is_fair_lump tree d ≡ true
    → slot_of tree d < slot_count tree
slot_of-within tree d names fair =
    within (natural_part (whole_of (codes "month") (members_of d))) (months_of_term tree)
    (state_index tree (codes "state") d)
    (natural_part-le (whole_of (codes "month") (members_of d)) (whole_of (codes "months") tree)
    (fair_parts tree d fair).date) (state-below tree d names fair)

-- an earlier lump has the date and the state of the one at a place
abbrev repeats : Members → ℕ → Bool
repeats tree k =
    list_any (λ e. is_same_pair (date_and_state (lump_of tree (item_at (lump_items tree) k)))
    (date_and_state (lump_of tree e)))
    (take k (lump_items tree))

good_is : (tree : Members) (k : ℕ)
    → (is_fair_lump tree (item_at (lump_items tree) k) && not (repeats tree k)) ≡ is_good_lump tree k
good_is tree k = refl

fair_from_good : (tree : Members) (k : ℕ) → is_good_lump tree k ≡ true
    → is_fair_lump tree (item_at (lump_items tree) k) ≡ true
fair_from_good tree k good =
    (and_parts (is_fair_lump tree (item_at (lump_items tree) k)) (not (repeats tree k)) good).0

-- equal numbers stand for equal dates and states
same_slot : (a b c d : ℕ) → b < 12 → d < 12 → is_same_pair (a, b) (c, d) ≡ eqb (c * 12 + d) (a * 12 + b)
same_slot a b c d h k = grind (arith, nat_tests)

list_any-same : {A : Type 0} (p q : A → Bool) (xs : List A) (none : A)
    → ((i : ℕ) → i < length xs → p (get_or xs i none) ≡ q (get_or xs i none)) → list_any p xs ≡ list_any q xs
list_any-same p q [] none same = refl
list_any-same p q (x ∷ xs) none same =
    ap₂ (λ b c. b || c) (same 0 (omega arith))
    (list_any-same p q xs none (λ i below. same (suc i) (omega arith)))

-- a fair lump comes again where the flag of its date and state is set
repeats_is : (tree : Members) (k : ℕ) → first_failed (rule_3 tree) ≡ None → k ≤ length (lump_items tree)
    → ((i : ℕ) → i < k → is_good_lump tree i ≡ true) → is_fair_lump tree (item_at (lump_items tree) k) ≡ true
    → repeats tree k
    ≡ list_any (λ e. eqb (slot_of tree e) (slot_of tree (item_at (lump_items tree) k))) (take k (lump_items tree))
repeats_is tree k names inside good fair =
    let items = lump_items tree in
    let d = item_at items k in
    list_any-same (λ e. is_same_pair (date_and_state (lump_of tree d)) (date_and_state (lump_of tree e)))
    (λ e. eqb (slot_of tree e) (slot_of tree d)) (take k items) (boolean false)
    (λ i below. let before : i < k = omega (arith, length-take-le k items inside) in
    let here = get_or-take k items i (boolean false) before in
    same_at (get_or (take k items) i (boolean false))
    (ap (is_fair_lump tree) here ∙ fair_from_good tree i (good i before)))
  where
    same_at : (e : Data) → is_fair_lump tree e ≡ true
        → is_same_pair (date_and_state (lump_of tree (item_at (lump_items tree) k))) (date_and_state (lump_of tree e))
        ≡ eqb (slot_of tree e) (slot_of tree (item_at (lump_items tree) k))
    same_at e fair_e = same_slot _ _ _ _ (state-below tree (item_at (lump_items tree) k) names fair)
        (state-below tree e names fair_e)

-- a lump that is not fair, or comes again, is not good
pub unfair_is_bad : (tree : Members) (k : ℕ) → is_fair_lump tree (item_at (lump_items tree) k) ≡ false
    → is_good_lump tree k ≡ false
unfair_is_bad tree k unfair = ap (λ b. b && not (repeats tree k)) unfair

bad_again : (tree : Members) (k : ℕ) → repeats tree k ≡ true → is_good_lump tree k ≡ false
bad_again tree k again =
    ap (λ b. is_fair_lump tree (item_at (lump_items tree) k) && not b) again
    ∙ and-false (is_fair_lump tree (item_at (lump_items tree) k))

pub seen_is_bad : (tree : Members) (seen : List Bool) (k s : ℕ) → first_failed (rule_3 tree) ≡ None
    → HasSeen tree seen k → k ≤ length (lump_items tree) → is_fair_lump tree (item_at (lump_items tree) k) ≡ true
    → s ≡ slot_of tree (item_at (lump_items tree) k) → s < length seen → get_or seen s false ≡ true
    → is_good_lump tree k ≡ false
seen_is_bad tree seen k s names has inside fair is below flag =
    let P = λ (q : ℕ). list_any (λ e. eqb (slot_of tree e) q) (take k (lump_items tree)) in
    bad_again tree k
    (repeats_is tree k names inside has.good fair ∙ ap P (sym is) ∙ sym (has.flags s below) ∙ flag)

pub unseen_is_good : (tree : Members) (seen : List Bool) (k s : ℕ) → first_failed (rule_3 tree) ≡ None
    → HasSeen tree seen k → k ≤ length (lump_items tree) → is_fair_lump tree (item_at (lump_items tree) k) ≡ true
    → s ≡ slot_of tree (item_at (lump_items tree) k) → s < length seen → get_or seen s false ≡ false
    → is_good_lump tree k ≡ true
unseen_is_good tree seen k s names has inside fair is below flag =
    let P = λ (q : ℕ). list_any (λ e. eqb (slot_of tree e) q) (take k (lump_items tree)) in
    let new : repeats tree k ≡ false =
    repeats_is tree k names inside has.good fair ∙ ap P (sym is) ∙ sym (has.flags s below) ∙ flag in
    ap₂ (λ b c. b && not c) fair new

-- one flag more
flag_more : (tree : Members) (seen : List Bool) (k s q : ℕ) → k < length (lump_items tree)
    → s ≡ slot_of tree (item_at (lump_items tree) k) → q < length seen
    → get_or seen q false ≡ list_any (λ e. eqb (slot_of tree e) q) (take k (lump_items tree))
    → get_or (set seen s true) q false ≡ list_any (λ e. eqb (slot_of tree e) q) (take (k + 1) (lump_items tree))
flag_more tree seen k s q inside is below flag =
    let more = list_any_more (λ e. eqb (slot_of tree e) q) (lump_items tree) k (boolean false) inside in
    elim (cases_eq q s) [
      | inl same ↦
          let here : get_or (set seen s true) q false ≡ true =
          rw same (get_or-set_same seen s true false (rw (← same) below)) in
          let hit : eqb (slot_of tree (item_at (lump_items tree) k)) q ≡ true = equal_from _ _ (sym is ∙ sym same) in
          here ∙ sym (more ∙ ap (λ b. list_any (λ e. eqb (slot_of tree e) q) (take k (lump_items tree)) || b) hit
          ∙ or-true _)
      | inr other ↦
          let miss : eqb (slot_of tree (item_at (lump_items tree) k)) q ≡ false =
          differ_from _ _ (λ e. other (sym (is ∙ e))) in
          get_or-set_other seen s q true false other ∙ flag
          ∙ sym (more ∙ ap (λ b. list_any (λ e. eqb (slot_of tree e) q) (take k (lump_items tree)) || b) miss
          ∙ or-false _)
    ]
  where
    equal_from : (a b : ℕ) → a ≡ b → eqb a b ≡ true
    equal_from a b h = grind (arith, nat_tests)

    differ_from : (a b : ℕ) → a ≢ b → eqb a b ≡ false
    differ_from a b h = grind (arith, nat_tests)

pub seen_more : (tree : Members) (seen : List Bool) (k s : ℕ) → first_failed (rule_3 tree) ≡ None
    → HasSeen tree seen k → k < length (lump_items tree) → is_fair_lump tree (item_at (lump_items tree) k) ≡ true
    → s ≡ slot_of tree (item_at (lump_items tree) k) → s < length seen → get_or seen s false ≡ false
    → HasSeen tree (set seen s true) (k + 1)
seen_more tree seen k s names has inside fair is below flag = record {
  good = below_more (λ i. is_good_lump tree i ≡ true) k has.good
      (unseen_is_good tree seen k s names has (omega arith) fair is below flag);
  flags = λ q under.
      let short : q < length seen = omega (arith, length-set seen s true) in
      flag_more tree seen k s q inside is short (has.flags q short);
}

-- no flag is set at first
pub seen_none : (tree : Members) (seen : List Bool) → ((q : ℕ) → q < length seen → get_or seen q false ≡ false)
    → HasSeen tree seen 0
seen_none tree seen unset = record { good = λ i below. absurd (omega arith); flags = unset }

-- good lumps are at most as many as dates and states
other_slot : (tree : Members) (i k : ℕ) → first_failed (rule_3 tree) ≡ None → i < k → k ≤ length (lump_items tree)
    → ((j : ℕ) → j < suc k → is_good_lump tree j ≡ true)
    → slot_of tree (item_at (lump_items tree) i) ≢ slot_of tree (item_at (lump_items tree) k)
other_slot tree i k names before inside good =
    let items = lump_items tree in
    let slot = slot_of tree (item_at items k) in
    let new = not-true (repeats tree k)
    (and_parts (is_fair_lump tree (item_at items k)) (not (repeats tree k)) (good k (omega arith))).1 in
    let none = sym (repeats_is tree k names inside (λ j below. good j (omega arith))
    (fair_from_good tree k (good k (omega arith)))) ∙ new in
    let long : i < length (take k items) = omega (arith, length-take-le k items inside) in
    let here = none_at (λ e. eqb (slot_of tree e) slot) (take k items) i (boolean false) none long in
    differ _ slot (ap (λ e. eqb (slot_of tree e) slot) (sym (get_or-take k items i (boolean false) before)) ∙ here)
  where
    differ : (a b : ℕ) → eqb a b ≡ false → a ≢ b
    differ a b test = grind (arith, nat_tests)

pub few_lumps : (tree : Members) (k : ℕ) → first_failed (rule_3 tree) ≡ None → first_failed (rule_4 tree) ≡ None
    → k ≤ length (lump_items tree) → ((i : ℕ) → i < k → is_good_lump tree i ≡ true) → k ≤ 14412
few_lumps tree k names term inside good =
    at_most (λ i. slot_of tree (item_at (lump_items tree) i)) 14412 k
    (λ i below. omega (
      arith,
      months-le tree term,
      slot_of-within tree (item_at (lump_items tree) i) names (fair_from_good tree i (good i below)),
    ))
    (λ i j first second. other_slot tree i j names first (omega arith) (λ h under. good h (omega arith)))
