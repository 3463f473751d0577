-- Good steps of a list are at most as many as the term has months, and good sojourns at most as many as the states.
use Rattle.std.proofs.Common.{◌≡◌, ◌≢◌, ℕ, ◌<◌, ◌≤◌, Bool, true, false, not, ◌&&◌, ◌==◌, cond, codes, List, [], ◌∷◌}
use Rattle.std.proofs.Common.{take, length, None, is_some, refl, ap, sym, ◌∙◌, arith}
use Rattle.std.specs.List.{list_any}
use Rattle.std.proofs.lemmas.List.{length-take-le, get_or-take}
use Rattle.std.proofs.lemmas.Bool.{and_parts, not-true}
use Rattle.std.proofs.lemmas.Bool.Decides.{nat_tests}
use Rattle.toml.specs.Data.{Data, Members, boolean}
use Rattle.product_file.specs.Checks.{first_failed}
use Rattle.product_file.specs.Members.{whole_of, item_at}
use Rattle.product_file.specs.HeadRules.{rule_3, rule_4}
use Rattle.product_file.specs.CurveRules.{is_in_order}
use Rattle.product_file.specs.TransitionRule.{state_at, state_index}
use Rattle.product_file.specs.PaymentRules.{is_step, is_sojourn, sojourn_items, is_good_sojourn, sojourn_rule_10}
use Rattle.product_file.specs.PaymentRules.{steps_rule_10, steps_items}
use Rattle.file_checks.specs.Lists.{is_good_step}
use Rattle.file_checks.proofs.InOrder.{few_in_order, term-le}
use Rattle.file_checks.proofs.Pigeonhole.{at_most}
use Rattle.file_checks.proofs.StateLemmas.{at_most_twelve, state_index-below}
use Rattle.file_checks.proofs.TransitionLemmas.{none_at}

pub few_steps : (tree : Members) (items : List Data) (i : ℕ) → first_failed (rule_4 tree) ≡ None
    → ((k : ℕ) → k < i → is_good_step tree items k ≡ true) → i ≤ 1200
few_steps tree items i term good =
    let months = whole_of (codes "months") tree in
    few_in_order months items i (term-le tree term)
    (λ k below. (and_parts (is_step tree (item_at items k)) (is_in_order months items k) (good k below)).1)

-- the state that a sojourn at a place names
abbrev index_at : Members → ℕ → ℕ
index_at tree s = state_index tree (codes "state") (item_at (sojourn_items tree) s)

-- what a good sojourn at a place says
record IsGood (tree : Members) (s : ℕ) : Type 0 where
  named : is_some (state_at tree (codes "state") (item_at (sojourn_items tree) s)) ≡ true
  new : list_any (λ e. state_index tree (codes "state") e == index_at tree s) (take s (sojourn_items tree)) ≡ false

good_parts : (tree : Members) (s : ℕ) → is_good_sojourn tree s ≡ true → IsGood tree s
good_parts tree s good =
    let d = item_at (sojourn_items tree) s in
    let named = is_some (state_at tree (codes "state") d) in
    let old = list_any (λ e. state_index tree (codes "state") e == index_at tree s) (take s (sojourn_items tree)) in
    let all = and_parts (is_sojourn d && named) (not old) good in
    record { named = (and_parts (is_sojourn d) named all.0).1; new = not-true old all.1 }

other_index : (tree : Members) (i k : ℕ) → i < k → k < length (sojourn_items tree) → IsGood tree k
    → index_at tree i ≢ index_at tree k
other_index tree i k before inside good =
    let items = sojourn_items tree in
    let none = boolean false in
    let index = index_at tree k in
    let long : i < length (take k items) = omega (arith, length-take-le k items (omega arith)) in
    let here = none_at (λ e. state_index tree (codes "state") e == index) (take k items) i none good.new long in
    differ _ index
    (ap (λ e. state_index tree (codes "state") e == index) (sym (get_or-take k items i none before)) ∙ here)
  where
    differ : (a b : ℕ) → (a == b) ≡ false → a ≢ b
    differ a b test = grind (arith, nat_tests)

few_good : (tree : Members) (k : ℕ) → first_failed (rule_3 tree) ≡ None → k ≤ length (sojourn_items tree)
    → ((i : ℕ) → i < k → is_good_sojourn tree i ≡ true) → k ≤ 12
few_good tree k names inside good =
    at_most (index_at tree) 12 k
    (λ i below. omega (
      arith,
      at_most_twelve tree names,
      state_index-below tree (codes "state") (item_at (sojourn_items tree) i) (good_parts tree i (good i below)).named,
    ))
    (λ i j first second. other_index tree i j first (omega arith) (good_parts tree j (good j second)))

-- a sojourn that obeys rule 10 is good
pub good_from : (b : Bool) (checks : List Bool) → first_failed (cond b checks (false ∷ [])) ≡ None → b ≡ true
good_from true checks h = refl
good_from false checks h = cc

pub few_sojourns : (tree : Members) (k : ℕ) → first_failed (rule_3 tree) ≡ None → k ≤ length (sojourn_items tree)
    → ((i : ℕ) → i < k → first_failed (sojourn_rule_10 tree i) ≡ None) → k ≤ 12
few_sojourns tree k names inside passed =
    few_good tree k names inside
    (λ i below. good_from (is_good_sojourn tree i)
    (steps_rule_10 tree (steps_items (item_at (sojourn_items tree) i))) (passed i below))

-- a sojourn is good where its table is, it names a state, and none before it names that
pub good_sojourn_is : (tree : Members) (s : ℕ) (d : Data) (index : ℕ) (before : List Data) (a b e : Bool)
    → d ≡ item_at (sojourn_items tree) s → index ≡ state_index tree (codes "state") d
    → before ≡ take s (sojourn_items tree) → a ≡ is_sojourn d → b ≡ is_some (state_at tree (codes "state") d)
    → e ≡ list_any (λ x. state_index tree (codes "state") x == index) before
    → (a && b && not e) ≡ is_good_sojourn tree s
good_sojourn_is tree s d index before a b e d_is index_is before_is a_is b_is e_is =
    rw (a_is, b_is, e_is, before_is, index_is, d_is) refl
