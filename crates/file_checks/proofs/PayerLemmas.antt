-- Good payers name different states, so there are few of them.
use Rattle.std.proofs.Common.{◌≡◌, ◌≢◌, ℕ, zero, suc, ◌<◌, ◌≤◌, true, false, not, ◌&&◌, ◌==◌, take}
use Rattle.std.proofs.Common.{length, None, is_some, refl, ap, sym, ◌∙◌, arith}
use Rattle.std.specs.List.{list_any}
use Rattle.std.proofs.lemmas.List.{length-take-le, get_or-take}
use Rattle.std.proofs.lemmas.Bool.{and_parts, not-true}
use Rattle.std.proofs.lemmas.Bool.Decides.{nat_tests}
use Rattle.toml.specs.Data.{Members, boolean, as_str}
use Rattle.product_file.specs.Checks.{first_failed}
use Rattle.product_file.specs.Members.{item_at}
use Rattle.product_file.specs.HeadRules.{rule_3}
use Rattle.product_file.specs.CurveRules.{not_empty}
use Rattle.product_file.specs.PatternRules.{payer_items, payer_state, payer_index, is_good_payer, payer_checks}
use Rattle.product_file.proofs.Heads.{index_inside}
use Rattle.file_checks.proofs.Pigeonhole.{at_most}
use Rattle.file_checks.proofs.StateLemmas.{at_most_twelve}
use Rattle.file_checks.proofs.TransitionLemmas.{none_at}

-- what a good payer at a place says
record IsGood (tree : Members) (i : ℕ) : Type 0 where
  named : is_some (payer_state tree (item_at (payer_items tree) i)) ≡ true
  new : list_any (λ e. payer_index tree e == payer_index tree (item_at (payer_items tree) i))
      (take i (payer_items tree)) ≡ false

good_parts : (tree : Members) (i : ℕ) → is_good_payer tree i ≡ true → IsGood tree i
good_parts tree i good =
    let d = item_at (payer_items tree) i in
    let named = is_some (payer_state tree d) in
    let old = list_any (λ e. payer_index tree e == payer_index tree d) (take i (payer_items tree)) in
    let all = and_parts (is_some (as_str d) && named) (not old) good in
    record { named = (and_parts (is_some (as_str d)) named all.0).1; new = not-true old all.1 }

other_index : (tree : Members) (i k : ℕ) → i < k → k < length (payer_items tree) → IsGood tree k
    → payer_index tree (item_at (payer_items tree) i) ≢ payer_index tree (item_at (payer_items tree) k)
other_index tree i k before inside good =
    let items = payer_items tree in
    let none = boolean false in
    let index = payer_index tree (item_at items k) in
    let long : i < length (take k items) = omega (arith, length-take-le k items (omega arith)) in
    let here = none_at (λ e. payer_index tree e == index) (take k items) i none good.new long in
    differ _ index (ap (λ e. payer_index tree e == index) (sym (get_or-take k items i none before)) ∙ here)
  where
    differ : (a b : ℕ) → (a == b) ≡ false → a ≢ b
    differ a b test = grind (arith, nat_tests)

pub few_payers : (tree : Members) (k : ℕ) → first_failed (rule_3 tree) ≡ None → k ≤ length (payer_items tree)
    → ((i : ℕ) → i < k → is_good_payer tree i ≡ true) → k ≤ 12
few_payers tree k names inside good =
    at_most (λ i. payer_index tree (item_at (payer_items tree) i)) 12 k
    (λ i below. omega (
      arith,
      at_most_twelve tree names,
      index_inside tree _ (good_parts tree i (good i below)).named,
    ))
    (λ i j first second. other_index tree i j first (omega arith) (good_parts tree j (good j second)))

-- the checks of payers are those of a list that must not be empty
pub payer_checks-some : (tree : Members) (n : ℕ) → payer_checks tree n ≡ not_empty n (is_good_payer tree)
payer_checks-some tree zero = refl
payer_checks-some tree (suc n) = refl
