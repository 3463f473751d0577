-- The states of a file: whether one is good, how many there are, and where a name leads.
use Rattle.std.proofs.Common.{◌≡◌, ℕ, ◌<◌, ◌≤◌, Bool, true, false, not, cond, ◌&&◌, nat_le, codes, List, [], map, take}
use Rattle.std.proofs.Common.{length, get_or, Option, Some, None, is_some, unwrap_or, refl, ap, sym, ◌∙◌, arith}
use Rattle.std.specs.Prelude.{position}
use Rattle.std.proofs.Math.ListN.{get_or-map}
use Rattle.std.proofs.lemmas.List.{take-map}
use Rattle.std.proofs.lemmas.Bool.{and_parts, false≢true, leb-true}
use Rattle.std.proofs.lemmas.List.Quantifiers.{position-Some}
use Rattle.toml.specs.Data.{Data, Members, boolean, as_str}
use Rattle.product_file.specs.Checks.{first_failed}
use Rattle.product_file.specs.Members.{items_of, item_at, is_among, text_of, members_of}
use Rattle.named_numbers.specs.Numbers.{longest_state_name, most_states, most_states_of_format_1}
use Rattle.product_file.specs.HeadRules.{is_good_name, is_good_state, state_names, most_states_of, rule_3}
use Rattle.product_file.specs.HeadRules.{is_format_1}
use Rattle.product_file.specs.TransitionRule.{state_at, state_index}
use Rattle.product_file.proofs.Heads.{index_inside}
use Rattle.file_tree.specs.Texts.{text_in}
use Rattle.file_checks.proofs.Checks.{passed_at}

-- a state is good where its text is, and differs from the texts before it
pub good_state_is : (tree : Members) (i : ℕ) (state : Data) (name : List ℕ) (before : List Data) (a b e : Bool)
    → state ≡ item_at (items_of (codes "states") tree) i → name ≡ text_in state
    → before ≡ take i (items_of (codes "states") tree) → a ≡ is_some (as_str state) → b
    ≡ is_good_name longest_state_name name
    → e ≡ is_among (map text_in before) name → (a && b && not e) ≡ is_good_state tree i
good_state_is tree i state name before a b e state_is name_is before_is a_is b_is e_is =
    let items = items_of (codes "states") tree in
    let named : name ≡ get_or (state_names tree) i [] =
    name_is ∙ ap text_in state_is ∙ sym (get_or-map text_in items i (boolean false)) in
    let earlier : map text_in before ≡ take i (state_names tree) =
    ap (map text_in) before_is ∙ sym (take-map text_in i items) in
    rw (a_is, b_is, e_is, earlier, named, state_is) refl

-- no product has more states than it may have
most_states-le : (b : Bool) → cond b most_states_of_format_1 most_states ≤ most_states
most_states-le true = omega arith
most_states-le false = omega arith

pub at_most_twelve : (tree : Members) → first_failed (rule_3 tree) ≡ None → length (state_names tree) ≤ most_states
at_most_twelve tree none =
    let states = length (state_names tree) in
    let few = and_parts (nat_le 1 states) (nat_le states (most_states_of tree))
    (passed_at (rule_3 tree) 1 none (omega arith)) in
    omega (arith, leb-true states (most_states_of tree) few.1, most_states-le (is_format_1 tree))

-- a name that leads to a state leads to one of them
place_below : (p : List ℕ → Bool) (xs : List (List ℕ)) (o : Option ℕ) → position p xs ≡ o → is_some o ≡ true
    → unwrap_or o 0 < length xs
place_below p xs None e h = absurd (false≢true h)
place_below p xs (Some i) e h = (position-Some p xs i [] e).0

pub state_index-below : (tree : Members) (key : List ℕ) (d : Data) → is_some (state_at tree key d) ≡ true
    → state_index tree key d < length (state_names tree)
state_index-below tree key d h = index_inside tree (text_of key (members_of d)) h
