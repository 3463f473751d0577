-- The curve and the list that are named are those of the rules.
use Rattle.std.proofs.Common.{◌≡◌, ℕ, suc, ◌-◌, ◌<◌, ◌≤◌, [], length, map, get_or, refl, ◌∙◌, sym}
use Rattle.std.proofs.Common.{codes, false, inl, inr, ap}
use Rattle.std.proofs.Math.ListN.{get_or-map, get_or-append, length-map}
use Rattle.std.proofs.Math.Seq.{get_or-append_right}
use Rattle.std.proofs.lemmas.Bool.{cases_lt, lt-ltb, le-ltb}
use Rattle.toml.specs.Data.{boolean, Members}
use Rattle.product_file.specs.Members.{items_of, item_at, members_of}
use Rattle.product_file.specs.TransitionRule.{transition_items}
use Rattle.product_file.specs.PaymentRules.{sojourn_items, steps_items, sum_items}
use Rattle.refusal_words.specs.declared.owners.Owner.TheVariants as owner
use Rattle.refusal_words.specs.FileNames.{owner_of, pieces_of, steps_of}
use Rattle.refusal_words.specs.Laws.{NamesAreOfTheRules, lists_of_steps}

rate_is : (tree : Members) (k : ℕ)
    → pieces_of tree (suc k) ≡ items_of (codes "rate") (members_of (item_at (transition_items tree) k))
rate_is tree k =
    get_or-map (λ d. items_of (codes "rate") (members_of d)) (transition_items tree) k (boolean false)

sum_is : (tree : Members) (list : ℕ) → list < length (transition_items tree)
    → get_or (lists_of_steps tree) list [] ≡ steps_of tree (owner_of tree list)
sum_is tree list below =
    let inside : list < length (map sum_items (transition_items tree)) = rw length-map below in
    let at_sum : owner_of tree list ≡ owner.Transition list = rw (lt-ltb _ _ below) refl in
    get_or-append (map sum_items (transition_items tree)) _ [] list inside
    ∙ get_or-map sum_items (transition_items tree) list (boolean false) ∙ ap (steps_of tree) (sym at_sum)

steps_are : (tree : Members) (list : ℕ) → length (transition_items tree) ≤ list
    → get_or (lists_of_steps tree) list [] ≡ steps_of tree (owner_of tree list)
steps_are tree list past =
    let count : length (map sum_items (transition_items tree)) ≡ length (transition_items tree) = rw length-map refl in
    let behind : length (map sum_items (transition_items tree)) ≤ list = rw length-map past in
    let at_steps : owner_of tree list ≡ owner.Sojourn (list - length (transition_items tree)) =
    rw (le-ltb _ _ past) refl in
    get_or-append_right (map sum_items (transition_items tree)) _ list [] behind
    ∙ ap (λ n. get_or (map steps_items (sojourn_items tree)) (list - n) []) count
    ∙ get_or-map steps_items (sojourn_items tree) _ (boolean false) ∙ ap (steps_of tree) (sym at_steps)

list_is : (tree : Members) (list : ℕ) → get_or (lists_of_steps tree) list [] ≡ steps_of tree (owner_of tree list)
list_is tree list = elim (cases_lt list (length (transition_items tree)))
    [ inl below ↦ sum_is tree list below | inr past ↦ steps_are tree list past ]

pub names_are_of_the_rules : (tree : Members) → NamesAreOfTheRules tree
names_are_of_the_rules tree = record {
  interest = refl;
  rates = λ k _. rate_is tree k;
  lists = λ list _. list_is tree list;
}
