-- Rule 7 of a product file: its transitions.
use Rattle.std.specs.Prelude.{ℕ, ◌==◌, codes, List, length, map, take, Bool, not, ◌&&◌, Option, is_some, unwrap_or}
use Rattle.std.specs.List.{list_any}
use Rattle.toml.specs.Data.{Data, Members}
use Rattle.whole_laws.specs.Whole.{list_of}
use Rattle.product_file.specs.Members.{text_of, items_of, item_at, members_of}
use Rattle.product_file.specs.Keys.{transition_keys, is_table_of}
use Rattle.product_file.specs.HeadRules.{state_of}

-- a transition is a table of its keys
abbrev pub is_transition : Data → Bool
is_transition d = is_table_of transition_keys d

-- the transitions of the file
abbrev pub transition_items : Members → List Data
transition_items tree = items_of (codes "transition") tree

-- the state that a key of a table names
abbrev pub state_at : Members → List ℕ → Data → Option ℕ
state_at tree key d = state_of tree (text_of key (members_of d))

-- its index, and 0 where it names none
abbrev pub state_index : Members → List ℕ → Data → ℕ
state_index tree key d = unwrap_or (state_at tree key d) 0

-- from which state to which a transition leads
abbrev pub pair_of : Members → Data → ℕ × ℕ
pair_of tree d = (state_index tree (codes "from") d, state_index tree (codes "to") d)

-- the pairs of states have the same parts
abbrev pub is_same_pair : ℕ × ℕ → ℕ × ℕ → Bool
is_same_pair x y = (x.0 == y.0) && (x.1 == y.1)

-- a transition at a place is one, names two different states, and no earlier one has the same pair
abbrev pub is_good_transition : Members → ℕ → Bool
is_good_transition tree k =
    let d = item_at (transition_items tree) k in
    let pair = pair_of tree d in
    is_transition d && is_some (state_at tree (codes "from") d) && is_some (state_at tree (codes "to") d)
    && not (pair.0 == pair.1)
    && not (list_any (is_same_pair pair) (map (pair_of tree) (take k (transition_items tree))))

-- rule 7: each transition is good
abbrev pub rule_7 : Members → List Bool
rule_7 tree = list_of (length (transition_items tree)) (is_good_transition tree)
