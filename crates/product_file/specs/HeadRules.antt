-- Rules 1 to 6 of a product file: its keys and types, its format, its names, term, denominator and start.
use Rattle.std.specs.Prelude.{ℕ, nat_lt, nat_le, ℤ, pos, int_le, codes}
use Rattle.std.specs.Prelude.{List, [], ◌∷◌, ◌++◌, length, map, take, slice_index_or, position, bytes_eq}
use Rattle.std.specs.Prelude.{Bool, not, ◌&&◌, if◌then◌else◌, Option, is_some, unwrap_or}
use Rattle.std.specs.List.{list_all}
use Rattle.toml.specs.Data.{Members, as_str}
use Rattle.named_numbers.specs.Numbers.{most_months, most_denominator, longest_product_name, longest_state_name}
use Rattle.named_numbers.specs.Numbers.{most_states, most_states_of_format_1}
use Rattle.whole_laws.specs.Whole.{list_of}
use Rattle.model_specs.specs.Names.{is_name_byte}
use Rattle.product_file.specs.Members.{has_no_key_but, is_among, whole_of, text_of, items_of, item_at}
use Rattle.product_file.specs.Keys.{has_key, names_of, top_keys}

-- rule 1: each key of the top table holds, and no other key is there; the place is the key's in its list, and the
-- number of keys for another one
abbrev pub rule_1 : Members → List Bool
rule_1 tree = map (has_key tree) top_keys ++ (has_no_key_but (names_of top_keys) tree ∷ [])

-- the number is from one to another
abbrev pub is_from_to : ℤ → ℤ → ℤ → Bool
is_from_to low high z = int_le low z && int_le z high

-- the file is of format 1
abbrev pub is_format_1 : Members → Bool
is_format_1 tree = is_from_to (pos 1) (pos 1) (whole_of (codes "format") tree)

-- rule 2: the format is 1 or 2
abbrev pub rule_2 : Members → List Bool
rule_2 tree = is_from_to (pos 1) (pos 2) (whole_of (codes "format") tree) ∷ []

-- a name of 1 to `most` bytes, each of which a name may have
abbrev pub is_good_name : ℕ → List ℕ → Bool
is_good_name most name = nat_lt 0 (length name) && nat_le (length name) most && list_all is_name_byte name

-- the names of the states, as far as they are strings
abbrev pub state_names : Members → List (List ℕ)
state_names tree = map (λ d. unwrap_or (as_str d) []) (items_of (codes "states") tree)

-- a state at a place is a string, a good name, and differs from all earlier ones
abbrev pub is_good_state : Members → ℕ → Bool
is_good_state tree i =
    let name = slice_index_or (state_names tree) i [] in
    is_some (as_str (item_at (items_of (codes "states") tree) i)) && is_good_name longest_state_name name
    && not (is_among (take i (state_names tree)) name)

-- how many states a product may have, in the format of the file
abbrev pub most_states_of : Members → ℕ
most_states_of tree = if is_format_1 tree then most_states_of_format_1 else most_states

-- rule 3: the product's name is good (0), there are 1 to 8 or 12 states (1), and each is good (2 + i)
abbrev pub rule_3 : Members → List Bool
rule_3 tree =
    let states = length (state_names tree) in
    is_good_name longest_product_name (text_of (codes "name") tree)
    ∷ (nat_le 1 states && nat_le states (most_states_of tree))
    ∷ list_of states (is_good_state tree)

-- rule 4: the term is 1 to 1200 months
abbrev pub rule_4 : Members → List Bool
rule_4 tree = is_from_to (pos 1) (pos most_months) (whole_of (codes "months") tree) ∷ []

-- rule 5: the denominator is from 1 to 10^12
abbrev pub rule_5 : Members → List Bool
rule_5 tree = is_from_to (pos 1) (pos most_denominator) (whole_of (codes "den") tree) ∷ []

-- the index of the state with a name, if there is one
abbrev pub state_of : Members → List ℕ → Option ℕ
state_of tree name = position (bytes_eq name) (state_names tree)

-- rule 6: the start is a state's name
abbrev pub rule_6 : Members → List Bool
rule_6 tree = is_some (state_of tree (text_of (codes "start") tree)) ∷ []
