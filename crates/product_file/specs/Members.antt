-- What a table of a TOML file holds at a key, where that has the wanted type.
use Rattle.std.specs.Prelude.{ℕ, nat_le, ℤ, pos, List, [], ◌∷◌, length, Bool, false, ◌&&◌, Option, is_some, not}
use Rattle.std.specs.Prelude.{option_and_then, unwrap_or, map, slice_index_or, bytes_eq}
use Rattle.std.specs.List.{list_all, list_any}
use Rattle.toml.specs.Data.{Data, boolean, Items, no_items, item, Members, no_members, member, get_member}
use Rattle.toml.specs.Data.{as_integer, as_str, as_array, as_table}

-- the items of an array
abbrev pub listed : Items → List Data
listed no_items = []
listed (item d ds) = d ∷ listed ds

-- an item by its place, and one that is of no wanted type past the end
abbrev pub item_at : List Data → ℕ → Data
item_at items i = slice_index_or items i (boolean false)

-- the keys of a table
abbrev pub keys_of : Members → List (List ℕ)
keys_of no_members = []
keys_of (member key value rest) = key ∷ keys_of rest

-- the name is one of these
abbrev pub is_among : List (List ℕ) → List ℕ → Bool
is_among names name = list_any (bytes_eq name) names

-- no key of the table is another one than these
abbrev pub has_no_key_but : List (List ℕ) → Members → Bool
has_no_key_but known tree = list_all (is_among known) (keys_of tree)

-- the whole number at a key
abbrev pub whole_at : List ℕ → Members → Option ℤ
whole_at key tree = option_and_then as_integer (get_member key tree)

-- the bytes of the string at a key
abbrev pub text_at : List ℕ → Members → Option (List ℕ)
text_at key tree = option_and_then as_str (get_member key tree)

-- the array at a key
abbrev pub array_at : List ℕ → Members → Option Items
array_at key tree = option_and_then as_array (get_member key tree)

-- there is nothing at the key
abbrev pub is_absent : List ℕ → Members → Bool
is_absent key tree = not (is_some (get_member key tree))

-- the whole number at a key, and 0 where there is none
abbrev pub whole_of : List ℕ → Members → ℤ
whole_of key tree = unwrap_or (whole_at key tree) (pos 0)

-- the bytes of the string at a key, and none where there is no string
abbrev pub text_of : List ℕ → Members → List ℕ
text_of key tree = unwrap_or (text_at key tree) []

-- the items of the array at a key; an absent array is an empty one
abbrev pub items_of : List ℕ → Members → List Data
items_of key tree = listed (unwrap_or (array_at key tree) no_items)

-- an array of 1 to `most` whole numbers is at the key
abbrev pub has_wholes : ℕ → List ℕ → Members → Bool
has_wholes most key t =
    let items = items_of key t in
    is_some (array_at key t) && nat_le 1 (length items) && nat_le (length items) most
    && list_all (λ d. is_some (as_integer d)) items

-- the members of a table, and none where the data is no table
abbrev pub members_of : Data → Members
members_of d = unwrap_or (as_table d) no_members

-- the whole numbers of some items, 0 for an item that is none
abbrev pub wholes_of : List Data → List ℤ
wholes_of items = map (λ d. unwrap_or (as_integer d) (pos 0)) items
