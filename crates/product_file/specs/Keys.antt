-- The keys of the tables of a product file: what stands at each of them, and which may be left out.
use Rattle.std.specs.Prelude.{ℕ, List, [], ◌∷◌, map, Bool, true, false, not, ◌&&◌, ◌||◌, is_some}
use Rattle.std.specs.Prelude.{codes, option_and_then}
use Rattle.std.specs.List.{list_all}
use Rattle.toml.specs.Data.{Data, Members, as_table, get_member}
use Rattle.product_file.specs.Members.{has_no_key_but, whole_at, text_at, array_at, is_absent, has_wholes, members_of}

-- what may stand at a key: a whole number, a string, an array, an array of 1 to so many whole numbers, or a table
pub data Kind : Type 0 where
  Whole : Kind
  Text : Kind
  Array : Kind
  Wholes : ℕ → Kind
  Table : Kind

-- a key of a table: its name, what stands there, and whether it has to be there
pub record Key : Type 0 where
  pub name : List ℕ
  pub kind : Kind
  pub is_needed : Bool

-- a key that has to be there
abbrev pub needed : List ℕ → Kind → Key
needed name kind = record { name = name; kind = kind; is_needed = true }

-- a key that may be left out
abbrev pub optional : List ℕ → Kind → Key
optional name kind = record { name = name; kind = kind; is_needed = false }

-- something of this kind stands at a key
abbrev pub has_kind : Kind → List ℕ → Members → Bool
has_kind Whole name t = is_some (whole_at name t)
has_kind Text name t = is_some (text_at name t)
has_kind Array name t = is_some (array_at name t)
has_kind (Wholes most) name t = has_wholes most name t
has_kind Table name t = is_some (option_and_then as_table (get_member name t))

-- the key holds in a table: what stands there is of its kind, or it may be left out and is
abbrev pub has_key : Members → Key → Bool
has_key t key = (not key.is_needed && is_absent key.name t) || has_kind key.kind key.name t

-- the names of some keys
abbrev pub names_of : List Key → List (List ℕ)
names_of keys = map (λ key. key.name) keys

-- each of these keys holds in a table, and it has no other
abbrev pub has_keys : List Key → Members → Bool
has_keys keys t = list_all (has_key t) keys && has_no_key_but (names_of keys) t

-- the data is a table in which each of these keys holds, and it has no other
abbrev pub is_table_of : List Key → Data → Bool
is_table_of keys d = is_some (as_table d) && has_keys keys (members_of d)

-- the top table
abbrev pub top_keys : List Key
top_keys = needed (codes "format") Whole ∷ needed (codes "name") Text ∷ needed (codes "months") Whole
    ∷ needed (codes "den") Whole ∷ needed (codes "start") Text ∷ needed (codes "states") Array
    ∷ needed (codes "interest") Array ∷ optional (codes "transition") Array ∷ optional (codes "sojourn") Array
    ∷ optional (codes "lump") Array ∷ optional (codes "premium") Table ∷ []

-- a transition
abbrev pub transition_keys : List Key
transition_keys = needed (codes "from") Text ∷ needed (codes "to") Text ∷ needed (codes "rate") Array
    ∷ optional (codes "sum") Array ∷ []

-- a piece of a curve, or a step in format 2, of at most so many coefficients
abbrev pub piece_keys : ℕ → List Key
piece_keys most = needed (codes "from") Whole ∷ needed (codes "c") (Wholes most) ∷ []

-- a step in format 1
abbrev pub constant_step_keys : List Key
constant_step_keys = needed (codes "from") Whole ∷ needed (codes "amount") Whole ∷ []

-- a sojourn
abbrev pub sojourn_keys : List Key
sojourn_keys = needed (codes "state") Text ∷ needed (codes "steps") Array ∷ []

-- a lump
abbrev pub lump_keys : List Key
lump_keys = needed (codes "month") Whole ∷ needed (codes "state") Text ∷ needed (codes "amount") Whole ∷ []

-- the premium table
abbrev pub premium_keys : List Key
premium_keys = needed (codes "payers") Array ∷ needed (codes "until") Whole ∷ needed (codes "every") Whole ∷ []
