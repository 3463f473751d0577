-- Rules 13 and 14 of a product file: its premium pattern.
use Rattle.std.specs.Prelude.{ℕ, zero, suc, ◌==◌, pos, codes, List, [], ◌∷◌, length, map, take}
use Rattle.std.specs.Prelude.{Bool, false, not, ◌&&◌, if◌then◌else◌, is_some, unwrap_or, Option}
use Rattle.std.specs.List.{list_any}
use Rattle.toml.specs.Data.{Data, table, Members, no_members, as_str, get_member}
use Rattle.whole_laws.specs.Whole.{list_of, natural_part}
use Rattle.model_specs.specs.Product.{PremiumPattern, no_pattern}
use Rattle.named_numbers.specs.Numbers.{most_every}
use Rattle.product_file.specs.Members.{is_absent, whole_of, items_of, item_at, members_of}
use Rattle.product_file.specs.Keys.{premium_keys, has_keys}
use Rattle.product_file.specs.HeadRules.{is_from_to, state_of}

-- the premium table of the file
abbrev pub premium_of : Members → Members
premium_of tree = members_of (unwrap_or (get_member (codes "premium") tree) (table no_members))

-- the premium table has its keys and no other
abbrev pub is_premium : Members → Bool
is_premium t = has_keys premium_keys t

-- the payers of the file
abbrev pub payer_items : Members → List Data
payer_items tree = items_of (codes "payers") (premium_of tree)

-- the state that a payer names
abbrev pub payer_state : Members → Data → Option ℕ
payer_state tree d = state_of tree (unwrap_or (as_str d) [])

-- its index, and 0 where it names none
abbrev pub payer_index : Members → Data → ℕ
payer_index tree d = unwrap_or (payer_state tree d) 0

-- a payer at a place is a string that names a state and differs from the earlier ones
abbrev pub is_good_payer : Members → ℕ → Bool
is_good_payer tree i =
    let d = item_at (payer_items tree) i in
    is_some (as_str d) && is_some (payer_state tree d)
    && not (list_any (λ e. payer_index tree e == payer_index tree d) (take i (payer_items tree)))

-- at least one payer, and each is good
abbrev pub payer_checks : Members → ℕ → List Bool
payer_checks tree zero = false ∷ []
payer_checks tree (suc n) = list_of (suc n) (is_good_payer tree)

-- rule 13: where there is a premium table, it has its keys and types (0), and at least one payer, each of
-- them good (1 + i)
abbrev pub rule_13 : Members → List Bool
rule_13 tree =
    if is_absent (codes "premium") tree then []
    else (is_premium (premium_of tree) ∷ payer_checks tree (length (payer_items tree)))

-- rule 14: where there is a premium table, `until` is from 1 to the term (0), and `every` is not too large (1)
abbrev pub rule_14 : Members → List Bool
rule_14 tree =
    let t = premium_of tree in
    if is_absent (codes "premium") tree then []
    else (is_from_to (pos 1) (whole_of (codes "months") tree) (whole_of (codes "until") t)
    ∷ is_from_to (pos 0) (pos most_every) (whole_of (codes "every") t) ∷ [])

-- the premium pattern of the product: one that never pays where the file has none
abbrev pub pattern_of : Members → PremiumPattern
pattern_of tree =
    let t = premium_of tree in
    if is_absent (codes "premium") tree then no_pattern
    else (record {
      payers = map (payer_index tree) (payer_items tree);
      until = natural_part (whole_of (codes "until") t);
      every = natural_part (whole_of (codes "every") t);
    })
