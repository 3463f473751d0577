-- Rule 12 of a product file: its lump sums.
use Rattle.std.specs.Prelude.{ℕ, nat_le, pos, unsigned_abs, codes, List, length, take, Bool, not, ◌&&◌, is_some}
use Rattle.std.specs.List.{list_any}
use Rattle.toml.specs.Data.{Data, Members}
use Rattle.named_numbers.specs.Numbers.{most_lump}
use Rattle.whole_laws.specs.Whole.{list_of, natural_part}
use Rattle.model_specs.specs.Product.{Lump}
use Rattle.product_file.specs.Members.{whole_of, items_of, item_at, members_of}
use Rattle.product_file.specs.Keys.{lump_keys, is_table_of}
use Rattle.product_file.specs.HeadRules.{is_from_to}
use Rattle.product_file.specs.TransitionRule.{state_at, state_index, is_same_pair}

-- a lump is a table of its keys
abbrev pub is_lump : Data → Bool
is_lump d = is_table_of lump_keys d

-- the lumps of the file
abbrev pub lump_items : Members → List Data
lump_items tree = items_of (codes "lump") tree

-- a lump of the product
abbrev pub lump_of : Members → Data → Lump
lump_of tree d = record {
  month = natural_part (whole_of (codes "month") (members_of d));
  state = state_index tree (codes "state") d;
  amount = whole_of (codes "amount") (members_of d);
}

-- the date and the state of a lump
abbrev pub date_and_state : Lump → ℕ × ℕ
date_and_state lump = (lump.month, lump.state)

-- a lump at a place is one, of a date of the term, a state and an amount that is not too large, and no earlier one
-- has the same date and state
abbrev pub is_good_lump : Members → ℕ → Bool
is_good_lump tree k =
    let d = item_at (lump_items tree) k in
    is_lump d
    && is_from_to (pos 0) (whole_of (codes "months") tree) (whole_of (codes "month") (members_of d))
    && is_some (state_at tree (codes "state") d)
    && nat_le (unsigned_abs (lump_of tree d).amount) most_lump
    && not (list_any (λ e. is_same_pair (date_and_state (lump_of tree d)) (date_and_state (lump_of tree e)))
    (take k (lump_items tree)))

-- rule 12: each lump is good
abbrev pub rule_12 : Members → List Bool
rule_12 tree = list_of (length (lump_items tree)) (is_good_lump tree)
