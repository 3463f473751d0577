-- The lumps of a file one by one, and a number for the date and the state of each.
use Rattle.std.specs.Prelude.{ℕ, ◌+◌, ◌*◌, nat_le, pos, unsigned_abs, codes, Bool, ◌&&◌, is_some}
use Rattle.toml.specs.Data.{Data, Members}
use Rattle.named_numbers.specs.Numbers.{most_lump, most_states}
use Rattle.whole_laws.specs.Whole.{natural_part}
use Rattle.product_file.specs.Members.{whole_of, members_of}
use Rattle.product_file.specs.HeadRules.{is_from_to}
use Rattle.product_file.specs.TransitionRule.{state_at, state_index}
use Rattle.product_file.specs.CurveRules.{months_of_term}
use Rattle.product_file.specs.LumpRule.{is_lump}

-- a lump is one, of a date of the term, a state and an amount that is not too large; an earlier one may be like it
abbrev pub is_fair_lump : Members → Data → Bool
is_fair_lump tree d = is_lump d
    && is_from_to (pos 0) (whole_of (codes "months") tree) (whole_of (codes "month") (members_of d))
    && is_some (state_at tree (codes "state") d)
    && nat_le (unsigned_abs (whole_of (codes "amount") (members_of d))) most_lump

-- the date times the most states of a product, and the state
abbrev pub slot_of : Members → Data → ℕ
slot_of tree d =
    natural_part (whole_of (codes "month") (members_of d)) * most_states + state_index tree (codes "state") d

-- how many of these numbers the dates of the term have
abbrev pub slot_count : Members → ℕ
slot_count tree = (months_of_term tree + 1) * most_states
