-- Rules 8 and 9 of a product file: the pieces of its curves. Curve 0 is the force of interest, curve 1 + k the
-- intensity of transition k.
use Rattle.std.specs.Prelude.{ℕ, zero, suc, ℤ, pos, int_le, int_lt, codes}
use Rattle.std.specs.Prelude.{List, [], ◌∷◌, length, map, slice_index_or, Bool, false, ◌&&◌, if◌then◌else◌}
use Rattle.toml.specs.Data.{Data, Members}
use Rattle.whole_laws.specs.Whole.{list_of, natural_part}
use Rattle.model_specs.specs.Curve.{Piece, zero_piece}
use Rattle.model_specs.specs.MonthNumbers.{coefficient_at}
use Rattle.model_specs.specs.RecordRules.{months_of, piece_starts, is_bounded}
use Rattle.product_file.specs.Members.{whole_of, items_of, item_at, members_of, wholes_of}
use Rattle.product_file.specs.Keys.{piece_keys, is_table_of}
use Rattle.product_file.specs.HeadRules.{is_format_1}
use Rattle.product_file.specs.TransitionRule.{transition_items}

-- so many coefficients: those of the array at the key, and 0 for the missing ones
abbrev pub coefficients_of : ℕ → List ℕ → Members → List ℤ
coefficients_of count key t = list_of count (coefficient_at (wholes_of (items_of key t)))

-- how many coefficients a piece may have: 4 in format 1 and 6 in format 2
abbrev pub most_coefficients : Members → ℕ
most_coefficients tree = if is_format_1 tree then 4 else 6

-- a piece of at most so many coefficients is a table of its keys
abbrev pub is_piece : ℕ → Data → Bool
is_piece most d = is_table_of (piece_keys most) d

-- the month from which a piece or a step holds
abbrev pub start_of : Data → ℤ
start_of d = whole_of (codes "from") (members_of d)

-- the starts of some pieces or steps are in order at a place: the first is 0, each later one is above the one
-- before, and each is below the term
abbrev pub is_in_order : ℤ → List Data → ℕ → Bool
is_in_order months items zero =
    let start = start_of (item_at items 0) in
    int_le (pos 0) start && int_le start (pos 0) && int_lt start months
is_in_order months items (suc i) =
    let start = start_of (item_at items (suc i)) in
    int_lt (start_of (item_at items i)) start && int_lt start months

-- the checks of a list that must not be empty: the check of each place, or one that fails
abbrev pub not_empty : ℕ → (ℕ → Bool) → List Bool
not_empty zero check = false ∷ []
not_empty (suc n) check = list_of (suc n) check

-- rule 8 of a curve: it has a piece, each is one, and their starts are in order
abbrev pub rule_8_of : Members → List Data → List Bool
rule_8_of tree items = not_empty (length items)
    (λ i. is_piece (most_coefficients tree) (item_at items i)
    && is_in_order (whole_of (codes "months") tree) items i)

-- the pieces of each curve, as the file has them
abbrev pub curve_items : Members → List (List Data)
curve_items tree = items_of (codes "interest") tree
    ∷ map (λ d. items_of (codes "rate") (members_of d)) (transition_items tree)

-- rule 8: place 4096 curve + piece
abbrev pub rule_8 : Members → List (List Bool)
rule_8 tree = map (rule_8_of tree) (curve_items tree)

-- a piece of the product, with 0 for each coefficient that the file leaves out
abbrev pub piece_of : Data → Piece
piece_of d = record { from = natural_part (start_of d); c = coefficients_of 6 (codes "c") (members_of d) }

-- the term in months
abbrev pub months_of_term : Members → ℕ
months_of_term tree = natural_part (whole_of (codes "months") tree)

-- rule 9 of a curve: each piece is bounded
abbrev pub rule_9_of : Members → List Data → List Bool
rule_9_of tree items =
    let pieces = map piece_of items in
    list_of (length pieces) (λ i. is_bounded (slice_index_or pieces i zero_piece).c
    (months_of (months_of_term tree) (piece_starts pieces) i))

-- rule 9: place 4096 curve + piece
abbrev pub rule_9 : Members → List (List Bool)
rule_9 tree = map (rule_9_of tree) (curve_items tree)
