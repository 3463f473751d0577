-- The sheet of a comparison.
use Rattle.std.specs.Prelude.{ℕ, List, [], ◌∷◌, codes, map, slice_index_or}
use Rattle.model_specs.specs.Product.{Product}
use Rattle.decimal_out.specs.Millionths.{millionths, millionths_of_size}
use Rattle.basis_compare.specs.declared.change_rows.Change.{Change}
use Rattle.basis_compare.specs.declared.change_rows.Changes.{Changes}
use Rattle.basis_compare.specs.ChangesText.{part_word, turn_word}
use Rattle.row_sheets.specs.Sheets.{Cell, whole, text, Contents}

-- month, state, part, lo, hi, tolerance, turn
abbrev pub changes_head : List (List ℕ)
changes_head =
    codes "month" ∷ codes "state" ∷ codes "part" ∷ codes "lo" ∷ codes "hi" ∷ codes "tolerance" ∷ codes "turn" ∷ []

-- a change, each number as the text of a comparison has it
abbrev pub change_row : Product → Change → List Cell
change_row a row =
    whole row.month ∷ text (slice_index_or a.states row.state []) ∷ text (part_word row.part)
    ∷ text (millionths row.lo) ∷ text (millionths row.hi) ∷ text (millionths_of_size row.tol)
    ∷ text (turn_word row.turn) ∷ []

-- the whole sheet: a row for each change
abbrev pub changes_sheet_of : Product → Changes → Contents
changes_sheet_of a c = record { head = changes_head; rows = map (change_row a) c.rows.items }
