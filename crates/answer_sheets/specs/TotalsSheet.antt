-- The sheet of the totals of a portfolio.
use Rattle.std.specs.Prelude.{ℕ, List, [], ◌∷◌, codes, map}
use Rattle.std.specs.Str.Lossy.{utf8_lossy}
use Rattle.decimal_out.specs.Millionths.{millionths, millionths_of_size}
use Rattle.portfolio_run.specs.declared.totals.Total.{Total}
use Rattle.portfolio_run.specs.declared.totals.Totals.{Totals}
use Rattle.row_sheets.specs.Sheets.{Cell, text, Contents}

-- group, lo, hi, tolerance
abbrev pub totals_head : List (List ℕ)
totals_head = codes "group" ∷ codes "lo" ∷ codes "hi" ∷ codes "tolerance" ∷ []

-- the total of a group, each number as the text of a portfolio has it. What is no UTF-8 in a name shows as U+FFFD
abbrev pub total_row : Total → List Cell
total_row total =
    text (utf8_lossy total.name.items) ∷ text (millionths total.lo) ∷ text (millionths total.hi)
    ∷ text (millionths_of_size total.tol) ∷ []

-- the whole sheet: a row for each group
abbrev pub totals_sheet_of : Totals → Contents
totals_sheet_of totals = record { head = totals_head; rows = map total_row totals.groups.items }
