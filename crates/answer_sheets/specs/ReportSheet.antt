-- The sheet of a report.
use Rattle.std.specs.Prelude.{ℕ, List, [], ◌∷◌, codes, pos}
use Rattle.model_specs.specs.Product.{Product}
use Rattle.report_columns.specs.declared.note.Note.{Note}
use Rattle.report_columns.specs.Lines.{in_format, word_of}
use Rattle.reserve_report.specs.declared.report.Report.{Report}
use Rattle.reserve_report.specs.ReportText.{state_name}
use Rattle.row_sheets.specs.Sheets.{Cell, whole, text, Contents}

-- month, state, what, lo, hi, tolerance
abbrev pub report_head : List (List ℕ)
report_head =
    codes "month" ∷ codes "state" ∷ codes "what" ∷ codes "lo" ∷ codes "hi" ∷ codes "tolerance" ∷ []

-- a row, each number as the text of a report has it
abbrev pub report_row : Product → Note → (tolerance : ℕ) → List Cell
report_row p row tolerance =
    whole row.month ∷ text (state_name p row.state) ∷ text (word_of row.what) ∷ text (in_format row.what row.lo)
    ∷ text (in_format row.what row.hi) ∷ text (in_format row.what (pos tolerance)) ∷ []

-- a row for each row of the report, with its tolerance
abbrev pub report_rows : Product → List Note → List ℕ → List (List Cell)
report_rows p [] tolerances = []
report_rows p (row ∷ rows) [] = []
report_rows p (row ∷ rows) (tolerance ∷ tolerances) = report_row p row tolerance ∷ report_rows p rows tolerances

-- the whole sheet
abbrev pub report_sheet_of : Product → Report → Contents
report_sheet_of p r = record { head = report_head; rows = report_rows p r.rows.items r.tolerance.items }
