use Rattle.std.proofs.Common.{ℕ, List, ◌++◌, take, map}
use Rattle.row_sheets.specs.CsvText.{records_text, row_fields, HasWritten}
use Rattle.row_sheets.specs.Sheets.{rows_of}
use Rattle.row_sheets.proofs.csv_form.write_rows.Given as goal

abbrev pub invariant-loop-i : goal.invariant-loop-i
invariant-loop-i l = (so_far : List ℕ) → HasWritten l.fn.writer so_far
    → HasWritten l.writer (so_far ++ records_text (map row_fields (rows_of (take l.i l.rows))))
