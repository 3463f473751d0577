use Rattle.std.proofs.Common.{◌≡◌, [], take}
use Rattle.csv.specs.Records.{fields_of, partial_of}
use Rattle.row_sheets.specs.CsvText.{row_fields}
use Rattle.row_sheets.specs.Sheets.{cells_of}
use Rattle.row_sheets.proofs.csv_form.row_record.Given as goal

abbrev pub invariant-loop-i : goal.invariant-loop-i
invariant-loop-i l = (fields_of l.record ≡ row_fields (cells_of (take l.i l.row))) × (partial_of l.record ≡ [])
