use Rattle.std.proofs.Common.{◌≡◌, [], take}
use Rattle.csv.specs.Records.{fields_of, partial_of}
use Rattle.row_sheets.specs.Sheets.{names_of}
use Rattle.row_sheets.proofs.csv_form.head_record.Given as goal

abbrev pub invariant-loop-i : goal.invariant-loop-i
invariant-loop-i l = (fields_of l.record ≡ names_of (take l.i l.head)) × (partial_of l.record ≡ [])
