-- The rows of a sheet, one more.
use Rattle.std.proofs.Common.{◌≡◌, ℕ, ◌+◌, ◌<◌, ◌≤◌, min, List, [], ◌∷◌, ◌++◌, length, take, get_or, ap, sym, ◌∙◌}
use Rattle.std.proofs.Common.{refl, arith, length-take}
use Rattle.std.proofs.lemmas.List.{length-map, take_all, take_more}
use Rattle.model_specs.specs.Product.{Product}
use Rattle.report_columns.specs.declared.note.Note.{Note}
use Rattle.row_sheets.specs.declared.field.Field.{Field}
use Rattle.row_sheets.specs.Sheets.{Cell, cell_of, cells_of}
use Rattle.answer_sheets.specs.ReportSheet.{report_row, report_rows}

-- there are as many fields as cells
pub as_many_fields : (fields : List Field) (cells : List Cell) → cells_of fields ≡ cells → length fields ≡ length cells
as_many_fields fields cells same = sym (length-map fields cell_of) ∙ ap length same

report_rows_append : (p : Product) (rows : List Note) (tolerances : List ℕ) (row : Note) (tolerance : ℕ)
    → length rows ≡ length tolerances
    → report_rows p (rows ++ row ∷ []) (tolerances ++ tolerance ∷ [])
    ≡ report_rows p rows tolerances ++ report_row p row tolerance ∷ []
report_rows_append p [] [] row tolerance same = refl
report_rows_append p [] (t ∷ ts) row tolerance same = cc
report_rows_append p (r ∷ rs) [] row tolerance same = cc
report_rows_append p (r ∷ rs) (t ∷ ts) row tolerance same =
    ap (λ more. report_row p r t ∷ more) (report_rows_append p rs ts row tolerance (omega (arith, same)))

-- one row of a report more
pub report_rows_more : (p : Product) (rows : List Note) (tolerances : List ℕ) (i : ℕ) (no_row : Note) (none : ℕ)
    → length rows ≡ length tolerances → i < length rows
    → report_rows p (take (i + 1) rows) (take (i + 1) tolerances)
    ≡ report_rows p (take i rows) (take i tolerances)
    ++ report_row p (get_or rows i no_row) (get_or tolerances i none) ∷ []
report_rows_more p rows tolerances i no_row none same inside =
    let as_long : length (take i rows) ≡ length (take i tolerances) = simp length-take (ap (λ n. min i n) same) in
    rw (take_more rows i no_row inside, take_more tolerances i none (omega (arith, same, inside)))
    (report_rows_append p (take i rows) (take i tolerances) (get_or rows i no_row) (get_or tolerances i none) as_long)

-- all rows of a report
pub report_rows_all : (p : Product) (rows : List Note) (tolerances : List ℕ) (i : ℕ) → length rows ≡ length tolerances
    → length rows ≤ i → report_rows p (take i rows) (take i tolerances) ≡ report_rows p rows tolerances
report_rows_all p rows tolerances i same past =
    rw (take_all i rows past, take_all i tolerances (omega (arith, same, past))) refl
