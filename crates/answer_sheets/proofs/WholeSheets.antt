-- A sheet has a row for each row of its answer.
use Rattle.std.proofs.Common.{◌≡◌, ℕ, zero, suc, List, [], ◌∷◌, length, map, ap, ◌∙◌, refl, arith, Some, option_map}
use Rattle.std.specs.Prelude.{slice_get}
use Rattle.std.proofs.lemmas.List.{length-map}
use Rattle.std.proofs.lemmas.Option.{slice_get-map}
use Rattle.model_specs.specs.Product.{Product}
use Rattle.report_columns.specs.declared.note.Note.{Note}
use Rattle.reserve_report.specs.declared.report.Report.{Report}
use Rattle.reserve_report.specs.Reports.{HasText}
use Rattle.row_sheets.specs.Sheets.{Cell}
use Rattle.answer_sheets.specs.Laws.{AreRowsOf, AreRowsOfReport}
use Rattle.answer_sheets.specs.ReportSheet.{report_row, report_rows}

-- rows that are made one by one
pub sheet_is_whole : {A : Type 0} (row_of : A → List Cell) (items : List A) → AreRowsOf row_of items (map row_of items)
sheet_is_whole row_of items = record {
  count = length-map items row_of;
  each = λ i item here. slice_get-map row_of items i ∙ ap (option_map row_of) here;
}

as_many_rows : (p : Product) (rows : List Note) (tolerances : List ℕ) → length rows ≡ length tolerances
    → length (report_rows p rows tolerances) ≡ length rows
as_many_rows p [] tolerances same = refl
as_many_rows p (row ∷ rows) [] same = absurd (omega (arith, same))
as_many_rows p (row ∷ rows) (tolerance ∷ tolerances) same =
    ap suc (as_many_rows p rows tolerances (omega (arith, same)))

row_in_place : (p : Product) (rows : List Note) (tolerances : List ℕ) (i : ℕ) (row : Note) (tolerance : ℕ)
    → slice_get rows i ≡ Some row → slice_get tolerances i ≡ Some tolerance
    → slice_get (report_rows p rows tolerances) i ≡ Some (report_row p row tolerance)
row_in_place p [] tolerances i row tolerance here there = cc
row_in_place p (r ∷ rows) [] i row tolerance here there = cc
row_in_place p (r ∷ rows) (t ∷ tolerances) zero row tolerance here there = cc
row_in_place p (r ∷ rows) (t ∷ tolerances) (suc i) row tolerance here there =
    row_in_place p rows tolerances i row tolerance here there

-- the rows of a report
pub report_is_whole : (p : Product) (r : Report) → HasText p r
    → AreRowsOfReport p r (report_rows p r.rows.items r.tolerance.items)
report_is_whole p r has_text = record {
  count = as_many_rows p r.rows.items r.tolerance.items has_text.same;
  each = λ i row tolerance here there. row_in_place p r.rows.items r.tolerance.items i row tolerance here there;
}
