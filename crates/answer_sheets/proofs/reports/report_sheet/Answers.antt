use Rattle.std.proofs.Common.{◌<◌, ◌∙◌, ap, sym, length, get_or}
use Rattle.row_sheets.specs.Sheets.{with_row}
use Rattle.answer_sheets.specs.ReportSheet.{report_head, report_row}
use Rattle.answer_sheets.proofs.Rows.{report_rows_more}
use Rattle.answer_sheets.proofs.reports.report_sheet.Goals as goal

pub loop-i-preserved : goal.loop-i-preserved
loop-i-preserved c =
    let p = c.args.product.now in
    let rows = c.args.report.now.rows.items in
    let tolerances = c.args.report.now.tolerance.items in
    let i = c.loop-i.i in
    let inside : i < length rows = rw (c.len-i-end.ensures, c.args.report.now.rows.ok.0) at c.loop-i-test.true in
    let fields = c.in_ok-row_fields.ensures
    ∙ ap (λ row. report_row p row c.index-in-loop-i.result.now) c.index.ensures
    ∙ ap (λ tolerance. report_row p (get_or rows i c.index.result.now) tolerance) c.index-in-loop-i.ensures in
    let more = report_rows_more p rows tolerances i c.index.result.now c.index-in-loop-i.result.now c.requires.same
    inside in
    c.in_ok-push.ensures.ok ∙ ap (with_row c.loop-i.sheet) fields
    ∙ ap (λ sheet. with_row sheet (report_row p (get_or rows i c.index.result.now)
    (get_or tolerances i c.index-in-loop-i.result.now))) c.loop-i.invariant
    ∙ ap (λ rows. record { head = report_head; rows = rows }) (sym more)
