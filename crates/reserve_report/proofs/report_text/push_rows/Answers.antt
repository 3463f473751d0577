use Rattle.std.proofs.Common.{◌++◌, ◌∙◌, ap, sym, pos, append_assoc, get_or}
use Rattle.report_columns.specs.declared.note.Note.{Note}
use Rattle.report_columns.specs.declared.note.What.TheVariants.{Value}
use Rattle.reserve_report.specs.ReportText.{row_line}
use Rattle.reserve_report.proofs.RowLines.{row_lines_more}
use Rattle.reserve_report.proofs.report_text.push_rows.Goals as goal

-- what a list of rows has past its end
abbrev no_row : Note
no_row = record { month = 0; state = 0; what = Value; lo = pos 0; hi = pos 0 }

pub loop-i-preserved : goal.loop-i-preserved
loop-i-preserved c =
    let p = c.args.product.now in
    let line = row_line p (get_or c.args.rows.now c.loop-i.i no_row) (get_or c.args.tolerances.now c.loop-i.i 0) in
    let more = row_lines_more p c.args.rows.now c.args.tolerances.now c.loop-i.i no_row 0 c.requires.same
    c.loop-i-test.true in
    c.in_ok-push_row.ensures ∙ ap (λ text. text ++ line) c.loop-i.invariant ∙ append_assoc _ _ line
    ∙ ap (λ text. c.args.out.now.items ++ text) (sym more)
