use Rattle.std.proofs.Common.{pos}
use Rattle.report_columns.specs.declared.note.Note.{Note}
use Rattle.report_columns.specs.declared.note.What.TheVariants.{Value}
use Rattle.reserve_report.proofs.ReportWidths.{widest_more}
use Rattle.reserve_report.proofs.load_text.widest.Goals as goal

-- what a list of rows has past its end
abbrev no_row : Note
no_row = record { month = 0; state = 0; what = Value; lo = pos 0; hi = pos 0 }

pub loop-row-preserved : goal.loop-row-preserved
loop-row-preserved c =
    widest_more c.args.rows.now c.loop-row.row-index no_row c.loop-row.most c.width_of.result c.max-most.result
    c.loop-row-test.true c.loop-row.invariant c.width_of.ensures c.max-most.ensures
