use Rattle.std.proofs.Common.{◌<◌, length, arith}
use Rattle.report_columns.proofs.Told.{next_section}
use Rattle.report_columns.proofs.all_columns.push_columns.Goals as goal

pub loop-column-preserved : goal.loop-column-preserved
loop-column-preserved g c =
    let within : c.loop-column.column-index < length c.args.columns.now = omega arith in
    next_section _ _ c.args.columns.now c.loop-column.column-index c.column-item.result c.args.out.now.items
    c.loop-column.out.items c.push_column.new.out.items within c.loop-column.invariant c.column-item.is
    c.in_ok-push_column.ensures
