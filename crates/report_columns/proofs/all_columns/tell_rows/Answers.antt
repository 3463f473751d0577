use Rattle.std.proofs.Common.{◌<◌, ◌≤◌, length, arith}
use Rattle.std.proofs.lemmas.Result.{err_from_is_err_and}
use Rattle.report_columns.proofs.Told.{told_nothing, next_row, refused_row, all_rows}
use Rattle.report_columns.proofs.all_columns.tell_rows.Goals as goal

pub loop-row-init : goal.loop-row-init
loop-row-init g c = told_nothing _

pub loop-row-preserved : goal.loop-row-preserved
loop-row-preserved g c =
    let within : c.loop-row.row-index < length c.args.rows.now = omega arith in
    next_row c.args.rows.now _ _ _ c.loop-row.row-index _ within c.loop-row.invariant c.in_ok-tell_all.ensures.ok

pub returns-in_err-tell_all-clause-err : goal.returns-in_err-tell_all-clause-err
returns-in_err-tell_all-clause-err g c =
    let is = err_from_is_err_and c.from_residual.result c.from_residual.ensures.1 in
    let within : c.loop-row.row-index < length c.args.rows.now = omega arith in
    rw is.1
    (refused_row c.args.rows.now _ _ _ c.loop-row.row-index _ within c.loop-row.invariant c.in_err-tell_all.ensures.err)

pub returns-clause-ok : goal.returns-clause-ok
returns-clause-ok g c =
    let past : length c.args.rows.now ≤ c.loop-row.row-index = omega arith in
    all_rows c.args.rows.now _ _ c.loop-row.row-index past c.loop-row.invariant
