use Rattle.std.proofs.lemmas.Result.{err_from_is_err_and}
use Rattle.report_columns.proofs.ToldRows.{first_of_same, all_of_same, sections_below}
use Rattle.reserve_report.proofs.report_text.report_bytes.Goals as goal

pub returns-in_err-tell_rows-clause-err : goal.returns-in_err-tell_rows-clause-err
returns-in_err-tell_rows-clause-err g c =
    let is = err_from_is_err_and c.from_residual.result c.from_residual.ensures.1 in
    rw is.1
    (first_of_same c.args.report.now.rows.items c.deref.result.now _ _ c.deref.ensures.value
    c.in_err-tell_rows.ensures.err)

pub returns-in_err-bytes-clause-err : goal.returns-in_err-bytes-clause-err
returns-in_err-bytes-clause-err g c =
    let is = err_from_is_err_and c.from_residual-in_err-bytes.result c.from_residual-in_err-bytes.ensures.1 in
    rw is.1
    (all_of_same c.args.report.now.rows.items c.deref.result.now _ _ c.deref.ensures.value c.in_ok-tell_rows.ensures.ok)

pub returns-in_err-push_columns-clause-err : goal.returns-in_err-push_columns-clause-err
returns-in_err-push_columns-clause-err g c =
    let is =
    err_from_is_err_and c.from_residual-in_err-push_columns.result c.from_residual-in_err-push_columns.ensures.1 in
    rw is.1
    (all_of_same c.args.report.now.rows.items c.deref.result.now _ _ c.deref.ensures.value c.in_ok-tell_rows.ensures.ok)

pub returns-clause-text : goal.returns-clause-text
returns-clause-text g c =
    sections_below _ _ c.args.report.now.rows.items c.deref.result.now _ c.tell_rows.new.columns.items
    c.deref-2.result.now _ _ _ c.deref.ensures.value c.deref-2.ensures.value c.in_ok-tell_rows.ensures.ok
    c.in_ok-bytes.ensures c.in_ok-push_columns.ensures
