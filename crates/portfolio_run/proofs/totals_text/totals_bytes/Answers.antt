use Rattle.std.proofs.Common.{◌∙◌, ap, sym, subst}
use Rattle.std.specs.Prelude.{All}
use Rattle.std.proofs.lemmas.Result.{err_from_is_err_and}
use Rattle.report_columns.specs.Notes.{HasEnds}
use Rattle.report_columns.proofs.ToldRows.{all_of_same, sections_below}
use Rattle.portfolio_run.specs.TotalsText.{notes_from, notes_of}
use Rattle.portfolio_run.proofs.TotalLines.{none_told, notes_have_ends, told_same}
use Rattle.portfolio_run.proofs.totals_text.totals_bytes.Goals as goal

pub returns-in_err-notes-clause-err : goal.returns-in_err-notes-clause-err
returns-in_err-notes-clause-err g c =
    let is = err_from_is_err_and c.from_residual.result c.from_residual.ensures.1 in
    rw is.1 (none_told (notes_of c.args.totals.now) _)

pub tell_rows-requires : goal.tell_rows-requires
tell_rows-requires g c =
    subst (All HasEnds)
    (sym (c.deref-2.ensures.value ∙ c.in_ok-notes.ensures ∙ ap (notes_from 0) c.deref.ensures.value))
    (notes_have_ends 0 c.args.totals.now.groups.items c.requires.ends)

pub returns-in_err-bytes-clause-err : goal.returns-in_err-bytes-clause-err
returns-in_err-bytes-clause-err g c =
    let is = err_from_is_err_and c.from_residual-in_err-bytes.result c.from_residual-in_err-bytes.ensures.1 in
    rw is.1
    (all_of_same (notes_of c.args.totals.now) c.deref-2.result.now _ _
    (c.deref-2.ensures.value ∙ c.in_ok-notes.ensures ∙ ap (notes_from 0) c.deref.ensures.value)
    c.in_ok-tell_rows.ensures.ok)

pub returns-in_err-push_columns-clause-err : goal.returns-in_err-push_columns-clause-err
returns-in_err-push_columns-clause-err g c =
    let is =
    err_from_is_err_and c.from_residual-in_err-push_columns.result c.from_residual-in_err-push_columns.ensures.1 in
    rw is.1
    (all_of_same (notes_of c.args.totals.now) c.deref-2.result.now _ _
    (c.deref-2.ensures.value ∙ c.in_ok-notes.ensures ∙ ap (notes_from 0) c.deref.ensures.value)
    c.in_ok-tell_rows.ensures.ok)

pub returns-clause-text : goal.returns-clause-text
returns-clause-text g c =
    sections_below _ _ (notes_of c.args.totals.now) c.deref-2.result.now _ c.tell_rows.new.columns.items
    c.deref-3.result.now _ _ _
    (c.deref-2.ensures.value ∙ c.in_ok-notes.ensures ∙ ap (notes_from 0) c.deref.ensures.value)
    c.deref-3.ensures.value c.in_ok-tell_rows.ensures.ok c.in_ok-bytes.ensures c.in_ok-push_columns.ensures

pub returns-clause-told : goal.returns-clause-told
returns-clause-told g c =
    told_same (notes_of c.args.totals.now) c.deref-2.result.now _ _
    (c.deref-2.ensures.value ∙ c.in_ok-notes.ensures ∙ ap (notes_from 0) c.deref.ensures.value)
    c.in_ok-tell_rows.ensures.ok
