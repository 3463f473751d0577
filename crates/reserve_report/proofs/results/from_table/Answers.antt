use Rattle.std.proofs.Common.{length, map, ap, sym, subst, ◌∙◌, refl}
use Rattle.std.specs.Prelude.{All}
use Rattle.model_specs.specs.RecordRules.{IsWellFormed}
use Rattle.model_specs.specs.Rows.{tolerance}
use Rattle.whole_laws.specs.Whole.{list_of}
use Rattle.reserve_report.specs.Reports.{row_of}
use Rattle.reserve_report.specs.TableRows.{row_at}
use Rattle.reserve_report.proofs.Shapes.{IsSound, rows_of_kind, rows_are_sound}
use Rattle.reserve_report.proofs.Reported.{all_in_term, all_have_ends, has_text, report_of_table}
use Rattle.reserve_report.proofs.results.from_table.Goals as goal

pub tolerances_of-requires-clause-term : goal.tolerances_of-requires-clause-term
tolerances_of-requires-clause-term c =
    let p = c.args.adm.now in
    let t = c.args.t.now in
    let formed = subst IsWellFormed c.product.ensures.product c.months-months.ensures.lawful in
    let rows = rows_of_kind p c.args.kind t formed c.requires.table in
    let made = c.in_ok-rows.ensures ∙ ap (λ about. list_of (length t.cells.items) (row_at about t)) c.what.ensures in
    let sound = subst (All (IsSound p t.degree)) (sym (c.deref.ensures.value ∙ made))
    (rows_are_sound p _ t.every t.degree t rows) in
    all_in_term p t.degree _ sound

pub tolerances_of-requires-clause-ends : goal.tolerances_of-requires-clause-ends
tolerances_of-requires-clause-ends c =
    let p = c.args.adm.now in
    let t = c.args.t.now in
    let formed = subst IsWellFormed c.product.ensures.product c.months-months.ensures.lawful in
    let rows = rows_of_kind p c.args.kind t formed c.requires.table in
    let made = c.in_ok-rows.ensures ∙ ap (λ about. list_of (length t.cells.items) (row_at about t)) c.what.ensures in
    let sound = subst (All (IsSound p t.degree)) (sym (c.deref.ensures.value ∙ made))
    (rows_are_sound p _ t.every t.degree t rows) in
    all_have_ends p t.degree _ sound

pub returns-clause-report : goal.returns-clause-report
returns-clause-report c =
    let p = c.args.adm.now in
    let t = c.args.t.now in
    let formed = subst IsWellFormed c.product.ensures.product c.months-months.ensures.lawful in
    let rows = rows_of_kind p c.args.kind t formed c.requires.table in
    let made = c.in_ok-rows.ensures ∙ ap (λ about. list_of (length t.cells.items) (row_at about t)) c.what.ensures in
    report_of_table p _ c.args.kind t c.requires.table refl refl c.scale.ensures made
    (c.in_ok-tolerances_of.ensures ∙ ap (λ rows. map (λ row. tolerance p (row_of row)) rows) c.deref.ensures.value)
    (rows_are_sound p _ t.every t.degree t rows)

pub returns-clause-text : goal.returns-clause-text
returns-clause-text c =
    let p = c.args.adm.now in
    let t = c.args.t.now in
    let formed = subst IsWellFormed c.product.ensures.product c.months-months.ensures.lawful in
    let rows = rows_of_kind p c.args.kind t formed c.requires.table in
    let made = c.in_ok-rows.ensures ∙ ap (λ about. list_of (length t.cells.items) (row_at about t)) c.what.ensures in
    has_text p t.degree _ (subst (All (IsSound p t.degree)) (sym made) (rows_are_sound p _ t.every t.degree t rows))
    (c.in_ok-tolerances_of.ensures ∙ ap (λ rows. map (λ row. tolerance p (row_of row)) rows) c.deref.ensures.value)

pub returns-clause-rows : goal.returns-clause-rows
returns-clause-rows c =
    c.in_ok-rows.ensures ∙ ap (λ about. list_of (length c.args.t.now.cells.items) (row_at about c.args.t.now))
    c.what.ensures
