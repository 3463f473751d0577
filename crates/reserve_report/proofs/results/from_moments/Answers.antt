use Rattle.std.proofs.Common.{map, ap, sym, subst, ◌∙◌, refl}
use Rattle.std.specs.Prelude.{All}
use Rattle.model_specs.specs.RecordRules.{IsWellFormed}
use Rattle.model_specs.specs.Rows.{tolerance}
use Rattle.reserve_report.specs.Reports.{row_of}
use Rattle.reserve_report.proofs.Shapes.{IsSound, moment_rows_of, moment_rows_are_sound}
use Rattle.reserve_report.proofs.Reported.{all_in_term, all_have_ends, has_text, report_of_moments}
use Rattle.reserve_report.proofs.results.from_moments.Goals as goal

pub tolerances_of-requires-clause-term : goal.tolerances_of-requires-clause-term
tolerances_of-requires-clause-term c =
    let p = c.args.adm.now in
    let t = c.args.t.now in
    let formed = subst IsWellFormed c.product.ensures.product c.months-months.ensures.lawful in
    let sound = subst (All (IsSound p t.first.degree)) (sym (c.deref.ensures.value ∙ c.in_ok-rows.ensures))
    (moment_rows_are_sound p t (moment_rows_of p t formed c.requires.moments)) in
    all_in_term p t.first.degree _ sound

pub tolerances_of-requires-clause-ends : goal.tolerances_of-requires-clause-ends
tolerances_of-requires-clause-ends c =
    let p = c.args.adm.now in
    let t = c.args.t.now in
    let formed = subst IsWellFormed c.product.ensures.product c.months-months.ensures.lawful in
    let sound = subst (All (IsSound p t.first.degree)) (sym (c.deref.ensures.value ∙ c.in_ok-rows.ensures))
    (moment_rows_are_sound p t (moment_rows_of p t formed c.requires.moments)) in
    all_have_ends p t.first.degree _ sound

pub returns-clause-report : goal.returns-clause-report
returns-clause-report c =
    let p = c.args.adm.now in
    let t = c.args.t.now in
    let formed = subst IsWellFormed c.product.ensures.product c.months-months.ensures.lawful in
    let have = moment_rows_of p t formed c.requires.moments in
    report_of_moments p _ t c.requires.moments have refl refl c.scale.ensures c.in_ok-rows.ensures
    (c.in_ok-tolerances_of.ensures ∙ ap (λ rows. map (λ row. tolerance p (row_of row)) rows) c.deref.ensures.value)
    (moment_rows_are_sound p t have)

pub returns-clause-text : goal.returns-clause-text
returns-clause-text c =
    let p = c.args.adm.now in
    let t = c.args.t.now in
    let formed = subst IsWellFormed c.product.ensures.product c.months-months.ensures.lawful in
    let have = moment_rows_of p t formed c.requires.moments in
    has_text p t.first.degree _
    (subst (All (IsSound p t.first.degree)) (sym c.in_ok-rows.ensures) (moment_rows_are_sound p t have))
    (c.in_ok-tolerances_of.ensures ∙ ap (λ rows. map (λ row. tolerance p (row_of row)) rows) c.deref.ensures.value)
