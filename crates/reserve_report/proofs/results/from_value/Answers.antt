use Rattle.std.proofs.Common.{map, ap, sym, subst, ◌∙◌, refl, ◌∷◌, []}
use Rattle.std.specs.Prelude.{All}
use Rattle.std.proofs.lemmas.List.Elements.{All-nil, All-cons}
use Rattle.model_specs.specs.Rows.{tolerance}
use Rattle.report_columns.specs.declared.note.What.TheVariants as what
use Rattle.reserve_report.specs.Reports.{row_of}
use Rattle.reserve_report.specs.TableRows.{issue_row_of}
use Rattle.reserve_report.proofs.Shapes.{IsSound}
use Rattle.reserve_report.proofs.Reported.{has_text, ends_of_value, issue_row_is_sound, report_of_value}
use Rattle.reserve_report.proofs.results.from_value.Goals as goal

pub returns-clause-report : goal.returns-clause-report
returns-clause-report c =
    let p = c.args.adm.now in
    let v = c.args.v.now in
    let ends = c.printed.result in
    let rows = c.in_ok-rows.ensures.items ∙ ap (λ row. row ∷ []) c.issue_row-row.ensures.row in
    let value = ends_of_value p v ends c.requires c.printed.ensures.encloses c.printed.ensures.narrow
    c.printed.ensures.ordered c.printed.ensures.small in
    let sound = All-cons (IsSound p v.degree) (issue_row_of p what.Value ends) []
    (issue_row_is_sound p what.Value v.degree ends c.issue_row-row.ensures.lawful tt value)
    (All-nil (IsSound p v.degree)) in
    report_of_value p _ v ends refl refl c.scale.ensures rows
    (c.in_ok-tolerances_of.ensures ∙ ap (λ rows. map (λ row. tolerance p (row_of row)) rows) c.deref.ensures.value)
    c.requires (subst (All (IsSound p v.degree)) (sym rows) sound)

pub returns-clause-text : goal.returns-clause-text
returns-clause-text c =
    let p = c.args.adm.now in
    let v = c.args.v.now in
    let ends = c.printed.result in
    let rows = c.in_ok-rows.ensures.items ∙ ap (λ row. row ∷ []) c.issue_row-row.ensures.row in
    let value = ends_of_value p v ends c.requires c.printed.ensures.encloses c.printed.ensures.narrow
    c.printed.ensures.ordered c.printed.ensures.small in
    let sound = All-cons (IsSound p v.degree) (issue_row_of p what.Value ends) []
    (issue_row_is_sound p what.Value v.degree ends c.issue_row-row.ensures.lawful tt value)
    (All-nil (IsSound p v.degree)) in
    has_text p v.degree _ (subst (All (IsSound p v.degree)) (sym rows) sound)
    (c.in_ok-tolerances_of.ensures ∙ ap (λ rows. map (λ row. tolerance p (row_of row)) rows) c.deref.ensures.value)
