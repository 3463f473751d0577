use Rattle.std.proofs.Common.{◌≡◌, map, ap, sym, subst, ◌∙◌, refl, ◌∷◌, []}
use Rattle.std.specs.Prelude.{All}
use Rattle.model_specs.specs.Rows.{tolerance}
use Rattle.reserve_report.specs.Reports.{row_of}
use Rattle.reserve_report.proofs.Shapes.{IsSound}
use Rattle.reserve_report.proofs.Reported.{has_text, premium_rows_are_sound, report_of_premium, tells_premium}
use Rattle.reserve_report.proofs.Reported.{three_issue_rows}
use Rattle.reserve_report.proofs.results.from_premium.Goals as goal

pub returns-clause-report : goal.returns-clause-report
returns-clause-report c =
    let p = c.args.adm.now in
    let t = c.args.t.now in
    let three : c.issue_row.result ∷ c.issue_row-2.result ∷ c.issue_row-3.result ∷ [] ≡ three_issue_rows p t =
    cc (c.issue_row.ensures.row, c.issue_row-2.ensures.row, c.issue_row-3.ensures.row) in
    let rows = c.in_ok-rows.ensures.items ∙ three in
    report_of_premium p _ t refl refl c.scale.ensures rows
    (c.in_ok-tolerances_of.ensures ∙ ap (λ rows. map (λ row. tolerance p (row_of row)) rows) c.deref.ensures.value)
    c.requires
    (subst (All (IsSound p t.degree)) (sym rows) (premium_rows_are_sound p t c.issue_row.ensures.lawful c.requires))

pub returns-clause-premium : goal.returns-clause-premium
returns-clause-premium c =
    let p = c.args.adm.now in
    let t = c.args.t.now in
    let three : c.issue_row.result ∷ c.issue_row-2.result ∷ c.issue_row-3.result ∷ [] ≡ three_issue_rows p t =
    cc (c.issue_row.ensures.row, c.issue_row-2.ensures.row, c.issue_row-3.ensures.row) in
    tells_premium p t _ refl (c.in_ok-rows.ensures.items ∙ three)

pub returns-clause-text : goal.returns-clause-text
returns-clause-text c =
    let p = c.args.adm.now in
    let t = c.args.t.now in
    let three : c.issue_row.result ∷ c.issue_row-2.result ∷ c.issue_row-3.result ∷ [] ≡ three_issue_rows p t =
    cc (c.issue_row.ensures.row, c.issue_row-2.ensures.row, c.issue_row-3.ensures.row) in
    let rows = c.in_ok-rows.ensures.items ∙ three in
    has_text p t.degree _
    (subst (All (IsSound p t.degree)) (sym rows) (premium_rows_are_sound p t c.issue_row.ensures.lawful c.requires))
    (c.in_ok-tolerances_of.ensures ∙ ap (λ rows. map (λ row. tolerance p (row_of row)) rows) c.deref.ensures.value)
