use Rattle.std.proofs.Common.{FitsSigned, rules, subst}
use Rattle.std.specs.Int.{w128}
use Rattle.std.proofs.lemmas.Int.{to_z-of_z}
use Rattle.claim_audit.specs.Audits.{IsAudit}
use Rattle.claim_audit.specs.Readings.{TellsWrongIn}
use Rattle.claim_audit.proofs.RightMarks.{claims_are_about_states}
use Rattle.thiele_cli.proofs.AuditedClaims.{audit_answers, wrong_row_answers}
use Rattle.thiele_cli.proofs.auditing.counted_audit.Goals as goal

pub returns-in-Ok-clause-answer : goal.returns-in-Ok-clause-answer
returns-in-Ok-clause-answer g c =
    let fits : FitsSigned w128 c.args.eps = search rules in
    simp to_z-of_z (audit_answers c.args.eps c.args.admitted c.args.text.items c.in-Ok.audited
    (subst (λ text. IsAudit c.args.admitted text c.args.eps c.in-Ok.audited) c.deref.ensures.value
    (simp to_z-of_z at c.in-Ok.ensures.ok)))

pub returns-in-Ok-clause-printable : goal.returns-in-Ok-clause-printable
returns-in-Ok-clause-printable g c =
    claims_are_about_states c.args.admitted c.deref.result.now _ c.in-Ok.audited c.in-Ok.ensures.ok

pub returns-in-Err-Row-clause-answer : goal.returns-in-Err-Row-clause-answer
returns-in-Err-Row-clause-answer g c =
    wrong_row_answers c.args.eps c.args.admitted c.args.text.items c.in-Err-Row.field-0 c.in-Err-Row.broken
    c.row_refused.result c.in-Err-Row.field-0-is
    (subst (λ text. TellsWrongIn c.args.admitted.months c.args.admitted.states text c.in-Err-Row.field-0)
    c.deref.ensures.value c.in-Err-Row.ensures.err)
    c.row_refused.ensures.refused
