use Rattle.std.proofs.Common.{FitsSigned, rules}
use Rattle.std.specs.Int.{w128}
use Rattle.std.proofs.lemmas.Int.{to_z-of_z}
use Rattle.report_columns.proofs.Parts.{three_parts}
use Rattle.claim_audit.specs.AuditText.{number_field}
use Rattle.claim_audit.proofs.audit_text.push_numbers.Goals as goal

pub returns : goal.returns
returns c =
    let claim = c.args.claim.now in
    let claim_fits : FitsSigned w128 c.args.claim.now.claim = search rules in
    let lo_fits : FitsSigned w128 c.args.claim.now.lo = search rules in
    let hi_fits : FitsSigned w128 c.args.claim.now.hi = search rules in
    three_parts c.args.out.now.items (number_field claim.claim) (number_field claim.lo) (number_field claim.hi) _ _ _
    (simp to_z-of_z at c.in_ok-push_number.ensures) (simp to_z-of_z at c.in_ok-push_number-2.ensures)
    (simp to_z-of_z at c.in_ok-push_number-3.ensures)
