use Rattle.std.proofs.Common.{◌++◌, ◌∙◌, ap, sym, pos, append_assoc, get_or}
use Rattle.claim_audit.specs.declared.finding.Finding.TheVariants.{Yes}
use Rattle.claim_audit.specs.declared.findings.Claim.{Claim}
use Rattle.claim_audit.specs.AuditText.{claim_line}
use Rattle.claim_audit.proofs.TextLines.{lines_more}
use Rattle.claim_audit.proofs.audit_text.push_claims.Goals as goal

-- what a list of claims has past its end
abbrev no_claim : Claim
no_claim = record { month = 0; state = 0; claim = pos 0; lo = pos 0; hi = pos 0; mark = Yes }

pub loop-i-preserved : goal.loop-i-preserved
loop-i-preserved c =
    let line = claim_line c.args.product.now (get_or c.args.claims.now c.loop-i.i no_claim) in
    let more = lines_more c.args.product.now c.args.claims.now c.loop-i.i no_claim c.loop-i-test.true in
    c.in_ok-push_claim.ensures ∙ ap (λ text. text ++ line) c.loop-i.invariant ∙ append_assoc _ _ line
    ∙ ap (λ text. c.args.out.now.items ++ text) (sym more)
