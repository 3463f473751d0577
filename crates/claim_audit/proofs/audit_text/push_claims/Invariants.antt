use Rattle.std.proofs.Common.{◌≡◌, ◌++◌, take}
use Rattle.claim_audit.specs.AuditText.{claim_lines}
use Rattle.claim_audit.proofs.audit_text.push_claims.Given as goal

abbrev pub invariant-loop-i : goal.invariant-loop-i
invariant-loop-i l = l.out.items ≡ l.fn.out.items ++ claim_lines l.product (take l.i l.claims)
