use Rattle.std.proofs.Common.{◌≡◌, map, take}
use Rattle.answer_sheets.specs.AuditSheet.{claim_row, audit_head}
use Rattle.answer_sheets.proofs.audits.audit_sheet.Given as goal

abbrev pub invariant-loop-i : goal.invariant-loop-i
invariant-loop-i l =
    l.sheet ≡ record { head = audit_head; rows = map (claim_row l.product) (take l.i l.audited.claims.items) }
