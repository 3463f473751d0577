-- The sheet of an audit.
use Rattle.std.specs.Prelude.{ℕ, List, [], ◌∷◌, codes, map, slice_index_or}
use Rattle.model_specs.specs.Product.{Product}
use Rattle.decimal_out.specs.Millionths.{millionths}
use Rattle.claim_audit.specs.declared.auditing.Audited.{Audited}
use Rattle.claim_audit.specs.declared.findings.Claim.{Claim}
use Rattle.claim_audit.specs.AuditText.{mark_word}
use Rattle.row_sheets.specs.Sheets.{Cell, whole, text, Contents}

-- month, state, claim, lo, hi, mark
abbrev pub audit_head : List (List ℕ)
audit_head = codes "month" ∷ codes "state" ∷ codes "claim" ∷ codes "lo" ∷ codes "hi" ∷ codes "mark" ∷ []

-- a claim and what is found of it, each number as the text of an audit has it
abbrev pub claim_row : Product → Claim → List Cell
claim_row product claim =
    whole claim.month ∷ text (slice_index_or product.states claim.state []) ∷ text (millionths claim.claim)
    ∷ text (millionths claim.lo) ∷ text (millionths claim.hi) ∷ text (mark_word claim.mark) ∷ []

-- the whole sheet: a row for each claim
abbrev pub audit_sheet_of : Product → Audited → Contents
audit_sheet_of product audited = record { head = audit_head; rows = map (claim_row product) audited.claims.items }
