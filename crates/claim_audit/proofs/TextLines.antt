-- The lines of the claims of an audit, one more.
use Rattle.std.proofs.Common.{◌≡◌, ℕ, ◌+◌, ◌<◌, List, [], ◌∷◌, ◌++◌, length, take, get_or, ap, sym, ◌∙◌}
use Rattle.std.proofs.Common.{append_assoc, append-nil}
use Rattle.std.proofs.lemmas.List.{take_more}
use Rattle.model_specs.specs.Product.{Product}
use Rattle.claim_audit.specs.declared.findings.Claim.{Claim}
use Rattle.claim_audit.specs.AuditText.{claim_line, claim_lines}

lines_append : (product : Product) (claims : List Claim) (claim : Claim)
    → claim_lines product (claims ++ claim ∷ []) ≡ claim_lines product claims ++ claim_line product claim
lines_append product [] claim = append-nil (claim_line product claim)
lines_append product (first ∷ claims) claim =
    ap (λ text. claim_line product first ++ text) (lines_append product claims claim)
    ∙ sym (append_assoc (claim_line product first) (claim_lines product claims) (claim_line product claim))

pub lines_more : (product : Product) (claims : List Claim) (i : ℕ) (none : Claim) → i < length claims
    → claim_lines product (take (i + 1) claims)
    ≡ claim_lines product (take i claims) ++ claim_line product (get_or claims i none)
lines_more product claims i none inside =
    ap (claim_lines product) (take_more claims i none inside)
    ∙ lines_append product (take i claims) (get_or claims i none)
