-- Claims that are marked one by one.
use Rattle.std.proofs.Common.{◌≡◌, ℕ, ◌+◌, ◌*◌, ◌<◌, ℤ, List, [], ◌∷◌, ◌++◌, length, get_or, sym, subst, ◌∙◌}
use Rattle.std.proofs.lemmas.List.{get_or_default}
use Rattle.fixed_interval.specs.declared.printed.Printed.{Printed}
use Rattle.fixed_interval.specs.declared.tables.Table.{Table}
use Rattle.claim_audit.specs.declared.claims.Claimed.{Claimed}
use Rattle.claim_audit.specs.declared.findings.Claim.{Claim}
use Rattle.claim_audit.specs.Readings.{claim_at}
use Rattle.claim_audit.specs.Findings.{ends_of, found_at, IsFound}
use Rattle.claim_audit.proofs.ClaimLists.{one_more_by_place}

-- a claim's ends by their place in the table
cell_is : (table : Table) (claimed : Claimed) (ends : Printed)
    → claimed.month * table.states + claimed.state < length table.cells.items
    → ends ≡ get_or table.cells.items (claimed.month * table.states + claimed.state) ends → ends ≡ ends_of table claimed
cell_is table claimed ends place here =
    here ∙ get_or_default table.cells.items (claimed.month * table.states + claimed.state) ends _ place

-- one more claim that is marked
pub one_found_more : (table : Table) (eps : ℤ) (claimed : List Claimed) (claims : List Claim) (row : Claim) (i : ℕ)
    (ends : Printed) → length claims ≡ i
    → (claim_at claimed i).month * table.states + (claim_at claimed i).state < length table.cells.items
    → ends
    ≡ get_or table.cells.items ((claim_at claimed i).month * table.states + (claim_at claimed i).state) ends
    → IsFound (claim_at claimed i) ends eps row
    → ((k : ℕ) → k < length claims
    → IsFound (claim_at claimed k) (ends_of table (claim_at claimed k)) eps (found_at claims k))
    → (k : ℕ) → k < length (claims ++ row ∷ [])
    → IsFound (claim_at claimed k) (ends_of table (claim_at claimed k)) eps (found_at (claims ++ row ∷ []) k)
one_found_more table eps claimed claims row i ends count place cell found each =
    let by_place : IsFound (claim_at claimed i) (ends_of table (claim_at claimed i)) eps row =
    subst (λ e. IsFound (claim_at claimed i) e eps row) (cell_is table (claim_at claimed i) ends place cell) found in
    one_more_by_place (λ k. IsFound (claim_at claimed k) (ends_of table (claim_at claimed k)) eps) claims row _ each
    (subst (λ k. IsFound (claim_at claimed k) (ends_of table (claim_at claimed k)) eps row) (sym count) by_place)
