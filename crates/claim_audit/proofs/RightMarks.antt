-- Claims that are marked by a table of reserves are marked right, and are about states of the product.
use Rattle.std.proofs.Common.{◌≡◌, ℕ, ◌+◌, ◌*◌, ◌<◌, ℤ, List, length, ap, sym, subst, ◌∙◌, arith}
use Rattle.std.specs.Prelude.{All, ◌↔◌}
use Rattle.std.proofs.lemmas.List.{get_or_default}
use Rattle.std.proofs.lemmas.Option.{slice_get_within}
use Rattle.fixed_interval.specs.declared.printed.Printed.{Printed}
use Rattle.fixed_interval.specs.declared.tables.Table.{Table}
use Rattle.fixed_interval.specs.Tables.{AreEndsFor}
use Rattle.model_specs.specs.Product.{Product}
use Rattle.thiele_backward.specs.Results.{AreReserves}
use Rattle.claim_audit.specs.declared.claims.Claimed.{Claimed}
use Rattle.claim_audit.specs.declared.findings.Claim.{Claim}
use Rattle.claim_audit.specs.declared.finding.Finding.{Finding}
use Rattle.claim_audit.specs.declared.finding.Finding.TheVariants as finding
use Rattle.claim_audit.specs.declared.auditing.Audited.{Audited}
use Rattle.claim_audit.specs.AuditText.{AreAboutStates}
use Rattle.claim_audit.specs.Audits.{IsAudit, IsMarkedRight, reserve_at, tolerance_at}
use Rattle.claim_audit.specs.Claims.{IsClaim}
use Rattle.claim_audit.specs.Findings.{AreFound, IsFound, ends_of, found_at}
use Rattle.claim_audit.specs.Marks.{IsNear, IsFar}
use Rattle.claim_audit.specs.Readings.{AreClaimsIn, claim_at, record_at}
use Rattle.claim_audit.proofs.Nearness.{mark_implies_nearness}
use Rattle.claim_audit.proofs.Numbers.{month_in_term}

-- a claim with a mark, by its parts
abbrev pub claim_with : (claimed : Claimed) → (ends : Printed) → Finding → Claim
claim_with claimed ends mark = record {
  month = claimed.month;
  state = claimed.state;
  claim = claimed.claim;
  lo = ends.lo;
  hi = ends.hi;
  mark = mark;
}

-- what is found of a claim is the claim, with the ends and the mark
found_is : (claimed : Claimed) (ends : Printed) (eps : ℤ) (claim : Claim) → IsFound claimed ends eps claim
    → claim ≡ claim_with claimed ends claim.mark
found_is claimed ends eps claim found =
    ap (λ x. record claim { month = x }) found.month_is
    ∙ ap (λ x. record claim { month = claimed.month; state = x }) found.state_is
    ∙ ap (λ x. record claim { month = claimed.month; state = claimed.state; claim = x }) found.claim_is
    ∙ ap (λ x. record (claim_with claimed ends claim.mark) { lo = x; hi = claim.hi }) found.lo_is
    ∙ ap (λ x. record (claim_with claimed ends claim.mark) { hi = x }) found.hi_is

-- a mark that is given exactly by ends which hold the exact reserve is right
marked_right : (product : Product) (degree : ℕ) (claimed : Claimed) (ends : Printed) (eps : ℤ) (mark : Finding)
    → AreEndsFor degree (λ n. reserve_at product n claimed.month claimed.state) (tolerance_at product claimed.month)
    ends
    → ((mark ≡ finding.Yes) ↔ IsNear claimed.claim eps ends.lo ends.hi)
    → ((mark ≡ finding.No) ↔ IsFar claimed.claim eps ends.lo ends.hi)
    → IsMarkedRight product degree eps (claim_with claimed ends mark)
marked_right product degree claimed ends eps mark are_ends by_yes by_no = record {
  holds = are_ends.holds;
  near = λ n reached. mark_implies_nearness mark claimed.claim eps ends.lo ends.hi by_yes by_no _ _
      (are_ends.holds n reached).at_least (are_ends.holds n reached).at_most are_ends.narrow;
}

-- the ends of a claim's reserve
claim_ends : (product : Product) (table : Table) (fields : List (List ℕ)) (claimed : Claimed)
    → AreReserves product 1 table → IsClaim product.months product.states fields claimed
    → AreEndsFor table.degree (λ n. reserve_at product n claimed.month claimed.state)
    (tolerance_at product claimed.month) (ends_of table claimed)
claim_ends product table fields claimed are_reserves is_claim =
    let early = month_in_term product.months _ claimed.month is_claim.says.month_is in
    let there = slice_get_within product.states claimed.state is_claim.state is_claim.says.state_is in
    let date : claimed.month * 1 ≡ claimed.month = omega arith in
    subst (λ month. AreEndsFor table.degree (λ n. reserve_at product n month claimed.state)
    (tolerance_at product month) (ends_of table claimed)) date
    (are_reserves.ends claimed.month claimed.state (omega (arith, early)) there)

-- each claim of a text is marked right
pub claims_are_right : (product : Product) (text : List ℕ) (eps : ℤ) (claimed : List Claimed) (table : Table)
    (claims : List Claim) → AreReserves product 1 table
    → AreClaimsIn product.months product.states text claimed → AreFound table eps claimed claims
    → All (IsMarkedRight product table.degree eps) claims
claims_are_right product text eps claimed table claims are_reserves read found k d within =
    let inside : k < length claimed = omega (arith, within, found.count) in
    let each = found.each k inside in
    let right = marked_right product table.degree (claim_at claimed k) (ends_of table (claim_at claimed k)) eps
    (found_at claims k).mark
    (claim_ends product table (record_at read.0 (k + 1)) (claim_at claimed k) are_reserves (read.3.each k inside))
    each.yes each.no in
    subst (IsMarkedRight product table.degree eps) (get_or_default claims k _ d within)
    (subst (IsMarkedRight product table.degree eps) (sym (found_is _ _ eps (found_at claims k) each)) right)

-- and is about a state of the product
pub claims_are_about_states : (product : Product) (text : List ℕ) (eps : ℤ) (audited : Audited)
    → IsAudit product text eps audited → AreAboutStates product audited
claims_are_about_states product text eps audited is k d within =
    let inside : k < length is.claimed = omega (arith, within, is.found.count) in
    let claim = is.read.3.each k inside in
    let there = slice_get_within product.states (claim_at is.claimed k).state claim.state claim.says.state_is in
    subst (λ claim. claim.state < length product.states) (get_or_default audited.claims.items k _ d within)
    (subst (λ state. state < length product.states) (sym (is.found.each k inside).state_is) there)
