use Rattle.std.proofs.Common.{◌≡◌, ◌<◌, ℕ, length}
use Rattle.claim_audit.specs.Readings.{claim_at}
use Rattle.claim_audit.specs.Findings.{ends_of, found_at, IsFound}
use Rattle.claim_audit.proofs.findings.findings_of.Given as goal

abbrev pub invariant-loop-claim : goal.invariant-loop-claim
invariant-loop-claim l = record {
  count : length l.claims.items ≡ l.claim-index;
  each : (k : ℕ) → k < length l.claims.items
      → IsFound (claim_at l.claimed k) (ends_of l.table (claim_at l.claimed k)) l.eps (found_at l.claims.items k);
}
