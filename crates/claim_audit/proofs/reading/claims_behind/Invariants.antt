use Rattle.std.proofs.Common.{◌≡◌, ◌≤◌, ◌<◌, ◌+◌, ℕ, length, map}
use Rattle.csv.specs.Records.{fields_of}
use Rattle.claim_audit.specs.Claims.{IsClaim}
use Rattle.claim_audit.specs.Readings.{record_at, claim_at}
use Rattle.claim_audit.proofs.reading.claims_behind.Given as goal

abbrev pub invariant-loop-i : goal.invariant-loop-i
invariant-loop-i l = record {
  start : 0 < l.i;
  within : l.i ≤ length l.rows;
  count : l.i ≡ length l.claims.items + 1;
  each : (k : ℕ) → k < length l.claims.items
      → IsClaim l.months l.graph.names (record_at (map fields_of l.rows) (k + 1)) (claim_at l.claims.items k);
}
