use Rattle.std.proofs.Common.{◌≡◌, ◌<◌, ◌+◌, ◌∷◌, ◌++◌, [], ◌∙◌, ℕ, length, ap, sym, subst, arith}
use Rattle.std.proofs.lemmas.List.{length_push}
use mir.Syntax.{w128}
use mir.Val.{to_z, of_z}
use Rattle.claim_audit.specs.Readings.{claim_at}
use Rattle.claim_audit.specs.Findings.{ends_of, found_at, IsFound}
use Rattle.claim_audit.proofs.FoundClaims.{one_found_more}
use Rattle.claim_audit.proofs.findings.findings_of.Goals as goal

pub loop-claim-preserved : goal.loop-claim-preserved
loop-claim-preserved c =
    let within : c.loop-claim.claim-index < length c.args.claimed.now = omega arith in
    let items : c.push.new.self.items ≡ c.loop-claim.claims.items ++ c.found.result ∷ [] =
    c.in_ok-push.ensures.items in
    let longer : length c.push.new.self.items ≡ length c.loop-claim.claims.items + 1 =
    ap length items ∙ length_push c.loop-claim.claims.items c.found.result in
    record {
      count = omega (arith, longer, c.loop-claim.invariant.count);
      each = subst
          (λ list. (k : ℕ) → k < length list
          → IsFound (claim_at c.args.claimed.now k) (ends_of c.args.table.now (claim_at c.args.claimed.now k))
          (to_z w128 (of_z w128 c.args.eps))
          (found_at list k))
          (sym items)
          (one_found_more c.args.table.now (to_z w128 (of_z w128 c.args.eps)) c.args.claimed.now
          c.loop-claim.claims.items c.found.result c.loop-claim.claim-index c.index.result.now
          c.loop-claim.invariant.count (c.requires.numbers c.loop-claim.claim-index _ within).place c.index.ensures
          c.found.ensures c.loop-claim.invariant.each);
    }
