use Rattle.std.proofs.Common.{◌≡◌, ◌<◌, ◌+◌, ◌∷◌, ◌++◌, [], ◌∙◌, ℕ, length, map, true, ap, sym, subst, arith, rules}
use Rattle.std.specs.Result.{is_ok}
use Rattle.std.proofs.lemmas.List.{length_push, length-map}
use Rattle.csv.specs.Records.{fields_of}
use Rattle.claim_audit.specs.Claims.{HasFault, IsClaim}
use Rattle.claim_audit.specs.Readings.{record_at, claim_at}
use Rattle.claim_audit.proofs.ClaimLists.{one_claim_more, fields_at, claims_before}
use Rattle.claim_audit.proofs.reading.claims_behind.Goals as goal

pub returns-in-Err-clause-err : goal.returns-in-Err-clause-err
returns-in-Err-clause-err c =
    let within : c.loop-i.i < length c.args.rows.now = omega arith in
    let here = fields_at fields_of c.args.rows.now c.loop-i.i c.index-rows-i.result within c.index-rows-i.is in
    record {
      some = c.loop-i.invariant.start;
      within = rw (length-map c.args.rows.now fields_of) within;
      first = c.in-Err.fault;
      part_is = c.part.ensures;
      fault = subst (λ fields. HasFault c.args.months c.args.graph.now.names fields c.in-Err.fault) (sym here)
          c.in-Err.ensures.err;
      before = claims_before c.args.months c.args.graph.now.names (map fields_of c.args.rows.now)
          c.loop-i.claims.items c.loop-i.i c.loop-i.invariant.count c.loop-i.invariant.each;
    }

pub loop-i-preserved : goal.loop-i-preserved
loop-i-preserved c =
    let within : c.loop-i.i < length c.args.rows.now = omega arith in
    let here = fields_at fields_of c.args.rows.now c.loop-i.i c.index-rows-i.result within c.index-rows-i.is in
    let good : is_ok c.push.result ≡ true = search rules in
    let items : c.push.new.self.items ≡ c.loop-i.claims.items ++ c.in-Ok.claimed ∷ [] =
    rw good at c.push.ensures.items in
    let longer : length c.push.new.self.items ≡ length c.loop-i.claims.items + 1 =
    ap length items ∙ length_push c.loop-i.claims.items c.in-Ok.claimed in
    let months = c.args.months in
    let names = c.args.graph.now.names in
    let records = map fields_of c.args.rows.now in
    let last = subst (λ fields. IsClaim months names fields c.in-Ok.claimed) (sym here) c.in-Ok.ensures.ok in
    record {
      start = omega arith;
      within = omega (arith, within);
      count = omega (arith, longer, c.loop-i.invariant.count);
      each = subst
          (λ list. (k : ℕ) → k < length list
          → IsClaim c.args.months c.args.graph.now.names (record_at (map fields_of c.args.rows.now) (k + 1))
          (claim_at list k))
          (sym items)
          (one_claim_more months names records c.loop-i.claims.items c.in-Ok.claimed c.loop-i.invariant.each
          (subst (λ j. IsClaim c.args.months c.args.graph.now.names (record_at (map fields_of c.args.rows.now) j)
          c.in-Ok.claimed) c.loop-i.invariant.count last));
    }
