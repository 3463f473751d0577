use Rattle.std.proofs.Common.{◌≡◌, ◌<◌, ◌+◌, ◌++◌, ◌∷◌, [], ◌∙◌, length, map, ap, sym, subst, arith}
use Rattle.std.proofs.lemmas.List.{length_push, length-map}
use Rattle.csv.specs.Records.{fields_of}
use Rattle.claim_audit.specs.Readings.{record_at}
use Rattle.claim_audit.proofs.ClaimLists.{fields_at}
use Rattle.portfolio_run.specs.Holdings.{IsHolding}
use Rattle.portfolio_run.specs.Readings.{BeginWith, files_of}
use Rattle.portfolio_run.specs.Stored.{AreKept, kept_holdings}
use Rattle.portfolio_run.proofs.FirstHoldings.{fault_is_first, one_holding_more}
use Rattle.portfolio_run.proofs.reading.policies_behind.Goals as goal

pub returns-in-Err-clause-err : goal.returns-in-Err-clause-err
returns-in-Err-clause-err c =
    let within : c.loop-i.i < length c.args.records.now = omega arith in
    let here = fields_at fields_of c.args.records.now c.loop-i.i c.index-records-i.result within c.index-records-i.is in
    fault_is_first (map fields_of c.args.records.now)
    (kept_holdings c.loop-i.files c.loop-i.groups c.loop-i.policies.items) c.loop-i.files _ c.loop-i.i c.in-Err.why
    c.loop-i.invariant.kept.files_are c.loop-i.invariant.begin c.loop-i.invariant.count
    (rw (length-map c.args.records.now fields_of) within) here c.in-Err.ensures.err

pub loop-i-preserved : goal.loop-i-preserved
loop-i-preserved c =
    let records = map fields_of c.args.records.now in
    let holdings = kept_holdings c.loop-i.files c.loop-i.groups c.loop-i.policies.items in
    let files = c.keep_row-kept.new.files in
    let groups = c.keep_row-kept.new.groups in
    let policies = c.keep_row-kept.new.policies.items in
    let within : c.loop-i.i < length c.args.records.now = omega arith in
    let here = fields_at fields_of c.args.records.now c.loop-i.i c.index-records-i.result within c.index-records-i.is in
    let more = c.in-Ok.ensures.ok holdings c.loop-i.invariant.kept in
    let is : kept_holdings files groups policies ≡ holdings ++ more.holding ∷ [] = more.kept.holdings_are in
    let longer : length (kept_holdings files groups policies) ≡ length holdings + 1 =
    ap length is ∙ length_push holdings more.holding in
    let count : c.loop-i.i ≡ length holdings + 1 = c.loop-i.invariant.count in
    let says : IsHolding (files_of holdings) (record_at records (length holdings + 1)) more.holding =
    subst (λ k. IsHolding (files_of holdings) (record_at records k) more.holding) count
    (subst (λ fields. IsHolding (files_of holdings) fields more.holding) (sym here) more.says) in
    let room : length holdings + 1 < length records =
    rw (length-map c.args.records.now fields_of) (omega (arith, within, count)) in
    record {
      start = omega arith;
      within = omega (arith, within);
      count = omega (arith, longer, count);
      begin = subst (BeginWith records) (sym is)
          (one_holding_more records holdings more.holding c.loop-i.invariant.begin room says);
      kept = subst (AreKept files groups policies) (sym is) more.kept;
    }
