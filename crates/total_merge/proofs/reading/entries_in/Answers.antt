use Rattle.std.proofs.Common.{◌≡◌, ◌<◌, ◌+◌, ◌++◌, ◌∷◌, [], ◌∙◌, length, map, take, ap, sym, subst, arith}
use Rattle.std.proofs.lemmas.List.{length-map, take_more}
use Rattle.csv.specs.Records.{fields_of}
use Rattle.claim_audit.proofs.ClaimLists.{fields_at}
use Rattle.total_merge.specs.Entries.{kept_entries}
use Rattle.total_merge.specs.Tables.{AreEntries}
use Rattle.total_merge.proofs.EntryLists.{fault_is_first}
use Rattle.total_merge.proofs.reading.entries_in.Goals as goal

pub returns-in-Err-clause-err : goal.returns-in-Err-clause-err
returns-in-Err-clause-err c =
    let within : c.loop-i.i < length c.args.records.now = omega arith in
    let here = fields_at fields_of c.args.records.now c.loop-i.i c.index-records-i.result within c.index-records-i.is in
    fault_is_first (map fields_of c.args.records.now) (kept_entries c.loop-i.entries.items) c.loop-i.i _ c.in-Err.why
    c.loop-i.invariant.read (rw (length-map c.args.records.now fields_of) within) here c.in-Err.ensures.err

pub loop-i-preserved : goal.loop-i-preserved
loop-i-preserved c =
    let records = map fields_of c.args.records.now in
    let within : c.loop-i.i < length c.args.records.now = omega arith in
    let here = fields_at fields_of c.args.records.now c.loop-i.i c.index-records-i.result within c.index-records-i.is in
    let inside : c.loop-i.i < length records = rw (length-map c.args.records.now fields_of) within in
    let more : take (c.loop-i.i + 1) records
    ≡ take c.loop-i.i records ++ fields_of c.index-records-i.result ∷ [] =
    take_more records c.loop-i.i [] inside ∙ ap (λ f. take c.loop-i.i records ++ f ∷ []) here in
    record {
      within = omega (arith, within);
      read = subst (λ r. AreEntries r (kept_entries c.keep_row.new.entries.items)) (sym more)
          (c.in-Ok.ensures.ok (take c.loop-i.i records) c.loop-i.invariant.read);
    }
