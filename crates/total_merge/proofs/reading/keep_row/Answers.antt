use Rattle.std.proofs.Common.{◌++◌, ◌∷◌, [], subst, sym}
use Rattle.std.proofs.lemmas.Result.{on_ok_weaker}
use Rattle.csv.specs.Records.{fields_of}
use Rattle.total_merge.specs.Entries.{entry_of, kept_entries, IsEntry}
use Rattle.total_merge.specs.Tables.{AreEntries}
use Rattle.total_merge.proofs.EntryLists.{entry_more, head_more}
use Rattle.total_merge.proofs.reading.keep_row.Goals as goal

pub returns-then-is_head-clause-ok : goal.returns-then-is_head-clause-ok
returns-then-is_head-clause-ok c records are =
    head_more records (kept_entries c.args.entries.now.items) (fields_of c.args.record.now) are
    (c.is_head.ensures.0 c.if-is_head.true)

pub returns-in-Ok-clause-ok : goal.returns-in-Ok-clause-ok
returns-in-Ok-clause-ok c =
    let entry = entry_of c.in-Some.group.now c.in-Ok.numbers in
    let is : IsEntry (fields_of c.args.record.now) entry = record {
      lo = c.in-Some.lo.now;
      hi = c.in-Some.hi.now;
      tolerance = c.in-Some.tolerance.now;
      four = c.in-Some.ensures.some;
      numbers = c.in-Ok.ensures.ok;
    } in
    on_ok_weaker c.keep.result
    (λ kept records are. subst (AreEntries (records ++ fields_of c.args.record.now ∷ [])) (sym kept)
    (entry_more records (kept_entries c.args.entries.now.items) (fields_of c.args.record.now) entry are is))
    c.keep.ensures.kept
