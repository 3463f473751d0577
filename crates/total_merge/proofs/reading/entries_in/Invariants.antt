use Rattle.std.proofs.Common.{◌≤◌, length, map, take}
use Rattle.csv.specs.Records.{fields_of}
use Rattle.total_merge.specs.Entries.{kept_entries}
use Rattle.total_merge.specs.Tables.{AreEntries}
use Rattle.total_merge.proofs.reading.entries_in.Given as goal

abbrev pub invariant-loop-i : goal.invariant-loop-i
invariant-loop-i l = record {
  within : l.i ≤ length l.records;
  read : AreEntries (take l.i (map fields_of l.records)) (kept_entries l.entries.items);
}
