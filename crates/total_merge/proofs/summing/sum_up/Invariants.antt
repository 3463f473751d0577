use Rattle.std.proofs.Common.{◌≡◌, ◌≤◌, length, take}
use Rattle.total_merge.specs.Entries.{kept_entries}
use Rattle.total_merge.specs.Sums.{groups_of, AreSums}
use Rattle.total_merge.proofs.summing.sum_up.Given as goal

abbrev pub invariant-loop-i : goal.invariant-loop-i
invariant-loop-i l = record {
  within : l.i ≤ length l.entries;
  names_are : l.names ≡ groups_of (take l.i (kept_entries l.entries));
  sums : AreSums l.names l.groups.items (take l.i (kept_entries l.entries));
}
