use Rattle.std.proofs.Common.{◌≡◌, ◌≤◌, ◌<◌, ◌+◌, length, map}
use Rattle.csv.specs.Records.{fields_of}
use Rattle.portfolio_run.specs.Readings.{BeginWith}
use Rattle.portfolio_run.specs.Stored.{AreKept, kept_holdings}
use Rattle.portfolio_run.proofs.reading.policies_behind.Given as goal

abbrev pub invariant-loop-i : goal.invariant-loop-i
invariant-loop-i l = record {
  start : 0 < l.i;
  within : l.i ≤ length l.records;
  count : l.i ≡ length (kept_holdings l.files l.groups l.policies.items) + 1;
  begin : BeginWith (map fields_of l.records) (kept_holdings l.files l.groups l.policies.items);
  kept : AreKept l.files l.groups l.policies.items (kept_holdings l.files l.groups l.policies.items);
}
