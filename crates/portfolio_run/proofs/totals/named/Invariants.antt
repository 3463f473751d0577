use Rattle.std.proofs.Common.{◌≡◌, length, take}
use Rattle.state_graph.specs.StateGraphs.{texts_of}
use Rattle.portfolio_run.specs.Named.{AreNamed}
use Rattle.portfolio_run.proofs.totals.named.Given as goal

abbrev pub invariant-loop-i : goal.invariant-loop-i
invariant-loop-i l = record {
  count : length l.totals.items ≡ l.i;
  named : AreNamed (take l.i (texts_of l.names)) l.sums l.totals.items;
}
