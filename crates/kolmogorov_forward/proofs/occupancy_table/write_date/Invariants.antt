use Rattle.std.proofs.Common.{ℕ, ◌+◌, ◌*◌, ◌<◌}
use Rattle.thiele_backward.specs.Dates.{ends_of}
use Rattle.kolmogorov_forward.specs.Dates.{IsProbabilityAt, KeepsRowsBelow}
use Rattle.kolmogorov_forward.proofs.occupancy_table.write_date.Given as goal

abbrev pub invariant-loop-state : goal.invariant-loop-state
invariant-loop-state l = record {
  written : (state : ℕ) → state < l.state
      → IsProbabilityAt l.sweep.product l.sweep.degree l.sweep.date state (ends_of l.cells (l.row * l.states + state));
  kept : KeepsRowsBelow l.row l.states l.initial.cells l.cells;
}
