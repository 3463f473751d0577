use Rattle.std.proofs.Common.{ℕ, ◌+◌, ◌*◌, ◌<◌}
use Rattle.thiele_backward.specs.Dates.{IsReserveAt, KeepsRowsFrom, ends_of}
use Rattle.thiele_backward.proofs.reserve_table.write_date.Given as goal

abbrev pub invariant-loop-state : goal.invariant-loop-state
invariant-loop-state l = record {
  written : (state : ℕ) → state < l.state
      → IsReserveAt l.sweep.product l.sweep.degree l.sweep.months_left state
      (ends_of l.cells (l.row * l.states + state));
  kept : KeepsRowsFrom (l.row + 1) l.states l.initial.cells l.cells;
}
