use Rattle.std.proofs.Common.{ℕ, ◌+◌, ◌*◌, ◌<◌, ◌≤◌}
use Rattle.named_numbers.specs.Numbers.{least_degree}
use Rattle.thiele_backward.specs.Dates.{KeepsRowsFrom, ends_of}
use Rattle.moment_equations.specs.Dates.{HoldsAt, AreNearFrom}
use Rattle.moment_equations.proofs.tables.write_date.Given as goal

abbrev pub invariant-loop-state : goal.invariant-loop-state
invariant-loop-state l = record {
  written : (degree : ℕ) → least_degree ≤ degree → AreNearFrom l.adm degree l.date l.mid → (state : ℕ)
      → state < l.state → HoldsAt l.kind l.adm degree l.date state (ends_of l.cells (l.row * l.states + state));
  kept : KeepsRowsFrom (l.row + 1) l.states l.initial.cells l.cells;
}
