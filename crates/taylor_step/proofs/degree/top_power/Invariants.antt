use Rattle.std.proofs.Common.{ℕ, ◌+◌, ◌*◌, ◌<◌, ◌≤◌, length}
use Rattle.linear_system.specs.StoredSystem.{row_of, dim_of}
use Rattle.taylor_step.specs.Stops.{IsZeroFrom}
use Rattle.taylor_step.proofs.degree.top_power.Given as goal

abbrev pub invariant-loop-i : goal.invariant-loop-i
invariant-loop-i l = record {
  above : (j : ℕ) → j < l.i
      → IsZeroFrom (row_of l.sys j).numbers ((l.top + 1) * length (row_of l.sys j).columns);
  least : (m : ℕ) → ((j : ℕ) → j < dim_of l.sys
      → IsZeroFrom (row_of l.sys j).numbers ((m + 1) * length (row_of l.sys j).columns)) → l.top ≤ m;
}
