use Rattle.std.proofs.Common.{◌≡◌, ℕ, ◌<◌, map, true}
use Rattle.toml.specs.View.{view, table_view}
use Rattle.file_checks.specs.Lists.{is_bounded_step_at}
use Rattle.file_checks.proofs.bounds.step_break.Given as goal

-- the steps so far are bounded
abbrev pub invariant-loop-i : goal.invariant-loop-i
invariant-loop-i l = (k : ℕ) → k < l.i → is_bounded_step_at (table_view l.tree) (map view l.steps) k ≡ true
