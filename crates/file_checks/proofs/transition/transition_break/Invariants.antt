use Rattle.std.proofs.Common.{◌≡◌, ℕ, ◌<◌, true}
use Rattle.toml.specs.View.{table_view}
use Rattle.product_file.specs.TransitionRule.{is_good_transition}
use Rattle.file_checks.proofs.transition.transition_break.Given as goal

-- the transitions so far are good
abbrev pub invariant-loop-k : goal.invariant-loop-k
invariant-loop-k l = (i : ℕ) → i < l.k → is_good_transition (table_view l.tree) i ≡ true
