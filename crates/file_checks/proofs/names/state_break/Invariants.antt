use Rattle.std.proofs.Common.{◌≡◌, ℕ, ◌<◌, true}
use Rattle.toml.specs.View.{table_view}
use Rattle.product_file.specs.HeadRules.{is_good_state}
use Rattle.file_checks.proofs.names.state_break.Given as goal

-- the states so far are good
abbrev pub invariant-loop-i : goal.invariant-loop-i
invariant-loop-i l = (k : ℕ) → k < l.i → is_good_state (table_view l.tree) k ≡ true
