use Rattle.std.proofs.Common.{◌≡◌, ℕ, ◌<◌, None}
use Rattle.toml.specs.View.{table_view}
use Rattle.product_file.specs.Checks.{first_failed}
use Rattle.product_file.specs.PaymentRules.{sojourn_rule_10}
use Rattle.file_checks.proofs.steps.sojourns_break.Given as goal

-- the sojourns so far are good
abbrev pub invariant-loop-s : goal.invariant-loop-s
invariant-loop-s l = (j : ℕ) → j < l.s → first_failed (sojourn_rule_10 (table_view l.tree) j) ≡ None
