use Rattle.std.proofs.Common.{◌≡◌, ℕ, ◌<◌, None}
use Rattle.toml.specs.View.{table_view}
use Rattle.product_file.specs.Checks.{first_failed}
use Rattle.product_file.specs.Members.{item_at}
use Rattle.product_file.specs.TransitionRule.{transition_items}
use Rattle.product_file.specs.PaymentRules.{sum_rule_10}
use Rattle.file_checks.proofs.steps.sums_break.Given as goal

-- the sums so far are good
abbrev pub invariant-loop-k : goal.invariant-loop-k
invariant-loop-k l =
    (j : ℕ) → j < l.k
    → first_failed (sum_rule_10 (table_view l.tree) (item_at (transition_items (table_view l.tree)) j)) ≡ None
