use Rattle.std.proofs.Common.{◌≡◌, ℕ, ◌<◌, None}
use Rattle.toml.specs.View.{table_view}
use Rattle.product_file.specs.Checks.{first_failed}
use Rattle.product_file.specs.Members.{item_at}
use Rattle.product_file.specs.TransitionRule.{transition_items}
use Rattle.product_file.specs.PaymentRules.{sum_items, steps_rule_11}
use Rattle.file_checks.proofs.bounds.sums_break.Given as goal

-- the sums so far are bounded
abbrev pub invariant-loop-k : goal.invariant-loop-k
invariant-loop-k l =
    (j : ℕ) → j < l.k
    → first_failed (steps_rule_11 (table_view l.tree)
    (sum_items (item_at (transition_items (table_view l.tree)) j))) ≡ None
