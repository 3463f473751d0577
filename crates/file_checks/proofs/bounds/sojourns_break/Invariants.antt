use Rattle.std.proofs.Common.{◌≡◌, ℕ, ◌<◌, None}
use Rattle.toml.specs.View.{table_view}
use Rattle.product_file.specs.Checks.{first_failed}
use Rattle.product_file.specs.Members.{item_at}
use Rattle.product_file.specs.PaymentRules.{sojourn_items, steps_items, steps_rule_11}
use Rattle.file_checks.proofs.bounds.sojourns_break.Given as goal

-- the sojourns so far are bounded
abbrev pub invariant-loop-s : goal.invariant-loop-s
invariant-loop-s l =
    (j : ℕ) → j < l.s
    → first_failed (steps_rule_11 (table_view l.tree) (steps_items (item_at (sojourn_items (table_view l.tree)) j)))
    ≡ None
