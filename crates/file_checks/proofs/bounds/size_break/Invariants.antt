use Rattle.std.proofs.Common.{◌≡◌, ℕ, ◌<◌, [], None, get_or}
use Rattle.toml.specs.View.{table_view}
use Rattle.product_file.specs.Checks.{first_failed}
use Rattle.product_file.specs.CurveRules.{rule_9_of, curve_items}
use Rattle.file_checks.proofs.bounds.size_break.Given as goal

-- the curves so far are bounded
abbrev pub invariant-loop-k : goal.invariant-loop-k
invariant-loop-k l =
    (j : ℕ) → j < l.k
    → first_failed (rule_9_of (table_view l.tree) (get_or (curve_items (table_view l.tree)) j [])) ≡ None
