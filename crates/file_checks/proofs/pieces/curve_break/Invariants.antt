use Rattle.std.proofs.Common.{◌≡◌, ℕ, ◌<◌, [], None, get_or}
use Rattle.toml.specs.View.{table_view}
use Rattle.product_file.specs.Checks.{first_failed}
use Rattle.product_file.specs.CurveRules.{rule_8_of, curve_items}
use Rattle.file_checks.proofs.pieces.curve_break.Given as goal

-- the curves so far are good
abbrev pub invariant-loop-k : goal.invariant-loop-k
invariant-loop-k l =
    (j : ℕ) → j < l.k
    → first_failed (rule_8_of (table_view l.tree) (get_or (curve_items (table_view l.tree)) j [])) ≡ None
