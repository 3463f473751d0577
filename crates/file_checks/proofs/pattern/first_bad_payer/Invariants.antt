use Rattle.std.proofs.Common.{◌≡◌, ℕ, ◌<◌, true}
use Rattle.toml.specs.View.{table_view}
use Rattle.product_file.specs.PatternRules.{is_good_payer}
use Rattle.file_checks.proofs.pattern.first_bad_payer.Given as goal

-- the payers so far are good
abbrev pub invariant-loop-i : goal.invariant-loop-i
invariant-loop-i l = (k : ℕ) → k < l.i → is_good_payer (table_view l.tree) k ≡ true
