use Rattle.std.proofs.Common.{◌≡◌, ℕ, ◌<◌, true}
use Rattle.model_specs.specs.MonthNumbers.{bernstein_numerators}
use Rattle.product_file.specs.PaymentRules.{are_small}
use Rattle.file_changes.proofs.step_sizes.has_small_amounts.Given as goal

-- the months so far have small amounts
abbrev pub invariant-loop-month : goal.invariant-loop-month
invariant-loop-month l = (k : ℕ) → k < l.month → are_small (bernstein_numerators l.c k) ≡ true
