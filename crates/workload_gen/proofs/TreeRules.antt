-- The rules that a generated tree obeys whatever is drawn: its keys and types, its head, its transitions and sums, and
-- its premium pattern.
use Rattle.std.proofs.Common.{◌≡◌, ℕ, refl}
use Rattle.std.specs.Prelude.{None}
use Rattle.product_file.specs.Checks.{first_failed, first_failed_of_lists}
use Rattle.product_file.specs.HeadRules.{rule_1, rule_2, rule_4, rule_5, rule_6}
use Rattle.product_file.specs.TransitionRule.{rule_7}
use Rattle.product_file.specs.PaymentRules.{rule_10}
use Rattle.product_file.specs.PatternRules.{rule_13, rule_14}
use Rattle.workload_gen.specs.Tree.{generated}

pub keys_pass : (seed : ℕ) → first_failed (rule_1 (generated seed)) ≡ None
keys_pass seed = refl

pub format_passes : (seed : ℕ) → first_failed (rule_2 (generated seed)) ≡ None
format_passes seed = refl

pub term_passes : (seed : ℕ) → first_failed (rule_4 (generated seed)) ≡ None
term_passes seed = refl

pub denominator_passes : (seed : ℕ) → first_failed (rule_5 (generated seed)) ≡ None
denominator_passes seed = refl

pub start_passes : (seed : ℕ) → first_failed (rule_6 (generated seed)) ≡ None
start_passes seed = refl

pub transitions_pass : (seed : ℕ) → first_failed (rule_7 (generated seed)) ≡ None
transitions_pass seed = refl

pub sums_pass : (seed : ℕ) → first_failed_of_lists (rule_10 (generated seed)) ≡ None
sums_pass seed = refl

pub payers_pass : (seed : ℕ) → first_failed (rule_13 (generated seed)) ≡ None
payers_pass seed = refl

pub pattern_passes : (seed : ℕ) → first_failed (rule_14 (generated seed)) ≡ None
pattern_passes seed = refl
