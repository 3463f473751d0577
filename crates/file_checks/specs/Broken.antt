-- Where the rules of a tree are broken, in two parts.
use Rattle.std.specs.Prelude.{◌≡◌, ◌∷◌, [], List, Option, None}
use Rattle.toml.specs.Data.{Members}
use Rattle.model_specs.specs.ValuationRules.{RuleBreak}
use Rattle.product_file.specs.Checks.{first_failed, first_failed_of_lists}
use Rattle.product_file.specs.HeadRules.{rule_1, rule_2, rule_3, rule_4, rule_5, rule_6}
use Rattle.product_file.specs.TransitionRule.{rule_7}
use Rattle.product_file.specs.CurveRules.{rule_8, rule_9}
use Rattle.product_file.specs.PaymentRules.{rule_10, rule_11}
use Rattle.product_file.specs.LumpRule.{rule_12}
use Rattle.product_file.specs.PatternRules.{rule_13, rule_14}
use Rattle.product_file.specs.Reads.{broken_at}

-- where rules 1 to 7 are broken
abbrev pub head_breaks : Members → List (Option RuleBreak)
head_breaks tree =
    broken_at 1 (first_failed (rule_1 tree)) ∷ broken_at 2 (first_failed (rule_2 tree))
    ∷ broken_at 3 (first_failed (rule_3 tree)) ∷ broken_at 4 (first_failed (rule_4 tree))
    ∷ broken_at 5 (first_failed (rule_5 tree)) ∷ broken_at 6 (first_failed (rule_6 tree))
    ∷ broken_at 7 (first_failed (rule_7 tree)) ∷ []

-- where rules 8 to 14 are broken
abbrev pub list_breaks : Members → List (Option RuleBreak)
list_breaks tree =
    broken_at 8 (first_failed_of_lists (rule_8 tree)) ∷ broken_at 9 (first_failed_of_lists (rule_9 tree))
    ∷ broken_at 10 (first_failed_of_lists (rule_10 tree)) ∷ broken_at 11 (first_failed_of_lists (rule_11 tree))
    ∷ broken_at 12 (first_failed (rule_12 tree)) ∷ broken_at 13 (first_failed (rule_13 tree))
    ∷ broken_at 14 (first_failed (rule_14 tree)) ∷ []

-- rules 1 to 7 hold
pub record ObeysHead (tree : Members) : Type 0 where
  pub keys : first_failed (rule_1 tree) ≡ None
  pub format : first_failed (rule_2 tree) ≡ None
  pub names : first_failed (rule_3 tree) ≡ None
  pub term : first_failed (rule_4 tree) ≡ None
  pub denominator : first_failed (rule_5 tree) ≡ None
  pub start : first_failed (rule_6 tree) ≡ None
  pub transitions : first_failed (rule_7 tree) ≡ None

-- rules 8 to 14 hold
pub record ObeysLists (tree : Members) : Type 0 where
  pub curves : first_failed_of_lists (rule_8 tree) ≡ None
  pub sizes : first_failed_of_lists (rule_9 tree) ≡ None
  pub payments : first_failed_of_lists (rule_10 tree) ≡ None
  pub amounts : first_failed_of_lists (rule_11 tree) ≡ None
  pub lumps : first_failed (rule_12 tree) ≡ None
  pub payers : first_failed (rule_13 tree) ≡ None
  pub pattern : first_failed (rule_14 tree) ≡ None

-- rules 1 to 14 hold
pub record ObeysRules (tree : Members) : Type 0 where
  pub head : ObeysHead tree
  pub lists : ObeysLists tree
