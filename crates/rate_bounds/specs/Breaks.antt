-- Where a product breaks a rule.
use Rattle.std.specs.Prelude.{ℕ, Bool, not, Option, find, [], ◌∷◌}
use Rattle.whole_laws.specs.Whole.{places}
use Rattle.model_specs.specs.Product.{Product}
use Rattle.model_specs.specs.ValuationRules.{RuleBreak, broken_in_months, first_given}
use Rattle.model_specs.specs.ValuationRules.{obeys_rule_15, obeys_rule_16, obeys_rule_17}
use Rattle.rate_bounds.specs.declared.rules.MonthRule.{MonthRule}
use Rattle.rate_bounds.specs.declared.rules.MonthRule.TheVariants.{Interest, Intensities, Exits}

-- whether one of rules 15 to 17 holds in a month
unfoldable pub obeys : MonthRule → Product → ℕ → Bool
obeys Interest = obeys_rule_15
obeys Intensities = obeys_rule_16
obeys Exits = obeys_rule_17

-- the least month of the term in which a rule is broken
unfoldable pub first_breaking : (ℕ → Bool) → ℕ → Option ℕ
first_breaking obeys months = find (λ m. not (obeys m)) (places months)

-- the first of rules 15 to 17 that is broken, each looked at over the whole term before the next
unfoldable pub broken_by_month : Product → Option RuleBreak
broken_by_month product = first_given (broken_in_months product 15 (obeys_rule_15 product)
    ∷ broken_in_months product 16 (obeys_rule_16 product)
    ∷ broken_in_months product 17 (obeys_rule_17 product) ∷ [])
