-- Rules 15 to 18 of a product, with the least place at which each is broken. This product's own.
use Rattle.std.specs.Prelude.{◌≡◌, ℕ, ◌*◌, nat_le, ℤ, pos, neg_ℤ, ◌*ℤ◌, int_le}
use Rattle.std.specs.Prelude.{Bool, not, ◌&&◌, if◌then◌else◌, Option, Some, None, option_map, find}
use Rattle.std.specs.Prelude.{List, [], ◌∷◌}
use Rattle.std.specs.List.{list_all}
use Rattle.named_numbers.specs.Numbers.{most_bound}
use Rattle.whole_laws.specs.Whole.{places}
use Rattle.model_specs.specs.Product.{Product}
use Rattle.model_specs.specs.Payments.{payment_plan}
use Rattle.model_specs.specs.MonthNumbers.{curve_numerators, month_unit, rho}
use Rattle.model_specs.specs.Ledgers.{bound1024}
use Rattle.model_specs.specs.RecordRules.{IsWellFormed}

-- rule 15 in a month: each Bernstein coefficient of the interest is from -1/50 to 1/4 a year
abbrev pub obeys_rule_15 : Product → ℕ → Bool
obeys_rule_15 product month =
    let unit = pos (month_unit product) in
    list_all (λ b. int_le (neg_ℤ unit) (pos 50 *ℤ b) && int_le (pos 4 *ℤ b) unit)
    (curve_numerators product.interest month)

-- rule 16 in a month: each Bernstein coefficient of each intensity is at least 0
abbrev pub obeys_rule_16 : Product → ℕ → Bool
obeys_rule_16 product month =
    list_all (λ t. list_all (int_le (pos 0)) (curve_numerators t.rate month)) product.transitions

-- rule 17 in a month: rho is at most 2 a year
abbrev pub obeys_rule_17 : Product → ℕ → Bool
obeys_rule_17 product month = int_le (rho product month) (pos (2 * month_unit product))

-- rule 18: the bound of the payment plan is at most 2^66 / 1024 minor units
abbrev pub obeys_rule_18 : Product → Bool
obeys_rule_18 product = nat_le (bound1024 product (payment_plan product)) most_bound

-- a rule that is broken, and the least place at which it is
pub record RuleBreak : Type 0 where
  pub rule : ℕ
  pub place : ℕ

-- the least month of the term in which a rule is broken
abbrev pub broken_in_months : Product → ℕ → (ℕ → Bool) → Option RuleBreak
broken_in_months product rule obeys =
    option_map (λ m. record { rule = rule; place = m }) (find (λ m. not (obeys m)) (places product.months))

-- rule 18 has the place 0
abbrev pub broken_at_last : Product → Option RuleBreak
broken_at_last product = if obeys_rule_18 product then None else Some (record { rule = 18; place = 0 })

-- the first that is there of some values
abbrev pub first_given : {A : Type 0} → List (Option A) → Option A
first_given [] = None
first_given (None ∷ more) = first_given more
first_given (Some x ∷ more) = Some x

-- the first broken of rules 15 to 18, each looked at over the whole term before the next
abbrev pub first_broken : Product → Option RuleBreak
first_broken product = first_given (broken_in_months product 15 (obeys_rule_15 product)
    ∷ broken_in_months product 16 (obeys_rule_16 product)
    ∷ broken_in_months product 17 (obeys_rule_17 product)
    ∷ broken_at_last product ∷ [])

-- the product can be valued: rules 3 to 18 hold
pub record IsAdmissible (product : Product) : Type 0 where
  pub well_formed : IsWellFormed product
  pub valuation : first_broken product ≡ None
