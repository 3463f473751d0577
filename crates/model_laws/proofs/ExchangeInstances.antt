-- Rules 15 to 18 on products at the limits, computed.
use Rattle.std.specs.Prelude.{◌≡◌, ℤ, pos, Option, Some, None, Bool, false, true, refl, [], ◌∷◌}
use Rattle.std.specs.Prelude.{if◌then◌else◌}
use Rattle.std.proofs.Common.{ap, ◌∙◌}
use Rattle.model_specs.specs.ValuationRules.{RuleBreak, first_given, first_broken, broken_at_last}
use Rattle.model_specs.specs.ValuationRules.{broken_in_months, obeys_rule_15, obeys_rule_16}
use Rattle.model_specs.specs.ValuationRules.{obeys_rule_17, obeys_rule_18}
use Rattle.model_laws.specs.LedgerInstances.{LargestRates, LargestExchange, TooLargeExchange}
use Rattle.model_laws.specs.LedgerInstances.{FarTooLargeExchange}
use Rattle.model_laws.specs.Examples.{exchange}

pub largest_rates : LargestRates
largest_rates = (refl, refl)

interest_holds : (amount : ℤ) → broken_in_months (exchange amount) 15 (obeys_rule_15 (exchange amount)) ≡ None
interest_holds amount = refl

rates_hold : (amount : ℤ) → broken_in_months (exchange amount) 16 (obeys_rule_16 (exchange amount)) ≡ None
rates_hold amount = refl

exits_hold : (amount : ℤ) → broken_in_months (exchange amount) 17 (obeys_rule_17 (exchange amount)) ≡ None
exits_hold amount = refl

-- where rules 15 to 17 hold, what is first broken is what rule 18 says
only_the_last : (x y z w : Option RuleBreak) → x ≡ None → y ≡ None → z ≡ None
    → first_given (x ∷ y ∷ z ∷ w ∷ []) ≡ w
only_the_last x y z None none nothing nil = rw (none, nothing, nil) refl
only_the_last x y z (Some w) none nothing nil = rw (none, nothing, nil) refl

first_broken-exchange : (amount : ℤ) → first_broken (exchange amount) ≡ broken_at_last (exchange amount)
first_broken-exchange amount = only_the_last _ _ _ (broken_at_last (exchange amount))
    (interest_holds amount) (rates_hold amount) (exits_hold amount)

largest_holds : obeys_rule_18 (exchange (pos 396094500958)) ≡ true
largest_holds = refl

next_fails : obeys_rule_18 (exchange (pos 396094500959)) ≡ false
next_fails = refl

far_fails : obeys_rule_18 (exchange (pos 1000000000000)) ≡ false
far_fails = refl

-- what rule 18 says of a test's answer
last_break : Bool → Option RuleBreak
last_break holds = if holds then None else Some (record { rule = 18; place = 0 })

pub largest_exchange : LargestExchange
unfolding last_break
largest_exchange = first_broken-exchange (pos 396094500958) ∙ ap last_break largest_holds

pub too_large_exchange : TooLargeExchange
unfolding last_break
too_large_exchange = first_broken-exchange (pos 396094500959) ∙ ap last_break next_fails

pub far_too_large_exchange : FarTooLargeExchange
unfolding last_break
far_too_large_exchange = first_broken-exchange (pos 1000000000000) ∙ ap last_break far_fails
