-- The first broken rule, from the rules of the months and the bound.
use Rattle.std.specs.Prelude.{◌≡◌, ℕ, ◌<◌, ◌≤◌, ◌^◌, Bool, nat_le, if◌then◌else◌, Option, Some}
use Rattle.std.specs.Prelude.{None, option_map}
use Rattle.std.specs.Prelude.{find, not, [], ◌∷◌, refl}
use Rattle.std.proofs.Common.{ap, sym, ◌∙◌}
use Rattle.whole_laws.specs.Whole.{places}
use Rattle.whole_laws.proofs.Tests.{within_is, above_is_not}
use Rattle.model_specs.specs.Product.{Product}
use Rattle.model_specs.specs.Payments.{payment_plan}
use Rattle.model_specs.specs.Ledgers.{bound1024}
use Rattle.model_specs.specs.ValuationRules.{RuleBreak, first_broken, first_given, broken_in_months, broken_at_last}
use Rattle.model_specs.specs.ValuationRules.{obeys_rule_15, obeys_rule_16, obeys_rule_17}
use Rattle.ledger_laws.specs.MonthLaws.{ObeysAllMonths}
use Rattle.rate_bounds.specs.Breaks.{first_breaking, broken_by_month}
use Rattle.rate_bounds.proofs.FirstMonths.{none_breaks}

-- the first of three that is given is the first of four
given_of_three : {A : Type 0} (a b c d : Option A) (x : A) → Some x ≡ first_given (a ∷ b ∷ c ∷ [])
    → first_given (a ∷ b ∷ c ∷ d ∷ []) ≡ Some x
given_of_three (Some y) b c d x h = sym h
given_of_three None (Some y) c d x h = sym h
given_of_three None None (Some y) d x h = sym h
given_of_three None None None d x h = absurd cc

-- where none of three is given, the fourth is the first
given_at_last : {A : Type 0} (a b c d : Option A) → None ≡ first_given (a ∷ b ∷ c ∷ [])
    → first_given (a ∷ b ∷ c ∷ d ∷ []) ≡ first_given (d ∷ [])
given_at_last (Some y) b c d h = absurd cc
given_at_last None (Some y) c d h = absurd cc
given_at_last None None (Some y) d h = absurd cc
given_at_last None None None d h = refl

none_of_three : {A : Type 0} (a b c : Option A) → None ≡ first_given (a ∷ b ∷ c ∷ [])
    → (a ≡ None) × (b ≡ None) × (c ≡ None)
none_of_three (Some y) b c h = absurd cc
none_of_three None (Some y) c h = absurd cc
none_of_three None None (Some y) h = absurd cc
none_of_three None None None h = (refl, refl, refl)

not_mapped : {A B : Type 0} (f : A → B) (o : Option A) → option_map f o ≡ None → None ≡ o
not_mapped f None h = refl
not_mapped f (Some x) h = absurd cc

not_breaking : (p : Product) (rule : ℕ) (obeys : ℕ → Bool) → broken_in_months p rule obeys ≡ None
    → None ≡ first_breaking obeys p.months
unfolding first_breaking
not_breaking p rule obeys h =
    not_mapped (λ m. record { rule = rule; place = m }) (find (λ m. not (obeys m)) (places p.months)) h

pub months_obey : (p : Product) → None ≡ broken_by_month p → ObeysAllMonths p
unfolding broken_by_month
months_obey p none month inside =
    let all = none_of_three (broken_in_months p 15 (obeys_rule_15 p)) (broken_in_months p 16 (obeys_rule_16 p))
    (broken_in_months p 17 (obeys_rule_17 p)) none in
    record {
      interest = none_breaks (obeys_rule_15 p) p.months (not_breaking p 15 (obeys_rule_15 p) all.0) month inside;
      rates = none_breaks (obeys_rule_16 p) p.months (not_breaking p 16 (obeys_rule_16 p) all.1) month inside;
      exits = none_breaks (obeys_rule_17 p) p.months (not_breaking p 17 (obeys_rule_17 p) all.2) month inside;
    }

pub broken_in_a_month : (p : Product) (b : RuleBreak) → Some b ≡ broken_by_month p → first_broken p ≡ Some b
unfolding broken_by_month
broken_in_a_month p b found =
    given_of_three (broken_in_months p 15 (obeys_rule_15 p)) (broken_in_months p 16 (obeys_rule_16 p))
    (broken_in_months p 17 (obeys_rule_17 p)) (broken_at_last p) b found

only_last : (p : Product) → None ≡ broken_by_month p → first_broken p ≡ first_given (broken_at_last p ∷ [])
unfolding broken_by_month
only_last p none =
    given_at_last (broken_in_months p 15 (obeys_rule_15 p)) (broken_in_months p 16 (obeys_rule_16 p))
    (broken_in_months p 17 (obeys_rule_17 p)) (broken_at_last p) none

pub broken_at_the_end : (p : Product) (bound : ℕ) → None ≡ broken_by_month p → bound ≡ bound1024 p (payment_plan p)
    → 2 ^ 66 < bound → first_broken p ≡ Some (record { rule = 18; place = 0 })
broken_at_the_end p bound none is above =
    only_last p none
    ∙ ap (λ b. first_given ((if nat_le b (2 ^ 66) then None else Some (record { rule = 18; place = 0 })) ∷ [])) (sym is)
    ∙ ap (λ t. first_given ((if t then None else Some (record { rule = 18; place = 0 })) ∷ [])) (above_is_not bound (2
    ^ 66) above)

pub nothing_is_broken : (p : Product) (bound : ℕ) → None ≡ broken_by_month p → bound ≡ bound1024 p (payment_plan p)
    → bound ≤ 2 ^ 66 → first_broken p ≡ None
nothing_is_broken p bound none is within =
    only_last p none
    ∙ ap (λ b. first_given ((if nat_le b (2 ^ 66) then None else Some (record { rule = 18; place = 0 })) ∷ [])) (sym is)
    ∙ ap (λ t. first_given ((if t then None else Some (record { rule = 18; place = 0 })) ∷ [])) (within_is bound (2
    ^ 66) within)
