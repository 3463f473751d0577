-- The rules at their limits, computed.
use Rattle.std.specs.Prelude.{refl}
use Rattle.product_instances.specs.RuleLimits.{TwoExits, TwoEntries, LeastInterest, TouchingRate, FirstRuleFirst}

pub two_exits : TwoExits
two_exits = refl

pub two_entries : TwoEntries
two_entries = refl

pub least_interest : LeastInterest
least_interest = (refl, refl)

pub touching_rate : TouchingRate
touching_rate = refl

pub first_rule_first : FirstRuleFirst
first_rule_first = refl
