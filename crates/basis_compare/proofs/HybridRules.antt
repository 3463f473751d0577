-- A hybrid obeys rule 15 as the new basis does, and rules 16 and 17 as the old one does.
use Rattle.std.proofs.Common.{◌≡◌, ℕ, Bool, true, false, cond, List, [], ◌∷◌, ap, sym, subst, ◌∙◌}
use Rattle.std.specs.Prelude.{Option, Some, None}
use Rattle.model_specs.specs.Curve.{Piece}
use Rattle.model_specs.specs.Product.{Product}
use Rattle.model_specs.specs.ValuationRules.{RuleBreak, IsAdmissible, first_given, first_broken, broken_in_months}
use Rattle.model_specs.specs.ValuationRules.{broken_at_last, obeys_rule_15, obeys_rule_16, obeys_rule_17}
use Rattle.model_specs.specs.ValuationRules.{obeys_rule_18}
use Rattle.basis_compare.specs.Bases.{hybrid_of, first_difference, BreaksAtMostTheLastRule}
use Rattle.basis_compare.proofs.Alike.{AreAlike, none_given, are_alike}

-- where each of rules 15 to 17 is broken
abbrev interest_break : Product → Option RuleBreak
interest_break product = broken_in_months product 15 (obeys_rule_15 product)

abbrev intensity_break : Product → Option RuleBreak
intensity_break product = broken_in_months product 16 (obeys_rule_16 product)

abbrev exit_break : Product → Option RuleBreak
exit_break product = broken_in_months product 17 (obeys_rule_17 product)

-- the hybrid with another term and another denominator
abbrev hybrid_with : (a b : Product) → (months den : ℕ) → Product
hybrid_with a b months den = record {
  name = a.name;
  states = a.states;
  start = a.start;
  months = months;
  den = den;
  interest = b.interest;
  transitions = a.transitions;
  sojourns = a.sojourns;
  lumps = a.lumps;
  pattern = a.pattern;
}

interest_as_new : (a b : Product) → AreAlike a b → interest_break (hybrid_of a b) ≡ interest_break b
interest_as_new a b alike =
    ap (λ months. interest_break (hybrid_with a b months a.den)) alike.months
    ∙ ap (λ den. interest_break (hybrid_with a b b.months den)) alike.den

-- the first three of four are not there
last_alone : (first second third last : Option RuleBreak) → first ≡ None → second ≡ None → third ≡ None
    → first_given (first ∷ second ∷ third ∷ last ∷ []) ≡ first_given (last ∷ [])
last_alone first second third last no_first no_second no_third =
    ap (λ o. first_given (o ∷ second ∷ third ∷ last ∷ [])) no_first
    ∙ ap (λ o. first_given (o ∷ third ∷ last ∷ [])) no_second ∙ ap (λ o. first_given (o ∷ last ∷ [])) no_third

-- the place of the last rule
abbrev at_last : RuleBreak
at_last = record { rule = 18; place = 0 }

found_at_last : (obeys : Bool) (found : RuleBreak) → first_given (cond obeys None (Some at_last) ∷ []) ≡ Some found
    → found ≡ at_last
found_at_last true found is = absurd (cc)
found_at_last false found is = cc

last_is_broken : (a b : Product) → IsAdmissible a → IsAdmissible b → first_difference a b ≡ None → (found : RuleBreak)
    → first_broken (hybrid_of a b) ≡ Some found → found ≡ at_last
last_is_broken a b old new none found is =
    let of_old = none_given (interest_break a) (intensity_break a ∷ exit_break a ∷ broken_at_last a ∷ [])
    old.valuation in
    let of_rates = none_given (intensity_break a) (exit_break a ∷ broken_at_last a ∷ []) of_old.0 in
    let of_exits = none_given (exit_break a) (broken_at_last a ∷ []) of_rates.0 in
    let of_new = none_given (interest_break b) (intensity_break b ∷ exit_break b ∷ broken_at_last b ∷ [])
    new.valuation in
    found_at_last (obeys_rule_18 (hybrid_of a b)) found
    (sym (last_alone (interest_break (hybrid_of a b)) (intensity_break (hybrid_of a b)) (exit_break (hybrid_of a b))
    (broken_at_last (hybrid_of a b)) (interest_as_new a b (are_alike a b none) ∙ of_new.1) of_rates.1 of_exits.1) ∙ is)

pub hybrid_breaks_the_last : (a b : Product) → IsAdmissible a → IsAdmissible b → first_difference a b ≡ None
    → BreaksAtMostTheLastRule (hybrid_of a b)
hybrid_breaks_the_last a b old new none = record { at_last = last_is_broken a b old new none }

-- and so a copy of the old basis with that interest
pub copy_breaks_the_last : (a b h : Product) (interest : List Piece) → IsAdmissible a → IsAdmissible b
    → None ≡ first_difference a b → interest ≡ b.interest → h ≡ record a { interest = interest }
    → BreaksAtMostTheLastRule h
copy_breaks_the_last a b h interest old new none interest_is is =
    let with_interest : List Piece → Product = λ pieces. record a { interest = pieces } in
    subst BreaksAtMostTheLastRule (sym (is ∙ ap with_interest interest_is))
    (hybrid_breaks_the_last a b old new (sym none))
