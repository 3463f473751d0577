-- The first part in which two bases differ.
use Rattle.std.proofs.Common.{◌≡◌, ℕ, ◌<◌, true, false, List, [], ◌∷◌, length, refl, ap, sym, ◌∙◌}
use Rattle.std.specs.Prelude.{Option, Some, None, option_map}
use Rattle.model_specs.specs.Product.{Product}
use Rattle.model_specs.specs.ValuationRules.{first_given}
use Rattle.rate_bounds.specs.Breaks.{first_breaking}
use Rattle.rate_bounds.proofs.FirstMonths.{first_is_found, none_is_found}
use Rattle.basis_compare.specs.declared.differing.CompareBreak.{CompareBreak}
use Rattle.basis_compare.specs.Bases.{differing_numbers, is_named_alike, differing_names, first_difference}

-- ---- names

-- the part of the names at a state
abbrev names_break : (part state : ℕ) → CompareBreak
names_break part state = record { part = part; a = state; b = state }

pub named_otherwise : (part : ℕ) (a b : List (List ℕ)) (state : ℕ) → state < length a
    → is_named_alike a b state ≡ false → ((k : ℕ) → k < state → is_named_alike a b k ≡ true)
    → Some (names_break part state) ≡ differing_names part a b
unfolding first_breaking
named_otherwise part a b state inside other before =
    ap (option_map (names_break part))
    (first_is_found (is_named_alike a b) (length a) state false inside (sym other) refl before)

pub named_alike : (part : ℕ) (a b : List (List ℕ)) (end : ℕ) → length a ≡ end
    → ((k : ℕ) → k < end → is_named_alike a b k ≡ true) → None ≡ differing_names part a b
unfolding first_breaking
named_alike part a b end is all =
    ap (option_map (names_break part)) (none_is_found (is_named_alike a b) (length a) end is all)

-- ---- the four parts

-- the parts from the fourth, the third and the second on
abbrev from_names : Product → Product → List (Option CompareBreak)
from_names a b = differing_names 4 a.states b.states ∷ []

abbrev from_states : Product → Product → List (Option CompareBreak)
from_states a b = differing_numbers 3 (length a.states) (length b.states) ∷ from_names a b

abbrev from_denominators : Product → Product → List (Option CompareBreak)
from_denominators a b = differing_numbers 2 a.den b.den ∷ from_states a b

-- a part before others
abbrev given_before : List (Option CompareBreak) → Option CompareBreak → Option CompareBreak
given_before more part = first_given (part ∷ more)

pub terms_differ : (a b : Product) (found : CompareBreak) → Some found ≡ differing_numbers 1 a.months b.months
    → Some found ≡ first_difference a b
terms_differ a b found is = ap (given_before (from_denominators a b)) is

pub denominators_differ : (a b : Product) (found : CompareBreak) → None ≡ differing_numbers 1 a.months b.months
    → Some found ≡ differing_numbers 2 a.den b.den → Some found ≡ first_difference a b
denominators_differ a b found terms is =
    ap (given_before (from_states a b)) is ∙ ap (given_before (from_denominators a b)) terms

pub counts_differ : (a b : Product) (found : CompareBreak) → None ≡ differing_numbers 1 a.months b.months
    → None ≡ differing_numbers 2 a.den b.den → Some found ≡ differing_numbers 3 (length a.states) (length b.states)
    → Some found ≡ first_difference a b
counts_differ a b found terms denominators is =
    ap (given_before (from_names a b)) is ∙ ap (given_before (from_states a b)) denominators
    ∙ ap (given_before (from_denominators a b)) terms

-- what the last part says, all say
only_given : (part : Option CompareBreak) → part ≡ first_given (part ∷ [])
only_given None = refl
only_given (Some found) = refl

pub names_decide : (a b : Product) (part : Option CompareBreak) → None ≡ differing_numbers 1 a.months b.months
    → None ≡ differing_numbers 2 a.den b.den → None ≡ differing_numbers 3 (length a.states) (length b.states)
    → part ≡ differing_names 4 a.states b.states → part ≡ first_difference a b
names_decide a b part terms denominators counts is =
    only_given part ∙ ap (given_before []) is ∙ ap (given_before (from_names a b)) counts
    ∙ ap (given_before (from_states a b)) denominators ∙ ap (given_before (from_denominators a b)) terms
