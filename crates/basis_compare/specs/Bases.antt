-- Two bases: the hybrid of both, and the first part in which they cannot be compared. This product's own.
use Rattle.std.specs.Prelude.{◌≡◌, ℕ, Bool, ◌==◌, not, List, [], ◌∷◌, length, slice_index_or, bytes_eq, find}
use Rattle.std.specs.Prelude.{option_map, Option, Some, None, if◌then◌else◌}
use Rattle.whole_laws.specs.Whole.{places}
use Rattle.model_specs.specs.Product.{Product}
use Rattle.model_specs.specs.ValuationRules.{RuleBreak, first_given, first_broken}
use Rattle.basis_compare.specs.declared.differing.CompareBreak.{CompareBreak}

-- the hybrid record: basis a with the interest of basis b
abbrev pub hybrid_of : (a b : Product) → Product
hybrid_of a b = record a { interest = b.interest }

-- of rules 15 to 18 at most the last is broken
pub record BreaksAtMostTheLastRule (product : Product) : Type 0 where
  pub at_last : (found : RuleBreak) → first_broken product ≡ Some found → found ≡ record { rule = 18; place = 0 }

-- a part in which both have a number, and not the same
abbrev pub differing_numbers : (part a b : ℕ) → Option CompareBreak
differing_numbers part a b = if a == b then None else Some (record { part = part; a = a; b = b })

-- whether a state has the same name in both
abbrev pub is_named_alike : (a b : List (List ℕ)) → ℕ → Bool
is_named_alike a b state = bytes_eq (slice_index_or a state []) (slice_index_or b state [])

-- the part of the states' names: both numbers are the index of the first state that is named otherwise
abbrev pub differing_names : (part : ℕ) → (a b : List (List ℕ)) → Option CompareBreak
differing_names part a b = option_map (λ state. record { part = part; a = state; b = state })
    (find (λ state. not (is_named_alike a b state)) (places (length a)))

-- the first part that is broken: 1, the terms; 2, the denominators; 3, the numbers of states; 4, their names
abbrev pub first_difference : (a b : Product) → Option CompareBreak
first_difference a b = first_given (differing_numbers 1 a.months b.months
    ∷ differing_numbers 2 a.den b.den
    ∷ differing_numbers 3 (length a.states) (length b.states)
    ∷ differing_names 4 a.states b.states ∷ [])
