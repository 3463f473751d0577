-- What two bases of which no part differs have in common.
use Rattle.std.proofs.Common.{◌≡◌, ℕ, cond, List, [], ◌∷◌, length, refl, ap, sym, ◌∙◌, inl, inr}
use Rattle.std.specs.Prelude.{Option, Some, None}
use Rattle.std.proofs.lemmas.Bool.{cases_eq, ne_eqb}
use Rattle.model_specs.specs.Product.{Product}
use Rattle.model_specs.specs.ValuationRules.{first_given}
use Rattle.basis_compare.specs.declared.differing.CompareBreak.{CompareBreak}
use Rattle.basis_compare.specs.Bases.{differing_numbers, differing_names, first_difference}

-- the same term, denominator and number of states
pub record AreAlike (a b : Product) : Type 0 where
  pub months : a.months ≡ b.months
  pub den : a.den ≡ b.den
  pub count : length a.states ≡ length b.states

-- where none of some values is there, neither is the first, nor one of the others
pub none_given : {A : Type 0} (first : Option A) (more : List (Option A)) → first_given (first ∷ more) ≡ None
    → (first_given more ≡ None) × (first ≡ None)
none_given None more none = (none, refl)
none_given (Some found) more none = absurd (cc)

pub equal_numbers : (part a b : ℕ) → differing_numbers part a b ≡ None → a ≡ b
equal_numbers part a b none =
    elim (cases_eq a b) [
      | inl same ↦ same
      | inr other ↦ absurd (no_break part a b other none)
    ]
  where
    no_break : (part a b : ℕ) → (a ≡ b → ⊥) → differing_numbers part a b ≡ None → ⊥
    no_break part a b other none =
        let broken : CompareBreak = record { part = part; a = a; b = b } in
        let found : Some broken ≡ None = sym (ap (λ same. cond same None (Some broken)) (ne_eqb a b other)) ∙ none in
        cc

pub are_alike : (a b : Product) → first_difference a b ≡ None → AreAlike a b
are_alike a b none =
    let terms = none_given (differing_numbers 1 a.months b.months) (differing_numbers 2 a.den b.den
    ∷ differing_numbers 3 (length a.states) (length b.states) ∷ differing_names 4 a.states b.states ∷ []) none in
    let denominators = none_given (differing_numbers 2 a.den b.den)
    (differing_numbers 3 (length a.states) (length b.states) ∷ differing_names 4 a.states b.states ∷ []) terms.0 in
    let counts = none_given (differing_numbers 3 (length a.states) (length b.states))
    (differing_names 4 a.states b.states ∷ []) denominators.0 in
    record {
      months = equal_numbers 1 a.months b.months terms.1;
      den = equal_numbers 2 a.den b.den denominators.1;
      count = equal_numbers 3 (length a.states) (length b.states) counts.1;
    }
