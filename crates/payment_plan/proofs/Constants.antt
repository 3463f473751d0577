-- A constant payment weighs and pays the same whenever it started.
use Rattle.std.proofs.Common.{◌≡◌, ℕ, ◌+◌, ◌-◌, ◌*◌, ℤ, pos, [], ◌∷◌, ◌++◌, Bool, true, false, refl, ap, sym, ◌∙◌}
use Rattle.frac_laws.specs.Fraction.{Fraction, over}
use Rattle.frac_laws.specs.Polynomials.{all_over, shifted, stretched}
use Rattle.frac_laws.proofs.FractionTerms.{ring, terms}
use Rattle.frac_laws.proofs.QuotientFacts.{over-zero}
use Rattle.model_specs.specs.Product.{Step}
use Rattle.model_specs.specs.Payments.{constant_step}
use Rattle.model_specs.specs.MonthNumbers.{bernstein_numerators}
use Rattle.model_specs.specs.Growth.{load}
use Rattle.model_specs.specs.Cells.{Grid, amount_cell, origin_of, sign_of}
use Rattle.payment_plan.specs.Loads.{load_of_numerators}
use Rattle.payment_plan.proofs.Patterns.{unit_amount, one_numerators, no_numerators}
use Rattle.payment_plan.proofs.Shifts.{none, shifted-none}

-- both steps are of the same constant, 1 or 0
pub record AreSameUnit (s t : Step) (b : Bool) : Type 0 where
  pub first : s.c ≡ (constant_step 0 (unit_amount b)).c
  pub second : t.c ≡ (constant_step 0 (unit_amount b)).c

same_numerators : (b : Bool) (j k : ℕ)
    → bernstein_numerators (constant_step 0 (unit_amount b)).c j
    ≡ bernstein_numerators (constant_step 0 (unit_amount b)).c k
same_numerators true j k = one_numerators j ∙ sym (one_numerators k)
same_numerators false j k = no_numerators j ∙ sym (no_numerators k)

pub same_load : (s t : Step) (b : Bool) (month : ℕ) → AreSameUnit s t b → load s month ≡ load t month
same_load s t b month same =
    ap load_of_numerators
    (ap (λ c. bernstein_numerators c (month - s.from)) same.first
    ∙ same_numerators b (month - s.from) (month - t.from)
    ∙ ap (λ c. bernstein_numerators c (month - t.from)) (sym same.second))

-- a constant is the same after a shift
constant_polynomial : (a : ℤ) → all_over 1 (constant_step 0 a).c ≡ (over a 1 ∷ []) ++ none ++ none ++ none
constant_polynomial a =
    ap (λ z. over a 1 ∷ z) (ap (λ z. z ∷ z ∷ z ∷ []) (over-zero 1))

shifted_constant : (b : Fraction) (a : ℤ)
    → shifted b (all_over 1 (constant_step 0 a).c) ≡ (over a 1 ∷ []) ++ none ++ none ++ none
shifted_constant b a =
    ap (shifted b) (constant_polynomial a)
    ∙ shifted-none b ((over a 1 ∷ []) ++ none ++ none)
    ∙ ap (λ z. z ++ none)
    (shifted-none b ((over a 1 ∷ []) ++ none) ∙ ap (λ z. z ++ none) (shifted-none b (over a 1 ∷ [])))
    ∙ ap (λ z. (z ∷ []) ++ none ++ none ++ none) (ring (over a 1 ∷ []) (hlevel terms) refl)

pub same_amount : (s t : Step) (b : Bool) (month : ℕ) → AreSameUnit s t b → (grid : Grid) (cell : ℕ)
    → amount_cell grid s month cell ≡ amount_cell grid t month cell
same_amount s t b month same grid cell =
    let h = over (sign_of grid.direction) (12 * grid.cells) in
    let start : ℕ → Fraction =
    λ from. over (pos (origin_of grid.direction ((month - from) * grid.cells + cell))) (12 * grid.cells) in
    ap (λ c. stretched h (shifted (start s.from) (all_over 1 c))) same.first
    ∙ ap (stretched h)
    (shifted_constant (start s.from) (unit_amount b) ∙ sym (shifted_constant (start t.from) (unit_amount b)))
    ∙ ap (λ c. stretched h (shifted (start t.from) (all_over 1 c))) (sym same.second)
