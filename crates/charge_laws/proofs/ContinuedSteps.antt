-- What a step pays in a cell, once it is charged, and once it goes on from a later month.
use Rattle.std.specs.Prelude.{◌≡◌, ℕ, zero, suc, pos, ◌+◌, ◌-◌, ◌*◌, ◌≤◌, ℤ, List, [], ◌∷◌, length}
use Rattle.std.specs.Prelude.{refl}
use Rattle.std.proofs.Common.{ap, sym, ◌∙◌, arith}
use mathlib.Core.Path.{ap₂}
use Rattle.std.proofs.Math.Nat.{mul-zero, pow-zero}
use Rattle.frac_laws.specs.Fraction.{Fraction, over, whole, opposite, ◌+ℚ◌, ◌*ℚ◌, ◌-ℚ◌}
use Rattle.frac_laws.specs.Lists.{number_at, add_lists, scale_list}
use Rattle.frac_laws.specs.Polynomials.{shifted, stretched, all_over}
use Rattle.frac_laws.proofs.FractionTerms.{ring, terms}
use Rattle.frac_laws.proofs.ListAlgebra.{add_lists-none}
use Rattle.frac_laws.proofs.Polynomials.{shifted-add_lists, shifted-scale_list, shifted-shifted}
use Rattle.frac_laws.proofs.Polynomials.{stretched-add_lists, stretched-scale_list}
use Rattle.frac_laws.proofs.Quotients.{over_add, over_scale, whole_sub}
use Rattle.frac_laws.proofs.Vectors.{number_at-add_lists, number_at-scale_list}
use Rattle.model_specs.specs.Product.{Step}
use Rattle.model_specs.specs.Payments.{step_at}
use Rattle.model_specs.specs.Cells.{Grid, Direction, Forward, Backward, origin_of, sign_of, cell_polynomial}
use Rattle.model_specs.specs.Cells.{amount_cell}
use Rattle.file_changes.specs.ContinuousAsks.{AreWholeLater, GoesOnWhole}
use Rattle.file_changes.specs.ContinuousCharges.{coefficients_later, continued_step, less_first, less_step}
use Rattle.charge_laws.proofs.ChargedSteps.{nothing}

-- the coefficient of a power in what a step pays in a cell
abbrev pub paid_number : Grid → (month cell power : ℕ) → Step → Fraction
paid_number grid month cell power step = number_at (amount_cell grid step month cell) power

-- ---- a step that is charged

-- a number alone, moved and stretched
alone : (h b x : Fraction) (i : ℕ) → number_at (stretched h (shifted b (x ∷ []))) i ≡ number_at (x ∷ []) i
alone h b x zero = ring (h ∷ b ∷ x ∷ []) (hlevel terms) refl
alone h b x (suc i) = refl

-- a polynomial and a multiple of 1, moved and stretched
with_multiple : (h b c : Fraction) (f : List Fraction) (i : ℕ)
    → number_at (stretched h (shifted b (add_lists f (scale_list c (whole (pos 1) ∷ []))))) i
    ≡ number_at (stretched h (shifted b f)) i +ℚ c *ℚ number_at (whole (pos 1) ∷ []) i
with_multiple h b c f i =
    ap (λ p. number_at (stretched h p) i) (shifted-add_lists b f (scale_list c (whole (pos 1) ∷ []))
    ∙ ap (add_lists (shifted b f)) (shifted-scale_list b c (whole (pos 1) ∷ [])))
    ∙ ap (λ p. number_at p i) (stretched-add_lists h (shifted b f) (scale_list c (shifted b (whole (pos 1) ∷ [])))
    ∙ ap (add_lists (stretched h (shifted b f))) (stretched-scale_list h c (shifted b (whole (pos 1) ∷ []))))
    ∙ number_at-add_lists (stretched h (shifted b f)) (scale_list c (stretched h (shifted b (whole (pos 1) ∷ [])))) i
    ∙ ap (λ z. number_at (stretched h (shifted b f)) i +ℚ z)
    (number_at-scale_list c (stretched h (shifted b (whole (pos 1) ∷ []))) i
    ∙ ap (λ z. c *ℚ z) (alone h b (whole (pos 1)) i))

-- coefficients of which the first is less by an amount
less_as_sum : (amount : ℤ) (c : List ℤ) → 1 ≤ length c
    → all_over 1 (less_first amount c)
    ≡ add_lists (all_over 1 c) (scale_list (opposite (whole amount)) (whole (pos 1) ∷ []))
less_as_sum amount [] some = absurd (omega (arith, some))
less_as_sum amount (x ∷ c) some =
    ap₂ (λ z p. z ∷ p) (whole_sub x amount ∙ ring (whole x ∷ whole amount ∷ []) (hlevel terms) refl)
    (sym (add_lists-none (all_over 1 c)))

-- with a number's opposite, and as a difference
pub as_difference : (x y a : Fraction) → x +ℚ opposite a *ℚ y ≡ x -ℚ a *ℚ y
as_difference x y a = ring (x ∷ y ∷ a ∷ []) (hlevel terms) refl

pub less_step_pays : (grid : Grid) (month cell power : ℕ) (amount : ℤ) (step : Step) → 1 ≤ length step.c
    → paid_number grid month cell power (less_step amount step)
    ≡ paid_number grid month cell power step -ℚ whole amount *ℚ number_at (whole (pos 1) ∷ []) power
less_step_pays grid month cell power amount step some =
    ap (λ f. number_at (cell_polynomial grid f (month - step.from) cell) power) (less_as_sum amount step.c some)
    ∙ with_multiple _ _ (opposite (whole amount)) (all_over 1 step.c) power
    ∙ as_difference _ (number_at (whole (pos 1) ∷ []) power) (whole amount)

-- ---- a step that goes on

-- months and cells since a start, in years, by way of a month in between
in_cells : (direction : Direction) (cells before after all cell : ℕ) → all ≡ before + after
    → before * cells + origin_of direction (after * cells + cell) ≡ origin_of direction (all * cells + cell)
in_cells Forward cells before after all cell is = rw is (omega arith)
in_cells Backward cells before after all cell is = rw is (omega arith)

in_years : (direction : Direction) (cells before after all cell : ℕ) → 1 ≤ cells → all ≡ before + after
    → over (pos before) 12 +ℚ over (pos (origin_of direction (after * cells + cell))) (12 * cells)
    ≡ over (pos (origin_of direction (all * cells + cell))) (12 * cells)
in_years direction cells before after all cell some is =
    ap (λ z. z +ℚ over (pos (origin_of direction (after * cells + cell))) (12 * cells))
    (sym (over_scale (pos before) 12 cells (omega arith) some))
    ∙ sym (over_add (pos (before * cells)) (pos (origin_of direction (after * cells + cell))) (12 * cells))
    ∙ ap (λ n. over (pos n) (12 * cells)) (in_cells direction cells before after all cell is)

pub continued_step_pays : (grid : Grid) (month cell power until : ℕ) (step : Step) → 1 ≤ grid.cells → step.from ≤ until
    → until ≤ month → AreWholeLater (until - step.from) step.c
    → paid_number grid month cell power (continued_step until step) ≡ paid_number grid month cell power step
continued_step_pays grid month cell power until step some started order goes_on =
    ap (λ f. number_at (cell_polynomial grid f (month - until) cell) power) goes_on
    ∙ ap (λ f. number_at (stretched (over (sign_of grid.direction) (12 * grid.cells)) f) power)
    (shifted-shifted _ (over (pos (until - step.from)) 12) (all_over 1 step.c)
    ∙ ap (λ b. shifted b (all_over 1 step.c))
    (in_years grid.direction grid.cells (until - step.from) (month - until) (month - step.from) cell some
    (omega (arith, started, order))))

-- ---- a step that pays nothing goes on in whole numbers

abbrev zeros : List ℤ
zeros = pos 0 ∷ pos 0 ∷ pos 0 ∷ pos 0 ∷ []

later_zeros : (months : ℕ) → coefficients_later months zeros ≡ zeros
later_zeros months = simp (mul-zero, pow-zero)

moved_zeros : (b : Fraction) → all_over 1 zeros ≡ shifted b (all_over 1 zeros)
moved_zeros b =
    ap₂ (λ x p. x ∷ p) (ring (b ∷ []) (hlevel terms) refl)
    (ap₂ (λ x p. x ∷ p) (ring (b ∷ []) (hlevel terms) refl)
    (ap₂ (λ x p. x ∷ p) (ring (b ∷ []) (hlevel terms) refl)
    (ap (λ x. x ∷ []) (ring (b ∷ []) (hlevel terms) refl))))

pub one_step_is : (month : ℕ) → step_at (nothing ∷ []) month ≡ nothing
one_step_is month = grind arith

pub nothing_goes_on : (month : ℕ) → GoesOnWhole month (nothing ∷ [])
nothing_goes_on month = rw (one_step_is month)
    (ap (all_over 1) (later_zeros (month - 0)) ∙ moved_zeros (over (pos (month - 0)) 12))
