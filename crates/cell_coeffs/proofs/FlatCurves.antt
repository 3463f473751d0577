-- Polynomials that are constant stay so when they are shifted, stretched and scaled.
use Rattle.std.specs.Prelude.{◌≡◌, ℕ, zero, suc, pos, ◌==◌, true, ℤ, unsigned_abs, List, [], ◌∷◌, length}
use Rattle.std.specs.Prelude.{slice_index_or}
use Rattle.std.proofs.Common.{refl, ap, ◌∙◌, arith, inl, inr}
use Rattle.std.proofs.lemmas.Bool.{cases_lt}
use Rattle.std.proofs.lemmas.Int.{ints}
use Rattle.frac_laws.specs.Fraction.{Fraction, over, whole, ◌+ℚ◌, ◌*ℚ◌}
use Rattle.frac_laws.specs.Lists.{number_at, scale_list}
use Rattle.frac_laws.specs.Polynomials.{times_linear, shifted, stretched, all_over}
use Rattle.frac_laws.proofs.FractionTerms.{ring, terms}
use Rattle.frac_laws.proofs.Vectors.{number_at-add_lists, number_at-scale_list}
use Rattle.frac_laws.proofs.QuotientFacts.{over-zero}
use Rattle.model_specs.specs.Curve.{Piece, piece_at}
use Rattle.model_specs.specs.Product.{Step}
use Rattle.model_specs.specs.Cells.{Grid, curve_cell, amount_cell}
use Rattle.model_specs.specs.Stretches.{is_constant}
use Rattle.cell_coeffs.proofs.Numerators.{at-all_over}
use Rattle.whole_laws.proofs.Members.{each_passes, past_end}

-- no number but 0, and none but the first
abbrev pub IsNone : List Fraction → Type 0
IsNone p = (m : ℕ) → number_at p m ≡ whole (pos 0)

abbrev pub IsFlat : List Fraction → Type 0
IsFlat p = (m : ℕ) → number_at p (suc m) ≡ whole (pos 0)

none_times : (c x : Fraction) → x ≡ whole (pos 0) → c *ℚ x ≡ whole (pos 0)
none_times c x is = rw is (ring (c ∷ []) (hlevel terms) refl)

none_plus : (x y : Fraction) → x ≡ whole (pos 0) → y ≡ whole (pos 0) → x +ℚ y ≡ whole (pos 0)
none_plus x y first second = rw (first, second) (ring [] (hlevel terms) refl)

scaled_none : (c : Fraction) (p : List Fraction) → IsNone p → IsNone (scale_list c p)
scaled_none c p none m = number_at-scale_list c p m ∙ none_times c (number_at p m) (none m)

pub scaled_flat : (c : Fraction) (p : List Fraction) → IsFlat p → IsFlat (scale_list c p)
scaled_flat c p flat m = number_at-scale_list c p (suc m) ∙ none_times c (number_at p (suc m)) (flat m)

pub times_none : (b : Fraction) (p : List Fraction) → IsNone p → IsNone (times_linear b p)
times_none b p none m =
    number_at-add_lists (scale_list b p) (whole (pos 0) ∷ p) m
    ∙ none_plus (number_at (scale_list b p) m) (number_at (whole (pos 0) ∷ p) m) (scaled_none b p none m) (later m)
  where
    later : (m : ℕ) → number_at (whole (pos 0) ∷ p) m ≡ whole (pos 0)
    later zero = refl
    later (suc m) = none m

pub shifted_none : (b : Fraction) (p : List Fraction) → IsNone p → IsNone (shifted b p)
shifted_none b [] none m = refl
shifted_none b (c ∷ p) none m =
    number_at-add_lists (c ∷ []) (times_linear b (shifted b p)) m
    ∙ none_plus (number_at (c ∷ []) m) (number_at (times_linear b (shifted b p)) m) (first m (none 0))
    (times_none b (shifted b p) (shifted_none b p (λ k. none (suc k))) m)
  where
    first : (m : ℕ) → c ≡ whole (pos 0) → number_at (c ∷ []) m ≡ whole (pos 0)
    first zero is = is
    first (suc m) is = refl

shifted_flat : (b : Fraction) (p : List Fraction) → IsFlat p → IsFlat (shifted b p)
shifted_flat b [] flat m = refl
shifted_flat b (c ∷ p) flat m =
    number_at-add_lists (c ∷ []) (times_linear b (shifted b p)) (suc m)
    ∙ none_plus (number_at (c ∷ []) (suc m)) (number_at (times_linear b (shifted b p)) (suc m)) refl
    (times_none b (shifted b p) (shifted_none b p flat) (suc m))

stretched_none : (h : Fraction) (p : List Fraction) → IsNone p → IsNone (stretched h p)
stretched_none h [] none m = refl
stretched_none h (c ∷ p) none zero = none 0
stretched_none h (c ∷ p) none (suc m) =
    scaled_none h (stretched h p) (stretched_none h p (λ k. none (suc k))) m

stretched_flat : (h : Fraction) (p : List Fraction) → IsFlat p → IsFlat (stretched h p)
stretched_flat h [] flat m = refl
stretched_flat h (c ∷ p) flat m = scaled_none h (stretched h p) (stretched_none h p flat) m

none_of_test : (z : ℤ) → (unsigned_abs z == 0) ≡ true → z ≡ pos 0
none_of_test z passes = grind (arith, ints)

constant_later : (c : List ℤ) → is_constant c ≡ true → (m : ℕ) → slice_index_or c (suc m) (pos 0) ≡ pos 0
constant_later [] constant m = refl
constant_later (x ∷ xs) constant m = elim (cases_lt m (length xs)) [
  | inl b ↦ none_of_test (slice_index_or xs m (pos 0))
      (each_passes (λ z. unsigned_abs z == 0) xs constant m (pos 0) b)
  | inr past ↦ past_end xs m past
]

pub over_flat : (d : ℕ) (c : List ℤ) → is_constant c ≡ true → IsFlat (all_over d c)
over_flat d c constant m =
    at-all_over d c (suc m) ∙ ap (λ z. over z d) (constant_later c constant m) ∙ over-zero d

-- a curve or a payment of one coefficient is constant in each cell
pub amount_flat : (grid : Grid) (step : Step) (month cell : ℕ) → is_constant step.c ≡ true
    → IsFlat (amount_cell grid step month cell)
amount_flat grid step month cell constant =
    stretched_flat _ _ (shifted_flat _ (all_over 1 step.c) (over_flat 1 step.c constant))

pub curve_flat : (grid : Grid) (den : ℕ) (pieces : List Piece) (month cell : ℕ)
    → is_constant (piece_at pieces month).c ≡ true → IsFlat (curve_cell grid den pieces month cell)
curve_flat grid den pieces month cell constant =
    let c = (piece_at pieces month).c in
    scaled_flat _ _ (stretched_flat _ _ (shifted_flat _ (all_over den c) (over_flat den c constant)))
