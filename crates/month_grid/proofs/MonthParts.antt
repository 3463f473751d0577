-- The cells of a month are its last cell, moved, and the month is its last cell, made longer.
use Rattle.std.specs.Prelude.{◌≡◌, ℕ, zero, suc, pos, negsuc, List, [], ◌∷◌, ◌<◌, ◌+◌, ◌-◌, ◌*◌, ◌*ℤ◌}
use Rattle.std.specs.Prelude.{Option, Some, None, option_map, unwrap_or}
use Rattle.std.proofs.Common.{refl, ap, sym, ◌∙◌, arith}
use Rattle.std.proofs.lemmas.Int.{ints}
use mathlib.Core.Path.{ap₂}
use Rattle.frac_laws.specs.Fraction.{Fraction, over, whole, ◌+ℚ◌, ◌*ℚ◌}
use Rattle.frac_laws.specs.Sums.{power}
use Rattle.frac_laws.specs.Lists.{number_at, scale_list}
use Rattle.frac_laws.specs.Polynomials.{shifted, stretched, all_over}
use Rattle.frac_laws.proofs.FractionTerms.{ring, terms}
use Rattle.frac_laws.proofs.Quotients.{over_is, over_equal_of_cross}
use Rattle.frac_laws.proofs.Polynomials.{shifted-scale_list, shifted-shifted, shifted-stretched, stretched-stretched}
use Rattle.frac_laws.proofs.Vectors.{number_at-scale_list}
use Rattle.step_laws.proofs.Grown.{whole_sum}
use Rattle.model_specs.specs.Curve.{Piece, piece_at}
use Rattle.model_specs.specs.Product.{transition_at}
use Rattle.model_specs.specs.Payments.{sojourn_at, sum_at}
use Rattle.model_specs.specs.Cells.{Backward, cells_of_32, whole_months, cell_polynomial, per_cell, curve_cell}
use Rattle.model_specs.specs.Cells.{transition_between}
use Rattle.polynomial_runs.specs.MonthPolynomials.{IsMagnified}
use Rattle.month_grid.specs.CellPolynomials.{CellsOfMonthsMove, MonthsAreLonger}

-- where x is 0 in a cell, from the month's last cell
moved-origin : (months cell : ℕ) → cell < 32 →
    over (pos (suc (months * 32 + 31))) 384 +ℚ over (negsuc 0) 384 *ℚ whole (pos (31 - cell))
    ≡ over (pos (suc (months * 32 + cell))) 384
moved-origin months cell low =
    ap (λ z. z +ℚ over (negsuc 0) 384 *ℚ whole (pos (31 - cell))) (over_is (pos (suc (months * 32 + 31))) 384
    ∙ ap (λ z. z *ℚ over (pos 1) 384) ((let e : suc (months * 32 + 31) ≡ suc (months * 32 + cell) + (31 - cell) =
    omega arith in ap (λ k. whole (pos k)) e) ∙ whole_sum (suc (months * 32 + cell)) (31 - cell)))
    ∙ ring (whole (pos (suc (months * 32 + cell))) ∷ whole (pos (31 - cell)) ∷ []) (hlevel terms) refl
    ∙ sym (over_is (pos (suc (months * 32 + cell))) 384)

moved-polynomial : (f : List Fraction) (months cell : ℕ) → cell < 32
    → cell_polynomial (cells_of_32 Backward) f months cell
    ≡ shifted (whole (pos (31 - cell))) (cell_polynomial (cells_of_32 Backward) f months 31)
moved-polynomial f months cell low = sym
    (shifted-stretched (whole (pos (31 - cell))) (over (negsuc 0) 384)
    (shifted (over (pos (suc (months * 32 + 31))) 384) f)
    ∙ ap (stretched (over (negsuc 0) 384)) (shifted-shifted (over (negsuc 0) 384 *ℚ whole (pos (31 - cell)))
    (over (pos (suc (months * 32 + 31))) 384) f
    ∙ ap (λ o. shifted o f) (moved-origin months cell low)))

moved-rate : (f : List Fraction) (months cell : ℕ) → cell < 32
    → per_cell (cells_of_32 Backward) (cell_polynomial (cells_of_32 Backward) f months cell)
    ≡ shifted (whole (pos (31 - cell)))
    (per_cell (cells_of_32 Backward) (cell_polynomial (cells_of_32 Backward) f months 31))
moved-rate f months cell low = ap (scale_list (over (pos 1) 384)) (moved-polynomial f months cell low)
    ∙ sym (shifted-scale_list (whole (pos (31 - cell))) (over (pos 1) 384)
    (cell_polynomial (cells_of_32 Backward) f months 31))

moved-option : (b : Fraction) (found : Option ℕ) (f g : ℕ → List Fraction) → ((e : ℕ) → g e ≡ shifted b (f e))
    → unwrap_or (option_map g found) [] ≡ shifted b (unwrap_or (option_map f found) [])
moved-option b None f g h = refl
moved-option b (Some e) f g h = h e

pub cells_of_months_move : CellsOfMonthsMove
cells_of_months_move product plan month cell low = record {
  states = refl;
  interest = curve product.interest;
  intensity = λ i j. moved-option _ (transition_between product i j) _ _
      (λ e. curve (transition_at product e).rate);
  sojourn = λ i. moved-rate (all_over 1 (sojourn_at plan i month).c) (month - (sojourn_at plan i month).from) cell low;
  sum = λ i j. moved-option _ (transition_between product i j) _ _
      (λ e. moved-polynomial (all_over 1 (sum_at plan e month).c) (month - (sum_at plan e month).from) cell low);
}
  where
    curve : (pieces : List Piece) → curve_cell (cells_of_32 Backward) product.den pieces month cell
        ≡ shifted (whole (pos (31 - cell))) (curve_cell (cells_of_32 Backward) product.den pieces month 31)
    curve pieces = moved-rate (all_over product.den (piece_at pieces month).c)
        (month - (piece_at pieces month).from) cell low

-- longer
number_at-stretched : (w : Fraction) (p : List Fraction) (m : ℕ)
    → number_at (stretched w p) m ≡ power w m *ℚ number_at p m
number_at-stretched w [] m = ring (power w m ∷ []) (hlevel terms) refl
number_at-stretched w (c ∷ p) zero = ring (c ∷ []) (hlevel terms) refl
number_at-stretched w (c ∷ p) (suc m) = number_at-scale_list w (stretched w p) m
    ∙ ap (λ z. w *ℚ z) (number_at-stretched w p m)
    ∙ ring (w ∷ power w m ∷ number_at p m ∷ []) (hlevel terms) refl

longer-origin : (months : ℕ) → over (pos (suc (months * 1 + 0))) 12 ≡ over (pos (suc (months * 32 + 31))) 384
longer-origin months = over_equal_of_cross _ _ 12 384 (omega arith) (omega arith) (cross months)
  where
    cross : (months : ℕ) → pos (suc (months * 1 + 0)) *ℤ pos 384 ≡ pos (suc (months * 32 + 31)) *ℤ pos 12
    cross months = omega (arith, ints)

longer-polynomial : (f : List Fraction) (months m : ℕ)
    → number_at (cell_polynomial (whole_months Backward) f months 0) m
    ≡ power (whole (pos 32)) m *ℚ number_at (cell_polynomial (cells_of_32 Backward) f months 31) m
longer-polynomial f months m =
    ap₂ (λ h o. number_at (stretched h (shifted o f)) m) (ring [] (hlevel terms) refl) (longer-origin months)
    ∙ ap (λ l. number_at l m) (sym (stretched-stretched (whole (pos 32)) (over (negsuc 0) 384)
    (shifted (over (pos (suc (months * 32 + 31))) 384) f)))
    ∙ number_at-stretched (whole (pos 32)) (cell_polynomial (cells_of_32 Backward) f months 31) m

longer-rate : (f : List Fraction) (months : ℕ)
    → IsMagnified (whole (pos 32))
    (per_cell (cells_of_32 Backward) (cell_polynomial (cells_of_32 Backward) f months 31))
    (per_cell (whole_months Backward) (cell_polynomial (whole_months Backward) f months 0))
longer-rate f months m =
    number_at-scale_list (over (pos 1) 12) (cell_polynomial (whole_months Backward) f months 0) m
    ∙ ap (λ z. over (pos 1) 12 *ℚ z) (longer-polynomial f months m)
    ∙ ring (power (whole (pos 32)) m ∷ number_at (cell_polynomial (cells_of_32 Backward) f months 31) m ∷ [])
    (hlevel terms) refl
    ∙ ap (λ z. power (whole (pos 32)) (suc m) *ℚ z)
    (sym (number_at-scale_list (over (pos 1) 384) (cell_polynomial (cells_of_32 Backward) f months 31) m))

longer-option : (w : Fraction) (m : ℕ) (found : Option ℕ) (f g : ℕ → List Fraction)
    → ((e : ℕ) → number_at (g e) m ≡ w *ℚ number_at (f e) m)
    → number_at (unwrap_or (option_map g found) []) m ≡ w *ℚ number_at (unwrap_or (option_map f found) []) m
longer-option w m None f g h = ring (w ∷ []) (hlevel terms) refl
longer-option w m (Some e) f g h = h e

pub months_are_longer : MonthsAreLonger
months_are_longer product plan month = record {
  states = refl;
  interest = curve product.interest;
  intensity = λ i j m. longer-option _ m (transition_between product i j) _ _
      (λ e. curve (transition_at product e).rate m);
  sojourn = λ i. longer-rate (all_over 1 (sojourn_at plan i month).c) (month - (sojourn_at plan i month).from);
  sum = λ i j m. longer-option _ m (transition_between product i j) _ _
      (λ e. longer-polynomial (all_over 1 (sum_at plan e month).c) (month - (sum_at plan e month).from) m);
}
  where
    curve : (pieces : List Piece) → IsMagnified (whole (pos 32))
        (curve_cell (cells_of_32 Backward) product.den pieces month 31)
        (curve_cell (whole_months Backward) product.den pieces month 0)
    curve pieces = longer-rate (all_over product.den (piece_at pieces month).c) (month - (piece_at pieces month).from)
