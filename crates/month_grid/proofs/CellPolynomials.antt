-- Thiele's system of a cell has the polynomials of its curves and payments.
use Rattle.std.specs.Prelude.{◌≡◌, ℕ, suc, pos, negsuc, List, [], ◌∷◌, ◌≤◌}
use Rattle.std.proofs.Common.{refl, ap, sym, subst, ◌∙◌, inl, inr, arith}
use Rattle.std.proofs.lemmas.Bool.Decides.{eqb_tells}
use mathlib.Core.Path.{ap₂, fun_ext}
use Rattle.frac_laws.specs.Fraction.{Fraction, whole, opposite, ◌+ℚ◌, ◌*ℚ◌}
use Rattle.frac_laws.specs.Sums.{sum_to, power}
use Rattle.frac_laws.specs.Convolution.{convolution}
use Rattle.frac_laws.specs.Lists.{number_at, vector_at, add_lists, scale_list}
use Rattle.frac_laws.specs.ListProducts.{product_of_lists}
use Rattle.frac_laws.specs.Polynomials.{shifted}
use Rattle.frac_laws.proofs.FractionTerms.{ring, terms}
use Rattle.frac_laws.proofs.Sums.{sum_to_scale, sum_to_zeros}
use Rattle.frac_laws.proofs.ListProducts.{number_at-product}
use Rattle.frac_laws.proofs.Polynomials.{shifted-add_lists, shifted-scale_list}
use Rattle.frac_laws.proofs.Lengths.{number_at-past}
use Rattle.frac_laws.proofs.Vectors.{number_at-add_lists, number_at-scale_list}
use Rattle.model_specs.specs.Cells.{CellCurves}
use Rattle.model_specs.specs.Systems.{thiele_system, interest_at, intensity_at, sojourn_rate_at, leaving_at}
use Rattle.model_specs.specs.Systems.{sum_paid_at, first_payment_at, backward_entry, where_same}
use Rattle.model_laws.specs.Equations.{IsQuintic}
use Rattle.model_laws.proofs.CellEntries.{systems_keep_states}
use Rattle.model_laws.proofs.CellTables.{image-table, number-table, entry-zero, convolution-past}
use Rattle.cell_bounds.specs.ScaledSystems.{scaled_system}
use Rattle.moment_laws.proofs.ScaledRuns.{free-scaled}
use Rattle.polynomial_runs.specs.PolynomialSystems.{HasPolynomials, added}
use Rattle.polynomial_runs.specs.MonthPolynomials.{IsMagnified}
use Rattle.month_grid.specs.CellPolynomials.{diagonal, entry_polynomial, free_polynomial, IsMoved}
use Rattle.month_grid.specs.CellPolynomials.{CellsHavePolynomials, MovedCellsHavePolynomials, LongerCellsAreMagnified}
use Rattle.shift_laws.proofs.Shifts.{products_shift}
use Rattle.polynomial_runs.proofs.Tables.{number_at-added, shifted-added}
use Rattle.polynomial_runs.proofs.MonthValues.{magnified}
use Rattle.sweep_laws.proofs.ScaledSteps.{scaled_keeps}

number_at-diagonal : (i j : ℕ) (p : List Fraction) (m : ℕ)
    → number_at (diagonal i j p) m ≡ where_same i j (number_at p m)
number_at-diagonal i j p m = elim (eqb_tells i j) [ inl same ↦ rw same.0 refl | inr other ↦ rw other.0 refl ]

shifted-diagonal : (b : Fraction) (i j : ℕ) (p : List Fraction)
    → shifted b (diagonal i j p) ≡ diagonal i j (shifted b p)
shifted-diagonal b i j p = elim (eqb_tells i j) [ inl same ↦ rw same.0 refl | inr other ↦ rw other.0 refl ]

where_same-scale : (i j : ℕ) (c x : Fraction) → where_same i j (c *ℚ x) ≡ c *ℚ where_same i j x
where_same-scale i j c x = elim (eqb_tells i j) [
  | inl same ↦ rw same.0 refl
  | inr other ↦ rw other.0 (ring (c ∷ []) (hlevel terms) refl)
]

-- the numbers of the two polynomials
number_at-entry : (cell : CellCurves) (i j m : ℕ)
    → number_at (entry_polynomial cell i j) m ≡ backward_entry cell 1 m i j
number_at-entry cell i j m = number_at-add_lists (cell.intensity i j) (diagonal i j on) m
    ∙ ap (λ z. number_at (cell.intensity i j) m +ℚ z) (number_at-diagonal i j on m
    ∙ ap (where_same i j) (number_at-scale_list (whole (negsuc 0)) (add_lists cell.interest leaving) m
    ∙ ap (λ z. whole (negsuc 0) *ℚ z) (number_at-add_lists cell.interest leaving m
    ∙ ap (λ z. number_at cell.interest m +ℚ z) (number_at-added cell.states (cell.intensity i) m))
    ∙ ring (interest_at cell m ∷ leaving_at cell i m ∷ []) (hlevel terms) refl))
  where
    leaving : List Fraction
    leaving = added cell.states (cell.intensity i)

    on : List Fraction
    on = scale_list (whole (negsuc 0)) (add_lists cell.interest leaving)

number_at-free : (c : Fraction) (cell : CellCurves) (i m : ℕ) → number_at (free_polynomial c cell i) m
    ≡ c *ℚ (sojourn_rate_at cell i m +ℚ sum_to cell.states (λ j. first_payment_at cell i j m))
number_at-free c cell i m = number_at-scale_list c (add_lists (cell.sojourn i) paid) m
    ∙ ap (λ z. c *ℚ z) (number_at-add_lists (cell.sojourn i) paid m
    ∙ ap (λ z. sojourn_rate_at cell i m +ℚ z) (number_at-added cell.states _ m
    ∙ ap (sum_to cell.states) (fun_ext (λ j. number_at-product (cell.intensity i j) (cell.sum i j) m))))
  where
    paid : List Fraction
    paid = added cell.states (λ j. product_of_lists (cell.intensity i j) (cell.sum i j))

-- what is past the degrees is 0
entry-past : (cell : CellCurves) (m i j : ℕ) → IsQuintic cell → 6 ≤ m → backward_entry cell 1 m i j ≡ whole (pos 0)
entry-past cell m i j quintic past =
    entry-zero i j _ _ (number_at-past (cell.intensity i j) 6 m (quintic.intensity i j) past)
    (rw (
      number_at-past cell.interest 6 m quintic.interest past,
      sum_to_zeros cell.states (λ j b. number_at-past (cell.intensity i j) 6 m (quintic.intensity i j) past),
    ) (ring [] (hlevel terms) refl))

free-past : (cell : CellCurves) (m i : ℕ) → IsQuintic cell → 9 ≤ m
    → sojourn_rate_at cell i m +ℚ sum_to cell.states (λ j. first_payment_at cell i j m) ≡ whole (pos 0)
free-past cell m i quintic past = rw (
  number_at-past (cell.sojourn i) 4 m (quintic.sojourn i) (omega arith),
  sum_to_zeros cell.states (λ j b. convolution-past 6 4 m (intensity_at cell i j) (sum_paid_at cell i j)
      (λ a c. number_at-past (cell.intensity i j) 6 a (quintic.intensity i j) c)
      (λ a c. number_at-past (cell.sum i j) 4 a (quintic.sum i j) c) (omega arith)),
) (ring [] (hlevel terms) refl)

-- numbers that are those of the system
by-numbers : (c : Fraction) (cell : CellCurves) (e : ℕ → ℕ → List Fraction) (g : ℕ → List Fraction) → IsQuintic cell
    → ((i j m : ℕ) → number_at (e i j) m ≡ backward_entry cell 1 m i j)
    → ((i m : ℕ) → number_at (g i) m
    ≡ c *ℚ (sojourn_rate_at cell i m +ℚ sum_to cell.states (λ j. first_payment_at cell i j m)))
    → HasPolynomials (scaled_system c (thiele_system cell)) cell.states e g
by-numbers c cell e g quintic entries frees = record {
  entries = λ m i v low. image-table cell.states 6 (backward_entry cell 1) m i v low
      (λ j past. entry-past cell m i j quintic past)
      ∙ ap (sum_to cell.states) (fun_ext (λ j. ap (λ z. z *ℚ number_at v j) (sym (entries i j m))));
  frees = λ m i low. ap (λ v. number_at v i) (free-scaled c (thiele_system cell).free m)
      ∙ number_at-scale_list c (vector_at (thiele_system cell).free m) i
      ∙ ap (λ z. c *ℚ z) (number-table cell.states 9 (λ m i. sojourn_rate_at cell i m
      +ℚ sum_to cell.states (λ j. first_payment_at cell i j m)) m i low (λ past. free-past cell m i quintic past))
      ∙ sym (frees i m);
  dimension = refl;
  keeps = scaled_keeps c (thiele_system cell) (systems_keep_states cell).thiele;
}

pub cells_have_polynomials : CellsHavePolynomials
cells_have_polynomials c cell quintic =
    by-numbers c cell (entry_polynomial cell) (free_polynomial c cell) quintic (number_at-entry cell)
    (number_at-free c cell)

-- moved cells
moved-entry : (b : Fraction) (cell moved : CellCurves) (i j : ℕ) → IsMoved b cell moved
    → shifted b (entry_polynomial cell i j) ≡ entry_polynomial moved i j
moved-entry b cell moved i j h = shifted-add_lists b (cell.intensity i j) (diagonal i j on)
    ∙ ap₂ add_lists (sym (h.intensity i j)) (shifted-diagonal b i j on
    ∙ ap (diagonal i j) (shifted-scale_list b (whole (negsuc 0)) (add_lists cell.interest leaving)
    ∙ ap (scale_list (whole (negsuc 0))) (shifted-add_lists b cell.interest leaving
    ∙ ap₂ add_lists (sym h.interest) (shifted-added b cell.states (cell.intensity i)
    ∙ ap₂ added (sym h.states) (fun_ext (λ k. sym (h.intensity i k)))))))
  where
    leaving : List Fraction
    leaving = added cell.states (cell.intensity i)

    on : List Fraction
    on = scale_list (whole (negsuc 0)) (add_lists cell.interest leaving)

moved-free : (c b : Fraction) (cell moved : CellCurves) (i m : ℕ) → IsMoved b cell moved
    → number_at (shifted b (free_polynomial c cell i)) m
    ≡ c *ℚ (sojourn_rate_at moved i m +ℚ sum_to moved.states (λ j. first_payment_at moved i j m))
moved-free c b cell moved i m h =
    ap (λ l. number_at l m) (shifted-scale_list b c (add_lists (cell.sojourn i) paid))
    ∙ number_at-scale_list c (shifted b (add_lists (cell.sojourn i) paid)) m
    ∙ ap (λ z. c *ℚ z) (ap (λ l. number_at l m) (shifted-add_lists b (cell.sojourn i) paid)
    ∙ number_at-add_lists (shifted b (cell.sojourn i)) (shifted b paid) m
    ∙ ap₂ ◌+ℚ◌ (ap (λ l. number_at l m) (sym (h.sojourn i)))
    (ap (λ l. number_at l m) (shifted-added b cell.states (λ j. product_of_lists (cell.intensity i j) (cell.sum i j)))
    ∙ number_at-added cell.states (λ j. shifted b (product_of_lists (cell.intensity i j) (cell.sum i j))) m
    ∙ ap₂ sum_to (sym h.states) (fun_ext (λ j. products_shift b (cell.intensity i j) (cell.sum i j) m
    ∙ ap₂ (λ p q. convolution (number_at p) (number_at q) m) (sym (h.intensity i j)) (sym (h.sum i j))))))
  where
    paid : List Fraction
    paid = added cell.states (λ j. product_of_lists (cell.intensity i j) (cell.sum i j))

pub moved_cells_have_polynomials : MovedCellsHavePolynomials
moved_cells_have_polynomials c b cell moved quintic h = subst
    (λ d. HasPolynomials (scaled_system c (thiele_system moved)) d (λ i j. shifted b (entry_polynomial cell i j))
    (λ i. shifted b (free_polynomial c cell i))) h.states
    (by-numbers c moved _ _ quintic
    (λ i j m. ap (λ l. number_at l m) (moved-entry b cell moved i j h) ∙ number_at-entry moved i j m)
    (λ i m. moved-free c b cell moved i m h))

-- longer cells
magnified-sum : (w : Fraction) (m d : ℕ) (f h : ℕ → Fraction) → ((j : ℕ) → h j ≡ power w (suc m) *ℚ f j)
    → sum_to d h ≡ power w (suc m) *ℚ sum_to d f
magnified-sum w m d f h e = ap (sum_to d) (fun_ext e) ∙ sum_to_scale d (power w (suc m)) f

pub longer_cells_are_magnified : LongerCellsAreMagnified
longer_cells_are_magnified c w cell long h = (entries, frees)
  where
    entries : (i j : ℕ) → IsMagnified w (entry_polynomial cell i j) (entry_polynomial long i j)
    entries i j m = number_at-entry long i j m
        ∙ ap₂ (λ x z. x +ℚ where_same i j z) (h.intensity i j m)
        (ap₂ (λ x z. opposite (whole (pos 1) *ℚ x +ℚ z)) (h.interest m)
        (ap (λ d. sum_to d (λ j. intensity_at long i j m)) h.states
        ∙ magnified-sum w m cell.states (λ k. intensity_at cell i k m) (λ k. intensity_at long i k m)
        (λ k. h.intensity i k m))
        ∙ ring (power w (suc m) ∷ interest_at cell m ∷ leaving_at cell i m ∷ []) (hlevel terms) refl)
        ∙ ap (λ z. power w (suc m) *ℚ intensity_at cell i j m +ℚ z) (where_same-scale i j (power w (suc m))
        (opposite (whole (pos 1) *ℚ interest_at cell m +ℚ leaving_at cell i m)))
        ∙ ring (power w (suc m) ∷ intensity_at cell i j m
        ∷ where_same i j (opposite (whole (pos 1) *ℚ interest_at cell m +ℚ leaving_at cell i m)) ∷ [])
        (hlevel terms) refl
        ∙ ap (λ z. power w (suc m) *ℚ z) (sym (number_at-entry cell i j m))

    frees : (i : ℕ) → IsMagnified w (free_polynomial c cell i) (free_polynomial c long i)
    frees i m = number_at-free c long i m
        ∙ ap₂ (λ x z. c *ℚ (x +ℚ z)) (h.sojourn i m)
        (ap (λ d. sum_to d (λ j. first_payment_at long i j m)) h.states
        ∙ magnified-sum w m cell.states (λ j. first_payment_at cell i j m) (λ j. first_payment_at long i j m)
        (λ j. magnified w (intensity_at cell i j) (intensity_at long i j) (sum_paid_at cell i j)
        (sum_paid_at long i j) m (h.intensity i j) (λ k b. h.sum i j k)))
        ∙ ring (c ∷ power w (suc m) ∷ sojourn_rate_at cell i m
        ∷ sum_to cell.states (λ j. first_payment_at cell i j m) ∷ []) (hlevel terms) refl
        ∙ ap (λ z. power w (suc m) *ℚ z) (sym (number_at-free c cell i m))
