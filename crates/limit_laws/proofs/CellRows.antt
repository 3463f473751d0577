-- The rows of a cell's systems, applied to a sequence of vectors, as convolutions of the cell's curves.
use Rattle.std.specs.Prelude.{◌≡◌, ℕ, suc, pos, map, [], ◌∷◌, ◌-◌, ◌<◌, ◌≤◌}
use Rattle.std.proofs.Common.{refl, ap, sym, ◌∙◌, arith}
use mathlib.Core.Path.{ap₂}
use Rattle.frac_laws.specs.Fraction.{Fraction, whole, opposite, ◌+ℚ◌, ◌-ℚ◌, ◌*ℚ◌}
use Rattle.frac_laws.specs.Sums.{sum_to}
use Rattle.frac_laws.specs.Convolution.{convolution}
use Rattle.frac_laws.specs.Lists.{Vector, number_at, vector_at, matrix_at, scale_list, scale_matrix, image}
use Rattle.frac_laws.proofs.FractionTerms.{ring, terms}
use Rattle.frac_laws.proofs.Sums.{sum_to_ext, sum_to_zeros, sum_to_add, sum_to_scale, sum_to_exchange}
use Rattle.frac_laws.proofs.Vectors.{number_at-scale_list, image-scale}
use Rattle.frac_laws.proofs.Lengths.{number_at-past}
use Rattle.cell_laws.specs.Recurrence.{convolved}
use Rattle.whole_laws.specs.Whole.{list_of}
use Rattle.whole_laws.proofs.Members.{at-map}
use Rattle.model_specs.specs.Cells.{CellCurves}
use Rattle.model_specs.specs.Systems.{interest_at, intensity_at, sojourn_rate_at, sum_paid_at, leaving_at, matrix_of}
use Rattle.model_specs.specs.Systems.{first_payment_at, second_payment_at, backward_entry, coupling_entry, where_same}
use Rattle.model_specs.specs.Systems.{thiele_system, second_moment_system, norberg_pair, kolmogorov_system}
use Rattle.model_laws.specs.Equations.{IsQuintic}
use Rattle.model_laws.proofs.CellTables.{image-table, number-table, row-diagonal, entry-zero}
use Rattle.model_laws.proofs.CellTables.{convolution-past}
use Rattle.moment_laws.proofs.ScaledRuns.{free-scaled}
use Rattle.limit_laws.proofs.PolynomialNumbers.{row_sums}

-- curves of at most six coefficients and payments of at most four
module _ (cell : CellCurves) (quintic : IsQuintic cell) where
  -- what is past the degree is 0
  interest-past : (m : ℕ) → 6 ≤ m → interest_at cell m ≡ whole (pos 0)
  interest-past m past = number_at-past cell.interest 6 m quintic.interest past

  intensity-past : (i j m : ℕ) → 6 ≤ m → intensity_at cell i j m ≡ whole (pos 0)
  intensity-past i j m past = number_at-past (cell.intensity i j) 6 m (quintic.intensity i j) past

  leaving-past : (i m : ℕ) → 6 ≤ m → leaving_at cell i m ≡ whole (pos 0)
  leaving-past i m past = sum_to_zeros cell.states (λ j b. intensity-past i j m past)

  sojourn-past : (i m : ℕ) → 4 ≤ m → sojourn_rate_at cell i m ≡ whole (pos 0)
  sojourn-past i m past = number_at-past (cell.sojourn i) 4 m (quintic.sojourn i) past

  sum-past : (i j m : ℕ) → 4 ≤ m → sum_paid_at cell i j m ≡ whole (pos 0)
  sum-past i j m past = number_at-past (cell.sum i j) 4 m (quintic.sum i j) past

  first-past : (i j m : ℕ) → 9 ≤ m → first_payment_at cell i j m ≡ whole (pos 0)
  first-past i j m past = convolution-past 6 4 m (intensity_at cell i j) (sum_paid_at cell i j)
      (λ a b. intensity-past i j a b) (λ a b. sum-past i j a b) (omega (arith, past))

  second-past : (i j m : ℕ) → 12 ≤ m → second_payment_at cell i j m ≡ whole (pos 0)
  second-past i j m past = convolution-past 9 4 m (first_payment_at cell i j) (sum_paid_at cell i j)
      (λ a b. first-past i j a b) (λ a b. sum-past i j a b) (omega (arith, past))

  -- the sums of a backward matrix with a sequence f j m = number j of x m
  pub backward_sums : (times : ℕ) (x : ℕ → Vector) (f : ℕ → ℕ → Fraction) (k i : ℕ) → i < cell.states
      → ((j m : ℕ) → f j m ≡ number_at (x m) j)
      → convolved (list_of 6 (λ m. matrix_of cell.states (backward_entry cell times m))) x k i
      ≡ sum_to cell.states (λ j. convolution (intensity_at cell i j) (f j) k)
      -ℚ convolution (λ m. whole (pos times) *ℚ interest_at cell m +ℚ leaving_at cell i m) (f i) k
  backward_sums times x f k i within same =
      sum_to_ext (suc k) (λ m _. row m (x (k - m))
      ∙ ap₂ (λ a b. opposite (whole (pos times) *ℚ interest_at cell m +ℚ leaving_at cell i m) *ℚ a +ℚ b)
      (sym (same i (k - m)))
      (sum_to_ext cell.states (λ j _. ap (λ z. intensity_at cell i j m *ℚ z) (sym (same j (k - m))))))
      ∙ row_sums cell.states (λ m. whole (pos times) *ℚ interest_at cell m +ℚ leaving_at cell i m) (f i)
      (intensity_at cell i) f k
    where
      row : (m : ℕ) (v : Vector)
          → number_at (image (matrix_at (list_of 6 (λ m. matrix_of cell.states (backward_entry cell times m))) m) v) i
          ≡ opposite (whole (pos times) *ℚ interest_at cell m +ℚ leaving_at cell i m) *ℚ number_at v i
          +ℚ sum_to cell.states (λ j. intensity_at cell i j m *ℚ number_at v j)
      row m v = image-table cell.states 6 (λ k. backward_entry cell times k) m i v within (λ j past.
          entry-zero i j _ _ (intensity-past i j m past)
          (rw (interest-past m past, leaving-past i m past) (ring (whole (pos times) ∷ []) (hlevel terms) refl)))
          ∙ row-diagonal cell.states i (λ j. intensity_at cell i j m) (λ j. number_at v j) _ within

  -- and of the forward matrix
  pub forward_sums : (x : ℕ → Vector) (f : ℕ → ℕ → Fraction) (k j : ℕ) → j < cell.states
      → ((i m : ℕ) → f i m ≡ number_at (x m) i)
      → convolved (kolmogorov_system cell).matrices x k j
      ≡ sum_to cell.states (λ i. convolution (intensity_at cell i j) (f i) k)
      -ℚ convolution (leaving_at cell j) (f j) k
  forward_sums x f k j within same =
      sum_to_ext (suc k) (λ m _. row m (x (k - m))
      ∙ ap₂ (λ a b. opposite (leaving_at cell j m) *ℚ a +ℚ b) (sym (same j (k - m)))
      (sum_to_ext cell.states (λ i _. ap (λ z. intensity_at cell i j m *ℚ z) (sym (same i (k - m))))))
      ∙ row_sums cell.states (leaving_at cell j) (f j) (λ i. intensity_at cell i j) f k
    where
      row : (m : ℕ) (v : Vector) → number_at (image (matrix_at (kolmogorov_system cell).matrices m) v) j
          ≡ opposite (leaving_at cell j m) *ℚ number_at v j
          +ℚ sum_to cell.states (λ i. intensity_at cell i j m *ℚ number_at v i)
      row m v = image-table cell.states 6
          (λ k j i. intensity_at cell i j k +ℚ where_same j i (opposite (leaving_at cell j k))) m j v within
          (λ i past. entry-zero j i _ _ (intensity-past i j m past)
          (rw (leaving-past j m past) (ring [] (hlevel terms) refl)))
          ∙ row-diagonal cell.states j (λ i. intensity_at cell i j m) (λ i. number_at v i) _ within

  -- and of the scaled coupling
  pub coupling_sums : (c : Fraction) (x : ℕ → Vector) (f : ℕ → ℕ → Fraction) (k i : ℕ) → i < cell.states
      → ((j m : ℕ) → f j m ≡ number_at (x m) j)
      → convolved (map (scale_matrix c) (norberg_pair cell).coupling) x k i
      ≡ c *ℚ (whole (pos 2) *ℚ convolution (sojourn_rate_at cell i) (f i) k
      +ℚ whole (pos 2) *ℚ sum_to cell.states (λ j. convolution (first_payment_at cell i j) (f j) k))
  coupling_sums c x f k i within same =
      sum_to_ext (suc k) (λ m _. ap (λ a. number_at (image a (x (k - m))) i)
      (at-map (scale_matrix c) (norberg_pair cell).coupling m [])
      ∙ image-scale c (matrix_at (norberg_pair cell).coupling m) (x (k - m)) i
      ∙ ap (λ z. c *ℚ z) (row m (x (k - m))
      ∙ ap₂ (λ a b. whole (pos 2) *ℚ sojourn_rate_at cell i m *ℚ a +ℚ b) (sym (same i (k - m)))
      (sum_to_ext cell.states (λ j _. ap (λ z. whole (pos 2) *ℚ first_payment_at cell i j m *ℚ z) (sym (same j (k - m)))
      ∙ ring (first_payment_at cell i j m ∷ f j (k - m) ∷ []) (hlevel terms) refl)
      ∙ sum_to_scale cell.states (whole (pos 2)) (λ j. first_payment_at cell i j m *ℚ f j (k - m)))
      ∙ ring (sojourn_rate_at cell i m ∷ f i (k - m)
      ∷ sum_to cell.states (λ j. first_payment_at cell i j m *ℚ f j (k - m)) ∷ []) (hlevel terms) refl))
      ∙ sum_to_scale (suc k) c (λ m. whole (pos 2) *ℚ (sojourn_rate_at cell i m *ℚ f i (k - m))
      +ℚ whole (pos 2) *ℚ sum_to cell.states (λ j. first_payment_at cell i j m *ℚ f j (k - m)))
      ∙ ap (λ z. c *ℚ z) (sum_to_add (suc k) _ _
      ∙ ap₂ ◌+ℚ◌ (sum_to_scale (suc k) (whole (pos 2)) (λ m. sojourn_rate_at cell i m *ℚ f i (k - m)))
      (sum_to_scale (suc k) (whole (pos 2)) (λ m. sum_to cell.states (λ j. first_payment_at cell i j m *ℚ f j (k - m)))
      ∙ ap (λ z. whole (pos 2) *ℚ z)
      (sum_to_exchange (suc k) cell.states (λ m j. first_payment_at cell i j m *ℚ f j (k - m)))))
    where
      row : (m : ℕ) (v : Vector) → number_at (image (matrix_at (norberg_pair cell).coupling m) v) i
          ≡ whole (pos 2) *ℚ sojourn_rate_at cell i m *ℚ number_at v i
          +ℚ sum_to cell.states (λ j. whole (pos 2) *ℚ first_payment_at cell i j m *ℚ number_at v j)
      row m v = image-table cell.states 9 (λ k. coupling_entry cell k) m i v within (λ j past.
          entry-zero i j _ _ (rw (first-past i j m past) (ring [] (hlevel terms) refl))
          (rw (sojourn-past i m (omega (arith, past))) (ring [] (hlevel terms) refl)))
          ∙ row-diagonal cell.states i (λ j. whole (pos 2) *ℚ first_payment_at cell i j m) (λ j. number_at v j) _ within

  -- the free vectors, scaled
  pub first_free : (c : Fraction) (k i : ℕ) → i < cell.states
      → number_at (vector_at (map (scale_list c) (thiele_system cell).free) k) i
      ≡ c *ℚ (sojourn_rate_at cell i k +ℚ sum_to cell.states (λ j. first_payment_at cell i j k))
  first_free c k i within = ap (λ v. number_at v i) (free-scaled c (thiele_system cell).free k)
      ∙ number_at-scale_list c (vector_at (thiele_system cell).free k) i
      ∙ ap (λ z. c *ℚ z) (number-table cell.states 9
      (λ m i. sojourn_rate_at cell i m +ℚ sum_to cell.states (λ j. first_payment_at cell i j m)) k i within
      (λ past. rw (
        sojourn-past i k (omega (arith, past)),
        sum_to_zeros cell.states (λ j b. first-past i j k past),
      ) (ring [] (hlevel terms) refl)))

  pub second_free : (c : Fraction) (k i : ℕ) → i < cell.states
      → number_at (vector_at (map (scale_list c) (second_moment_system cell).free) k) i
      ≡ c *ℚ sum_to cell.states (λ j. second_payment_at cell i j k)
  second_free c k i within = ap (λ v. number_at v i) (free-scaled c (second_moment_system cell).free k)
      ∙ number_at-scale_list c (vector_at (second_moment_system cell).free k) i
      ∙ ap (λ z. c *ℚ z) (number-table cell.states 12
      (λ m i. sum_to cell.states (λ j. second_payment_at cell i j m)) k i within
      (λ past. sum_to_zeros cell.states (λ j b. second-past i j k past)))
