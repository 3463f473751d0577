-- A run obeys its recurrence, number by number and in the norms.
use Rattle.std.specs.Prelude.{◌≡◌, ℕ, suc, zero, pos, List, [], ◌∷◌, length, ◌≤◌, ◌-◌}
use Rattle.std.proofs.Common.{refl, ap, sym, ◌∙◌, arith}
use Rattle.frac_laws.specs.Fraction.{Fraction, over, whole, ◌+ℚ◌, ◌*ℚ◌, ◌≤ℚ◌}
use Rattle.frac_laws.specs.Sums.{sum_to}
use Rattle.frac_laws.specs.Convolution.{convolution}
use Rattle.frac_laws.specs.Lists.{Vector, Matrix, number_at, vector_at, matrix_at, add_lists}
use Rattle.frac_laws.specs.Lists.{sum_of_vectors, image}
use Rattle.frac_laws.specs.Norms.{Norm, norm_of_vector}
use Rattle.frac_laws.proofs.FractionTerms.{ring, terms}
use Rattle.frac_laws.proofs.Linear.{natural}
use Rattle.frac_laws.proofs.Order.{le_refl, le_trans, add_mono, le_of_equal}
use Rattle.frac_laws.proofs.Sizes.{size_of_natural}
use Rattle.frac_laws.proofs.Sums.{sum_to_ext}
use Rattle.frac_laws.proofs.Quotients.{inverse}
use Rattle.frac_laws.proofs.Vectors.{number_at-add_lists, number_at-scale_list}
use Rattle.frac_laws.proofs.Norms.{norm-same, norm-add_lists, norm-scale_list, norm_natural}
use Rattle.frac_laws.proofs.Norms.{matrix_norm_natural}
use Rattle.cell_laws.specs.Systems.{sum_of_images, run}
use Rattle.cell_laws.specs.Tame.{matrix_norm_at}
use Rattle.cell_laws.specs.Driven.{IsDriven}
use Rattle.cell_laws.proofs.VectorSums.{sum_over, number_at-sum_over, norm-sum_over}
use Rattle.cell_laws.proofs.VectorSums.{number_at-sum_of_vectors, number_at-sum_of_images}
use Rattle.cell_laws.proofs.VectorSums.{norm-sum_of_images}

-- k + 1 times x / (k + 1)
pub times_part : (k : ℕ) (x : Fraction) → whole (pos (suc k)) *ℚ (over (pos 1) (suc k) *ℚ x) ≡ x
times_part k x = ring (whole (pos (suc k)) ∷ over (pos 1) (suc k) ∷ x ∷ []) (hlevel terms) refl
    ∙ ap (λ z. z *ℚ x) (inverse (suc k) (omega arith)) ∙ ring (x ∷ []) (hlevel terms) refl

module _ (matrices : List Matrix) (f : ℕ → Vector) (y : Vector) where
  -- the coefficient y_k of the run
  abbrev pub newest : ℕ → Vector
  newest k = vector_at (run matrices f y k) 0

  pub vector_at-run : (k m : ℕ) → m ≤ k → vector_at (run matrices f y k) m ≡ newest (k - m)
  vector_at-run k zero b = let e : k - 0 ≡ k = omega arith in rw e refl
  vector_at-run zero (suc m) b = absurd (omega arith)
  vector_at-run (suc k) (suc m) b =
      let e : suc k - suc m ≡ k - m = omega arith in rw e (vector_at-run k m (omega arith))

  pub length-run : (k : ℕ) → length (run matrices f y k) ≡ suc k
  length-run zero = refl
  length-run (suc k) = ap suc (length-run k)

  -- the sum of images of a run, in terms of its coefficients
  pub images-run : (others : List Matrix) (k i : ℕ)
      → number_at (sum_of_images others (run matrices f y k)) i
      ≡ sum_to (suc k) (λ m. number_at (image (matrix_at others m) (newest (k - m))) i)
  images-run others k i = number_at-sum_of_images others (run matrices f y k) i
      ∙ ap (λ n. sum_to n (λ m. number_at (image (matrix_at others m)
      (vector_at (run matrices f y k) m)) i)) (length-run k)
      ∙ sum_to_ext (suc k) (λ m b. ap (λ v. number_at (image (matrix_at others m) v) i)
      (vector_at-run k m (omega arith)))

  pub norm_of_images-run : (norm : Norm) (others : List Matrix) (k : ℕ)
      → norm_of_vector norm (sum_of_images others (run matrices f y k))
      ≤ℚ convolution (matrix_norm_at norm others) (λ j. norm_of_vector norm (newest j)) k
  norm_of_images-run norm others k =
      le_trans (norm-sum_of_images norm others (run matrices f y k)) (le_of_equal
      (ap (λ n. sum_to n (λ m. matrix_norm_at norm others m *ℚ norm_of_vector norm
      (vector_at (run matrices f y k) m))) (length-run k)
      ∙ sum_to_ext (suc k) (λ m b. ap (λ v. matrix_norm_at norm others m *ℚ norm_of_vector norm v)
      (vector_at-run k m (omega arith)))))

  -- a coefficient from the earlier ones
  pub newest_from : (k i : ℕ) → number_at (newest (suc k)) i ≡ over (pos 1) (suc k)
      *ℚ (sum_to (suc k) (λ m. number_at (image (matrix_at matrices m) (newest (k - m))) i) +ℚ number_at
      (f k) i)
  newest_from k i = number_at-scale_list (over (pos 1) (suc k))
      (add_lists (sum_of_images matrices (run matrices f y k)) (f k)) i
      ∙ ap (λ z. over (pos 1) (suc k) *ℚ z)
      (number_at-add_lists (sum_of_images matrices (run matrices f y k)) (f k) i
      ∙ ap (λ z. z +ℚ number_at (f k) i) (images-run matrices k i))

  pub recurrence : (k i : ℕ) → whole (pos (suc k)) *ℚ number_at (newest (suc k)) i
      ≡ sum_to (suc k) (λ m. number_at (image (matrix_at matrices m) (newest (k - m))) i) +ℚ number_at
      (f k) i
  recurrence k i = ap (λ z. whole (pos (suc k)) *ℚ z) (newest_from k i) ∙ times_part k _

  pub total-run : (n i : ℕ) → number_at (sum_of_vectors (run matrices f y n)) i ≡ sum_to (suc n)
      (λ k. number_at (newest k) i)
  total-run zero i = number_at-sum_of_vectors (run matrices f y zero) i
  total-run (suc n) i = number_at-add_lists (newest (suc n)) (sum_of_vectors (run matrices f y n)) i
      ∙ ap (λ z. number_at (newest (suc n)) i +ℚ z) (total-run n i)
      ∙ ring (number_at (newest (suc n)) i ∷ sum_to (suc n) (λ k. number_at (newest k) i) ∷ [])
      (hlevel terms) refl

  pub norms_driven : (norm : Norm) (n : ℕ)
      → IsDriven n (matrix_norm_at norm matrices) (λ k. norm_of_vector norm (f k))
      (λ k. norm_of_vector norm (newest k))
  norms_driven norm n = record {
    factors = λ m. matrix_norm_natural norm (matrix_at matrices m);
    values = λ k. norm_natural norm (newest k);
    step = λ k b. step k;
  }
    where
      right : ℕ → Vector
      right k = add_lists (sum_of_images matrices (run matrices f y k)) (f k)

      scaled : (k : ℕ) → whole (pos (suc k)) *ℚ norm_of_vector norm (newest (suc k)) ≡ norm_of_vector norm
          (right k)
      scaled k = ap (λ z. whole (pos (suc k)) *ℚ z) (norm-scale_list norm (over (pos 1) (suc k)) (right k)
          ∙ ap (λ z. z *ℚ norm_of_vector norm (right k)) (size_of_natural (natural 1 (suc k))))
          ∙ times_part k (norm_of_vector norm (right k))

      step : (k : ℕ) → whole (pos (suc k)) *ℚ norm_of_vector norm (newest (suc k))
          ≤ℚ convolution (matrix_norm_at norm matrices)
          (λ j. norm_of_vector norm (newest j)) k +ℚ norm_of_vector norm (f k)
      step k =
          rw (scaled k) (le_trans (norm-add_lists norm (sum_of_images matrices (run matrices f y k)) (f k))
          (add_mono (norm_of_images-run norm matrices k) (le_refl _)))

  -- the total is within the sum of the norms
  pub norm_of_total-run : (norm : Norm) (n : ℕ) → norm_of_vector norm (sum_of_vectors (run matrices f y n))
      ≤ℚ sum_to (suc n) (λ k. norm_of_vector norm (newest k))
  norm_of_total-run norm n = le_trans
      (le_of_equal (norm-same norm (sum_of_vectors (run matrices f y n)) (sum_over (suc n) newest)
      (λ i. total-run n i ∙ sym (number_at-sum_over (suc n) newest i))))
      (norm-sum_over norm (suc n) newest)
