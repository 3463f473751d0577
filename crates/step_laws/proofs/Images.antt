-- How far the images of two sequences of vectors under exact and under stored matrices are apart.
use Rattle.std.specs.Prelude.{◌≡◌, ℕ, suc, pos, negsuc, List, [], ◌∷◌, ◌-◌}
use Rattle.std.proofs.Common.{refl, ap, sym, ◌∙◌}
use mathlib.Core.Path.{ap₂}
use Rattle.frac_laws.specs.Fraction.{Fraction, whole, opposite, ◌+ℚ◌, ◌*ℚ◌, ◌-ℚ◌, ◌≤ℚ◌, size}
use Rattle.frac_laws.specs.Convolution.{convolution}
use Rattle.frac_laws.specs.Lists.{Vector, Matrix, number_at, vector_at, matrix_at, add_lists, scale_list}
use Rattle.frac_laws.specs.Lists.{subtract_lists, dot, image}
use Rattle.frac_laws.specs.Norms.{Norm, norm_of_vector, norm_of_matrix}
use Rattle.frac_laws.proofs.FractionTerms.{ring, terms}
use Rattle.frac_laws.proofs.Linear.{linear, claims, natural, ◌⊞◌}
use Rattle.frac_laws.proofs.Order.{le_trans, le_of_equal, add_mono}
use Rattle.frac_laws.proofs.Sizes.{size_of_natural, size-opposite}
use Rattle.frac_laws.proofs.Signs.{add_natural}
use Rattle.frac_laws.proofs.Sums.{sum_to_ext, sum_to_add, sum_to_sub, sum_to_mono}
use Rattle.frac_laws.proofs.Vectors.{number_at-add_lists, number_at-subtract_lists, number_at-image}
use Rattle.frac_laws.proofs.Vectors.{dot-add_right, dot-scale_right}
use Rattle.frac_laws.proofs.Norms.{matrix_norm_natural, norm-same, norm-add_lists, norm-scale_list}
use Rattle.frac_laws.proofs.Norms.{norm-image}
use Rattle.cell_laws.specs.Tame.{matrix_norm_at}
use Rattle.cell_laws.specs.Driven.{IsNatural}
use Rattle.cell_laws.specs.Recurrence.{convolved}
use Rattle.cell_laws.specs.DecayLaws.{norms}
use Rattle.cell_laws.specs.ErrorLaws.{distance}
use Rattle.cell_laws.proofs.VectorSums.{sum_over, number_at-sum_over, norm-sum_over}
use Rattle.step_laws.proofs.Differences.{difference, image-difference}

-- |u - v| <= |u| + |v|
pub norm-subtract_lists : (norm : Norm) (u v : Vector)
    → norm_of_vector norm (subtract_lists u v) ≤ℚ norm_of_vector norm u +ℚ norm_of_vector norm v
norm-subtract_lists norm u v = le_trans (norm-add_lists norm u (scale_list (whole (negsuc 0)) v))
    (le_of_equal (ap (λ t. norm_of_vector norm u +ℚ t) (norm-scale_list norm (whole (negsuc 0)) v
    ∙ ap (λ t. t *ℚ norm_of_vector norm v) size_of_minus_one
    ∙ ring (norm_of_vector norm v ∷ []) (hlevel terms) refl)))
  where
    size_of_minus_one : size (whole (negsuc 0)) ≡ whole (pos 1)
    size_of_minus_one =
        let e : whole (negsuc 0) ≡ opposite (whole (pos 1)) = ring [] (hlevel terms) refl in
        ap size e ∙ size-opposite (whole (pos 1)) ∙ size_of_natural (natural 1 1)

pub image-subtract : (a : Matrix) (x y : Vector) (i : ℕ)
    → number_at (image a (subtract_lists x y)) i ≡ number_at (image a x) i -ℚ number_at (image a y) i
image-subtract a x y i = rw (
  number_at-image a (subtract_lists x y) i,
  number_at-image a x i,
  number_at-image a y i,
  dot-add_right (vector_at a i) x (scale_list (whole (negsuc 0)) y),
  dot-scale_right (whole (negsuc 0)) (vector_at a i) y,
) (ring (dot (vector_at a i) x ∷ dot (vector_at a i) y ∷ []) (hlevel terms) refl)

-- A_0 x_k + .. + A_k x_0
abbrev pub images : List Matrix → (ℕ → Vector) → ℕ → Vector
images matrices x k = sum_over (suc k) (λ m. image (matrix_at matrices m) (x (k - m)))

pub number_at-images : (matrices : List Matrix) (x : ℕ → Vector) (k i : ℕ)
    → number_at (images matrices x k) i ≡ convolved matrices x k i
number_at-images matrices x k i = number_at-sum_over (suc k) (λ m. image (matrix_at matrices m) (x (k - m))) i

-- |A_m - B_m|
abbrev pub changes : Norm → (exact stored : List Matrix) → ℕ → Fraction
changes norm exact stored m = norm_of_matrix norm (difference exact stored m)

-- |A_m| + |A_m - B_m|, which is at least |B_m|
abbrev pub stored_factors : Norm → (exact stored : List Matrix) → ℕ → Fraction
stored_factors norm exact stored m = matrix_norm_at norm exact m +ℚ changes norm exact stored m

module _ (norm : Norm) (exact stored : List Matrix) where
  pub changes_natural : IsNatural (changes norm exact stored)
  changes_natural m = matrix_norm_natural norm (difference exact stored m)

  pub stored_factors_natural : IsNatural (stored_factors norm exact stored)
  stored_factors_natural m =
      add_natural (matrix_norm_natural norm (matrix_at exact m)) (changes_natural m)

  -- |B_m v| <= (|A_m| + |A_m - B_m|) |v|
  pub stored_image : (m : ℕ) (v : Vector) → norm_of_vector norm (image (matrix_at stored m) v)
      ≤ℚ stored_factors norm exact stored m *ℚ norm_of_vector norm v
  stored_image m v = le_trans (le_of_equal (norm-same norm (image (matrix_at stored m) v)
      (subtract_lists (image (matrix_at exact m) v) (image (difference exact stored m) v)) numbers))
      (le_trans (norm-subtract_lists norm (image (matrix_at exact m) v) (image (difference exact stored m) v))
      (join (norm_of_vector norm (image (matrix_at exact m) v))
      (norm_of_vector norm (image (difference exact stored m) v)) (matrix_norm_at norm exact m)
      (changes norm exact stored m) (norm_of_vector norm v) (norm-image norm (matrix_at exact m) v)
      (norm-image norm (difference exact stored m) v)))
    where
      numbers : (i : ℕ) → number_at (image (matrix_at stored m) v) i ≡ number_at
          (subtract_lists (image (matrix_at exact m) v) (image (difference exact stored m) v)) i
      numbers i = sym (number_at-subtract_lists (image (matrix_at exact m) v)
          (image (difference exact stored m) v) i
          ∙ ap (λ t. number_at (image (matrix_at exact m) v) i -ℚ t) (image-difference exact stored m v i)
          ∙ ring (number_at (image (matrix_at exact m) v) i ∷ number_at (image (matrix_at stored m) v) i ∷ [])
          (hlevel terms) refl)

      join : (x y a c r : Fraction) → x ≤ℚ a *ℚ r → y ≤ℚ c *ℚ r → x +ℚ y ≤ℚ (a +ℚ c) *ℚ r
      join x y a c r h k = linear (x ∷ y ∷ a ∷ c ∷ r ∷ []) (h ⊞ k) (hlevel claims) refl

  -- exact images of exact vectors and stored images of stored ones
  module _ (y z : ℕ → Vector) (k : ℕ) where
    -- B_m (y_(k-m) - z_(k-m)) + (A_m - B_m) y_(k-m), which is A_m y_(k-m) - B_m z_(k-m)
    abbrev parts : ℕ → Vector
    parts m = add_lists (image (matrix_at stored m) (subtract_lists (y (k - m)) (z (k - m))))
        (image (difference exact stored m) (y (k - m)))

    part_is : (i m : ℕ) → number_at (image (matrix_at exact m) (y (k - m))) i -ℚ number_at
        (image (matrix_at stored m) (z (k - m))) i ≡ number_at (parts m) i
    part_is i m = sym (number_at-add_lists
        (image (matrix_at stored m) (subtract_lists (y (k - m)) (z (k - m))))
        (image (difference exact stored m) (y (k - m))) i
        ∙ ap₂ ◌+ℚ◌ (image-subtract (matrix_at stored m) (y (k - m)) (z (k - m)) i)
        (image-difference exact stored m (y (k - m)) i)
        ∙ ring (number_at (image (matrix_at exact m) (y (k - m))) i ∷ number_at
        (image (matrix_at stored m) (y (k - m))) i ∷ number_at (image (matrix_at stored m) (z (k - m))) i ∷
        []) (hlevel terms) refl)

    numbers : (i : ℕ) → number_at (subtract_lists (images exact y k) (images stored z k)) i
        ≡ number_at (sum_over (suc k) parts) i
    numbers i = number_at-subtract_lists (images exact y k) (images stored z k) i
        ∙ ap₂ ◌-ℚ◌ (number_at-images exact y k i) (number_at-images stored z k i)
        ∙ sym (sum_to_sub (suc k) (λ m. number_at (image (matrix_at exact m) (y (k - m))) i)
        (λ m. number_at (image (matrix_at stored m) (z (k - m))) i))
        ∙ sum_to_ext (suc k) (λ m b. part_is i m) ∙ sym (number_at-sum_over (suc k) parts i)

    pub images_are_near : distance norm (images exact y k) (images stored z k)
        ≤ℚ convolution (stored_factors norm exact stored) (λ j. distance norm (y j) (z j)) k +ℚ convolution
        (changes norm exact stored) (norms norm y) k
    images_are_near = le_trans (le_of_equal (norm-same norm _ (sum_over (suc k) parts) numbers))
        (le_trans (norm-sum_over norm (suc k) parts) (le_trans (sum_to_mono (suc k) (λ m b. each m))
        (le_of_equal (sum_to_add (suc k)
        (λ m. stored_factors norm exact stored m *ℚ distance norm (y (k - m)) (z (k - m)))
        (λ m. changes norm exact stored m *ℚ norms norm y (k - m))))))
      where
        each : (m : ℕ) → norm_of_vector norm (parts m)
            ≤ℚ stored_factors norm exact stored m *ℚ distance norm (y (k - m)) (z (k - m)) +ℚ changes norm
            exact stored m *ℚ norms norm y (k - m)
        each m = le_trans (norm-add_lists norm
            (image (matrix_at stored m) (subtract_lists (y (k - m)) (z (k - m))))
            (image (difference exact stored m) (y (k - m))))
            (add_mono (stored_image m (subtract_lists (y (k - m)) (z (k - m))))
            (norm-image norm (difference exact stored m) (y (k - m))))
