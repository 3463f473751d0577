-- A homogeneous Taylor value is the start under the one-factor map, and a part in which two factors or more
-- act.
use Rattle.std.specs.Prelude.{◌≡◌, ℕ, suc, zero, pos, List, [], ◌∷◌, length, ◌<◌, ◌≤◌, ◌+◌, ◌-◌, ◌⊎◌}
use Rattle.std.proofs.Common.{refl, ap, sym, ◌∙◌, arith, inl, inr}
use Rattle.std.proofs.lemmas.List.{get_or_past}
use mathlib.Core.Path.{ap₂}
use Rattle.frac_laws.specs.Fraction.{Fraction, over, whole, opposite, size, ◌+ℚ◌, ◌*ℚ◌, ◌≤ℚ◌}
use Rattle.frac_laws.specs.Sums.{sum_to}
use Rattle.frac_laws.specs.Lists.{Vector, Matrix, SameNumbers, number_at, vector_at, matrix_at, add_lists}
use Rattle.frac_laws.specs.Lists.{scale_list, sum_of_vectors, image, scale_matrix}
use Rattle.frac_laws.specs.Norms.{Norm, norm_of_vector, norm_of_matrix}
use Rattle.frac_laws.proofs.FractionTerms.{ring, terms}
use Rattle.frac_laws.proofs.Linear.{linear, claims, natural, ◌⊞◌, ◌⊠◌}
use Rattle.frac_laws.proofs.Order.{le_refl, le_trans, le_of_equal, add_mono}
use Rattle.frac_laws.proofs.Sizes.{size_of_natural, size-opposite}
use Rattle.frac_laws.proofs.Sums.{sum_to_ext, sum_to_add, sum_to_first, sum_to_mono}
use Rattle.frac_laws.proofs.Signs.{mul_natural, sum_natural}
use Rattle.frac_laws.proofs.Vectors.{number_at-add_lists, number_at-scale_list, image-add, image-scale}
use Rattle.frac_laws.proofs.Vectors.{image-identity}
use Rattle.frac_laws.proofs.Norms.{norm_natural, norm-same, norm-add_lists, norm-scale_list, norm-image}
use Rattle.cell_laws.specs.Systems.{run}
use Rattle.cell_laws.specs.Tame.{matrix_norm_at, one_factor_map}
use Rattle.cell_laws.specs.GrowthLaws.{later_powers}
use Rattle.cell_laws.proofs.VectorSums.{sum_over, number_at-sum_over, norm-sum_over}
use Rattle.cell_laws.proofs.Runs.{newest, newest_from, total-run, times_part}
use Rattle.cell_laws.proofs.TameSums.{matrix_norms_natural}

module _ (matrices : List Matrix) (e : Vector) where
  -- the homogeneous coefficients
  abbrev pub homogeneous_at : ℕ → Vector
  homogeneous_at = newest matrices (vector_at []) e

  -- A_k e / (k + 1)
  abbrev pub one_factor_part : ℕ → Vector
  one_factor_part k = scale_list (over (pos 1) (suc k)) (image (matrix_at matrices k) e)

  -- (A_0 e_k + .. + A_(k-1) e_1) / (k + 1)
  abbrev pub further_part : ℕ → Vector
  further_part k = scale_list (over (pos 1) (suc k))
      (sum_over k (λ m. image (matrix_at matrices m) (homogeneous_at (k - m))))

  parts : (k i : ℕ) → number_at (homogeneous_at (suc k)) i ≡ number_at (one_factor_part k) i +ℚ number_at
      (further_part k) i
  parts k i = newest_from matrices (vector_at []) e k i
      ∙ (let z : k - k ≡ 0 = omega arith in ap
      (λ j. over (pos 1) (suc k) *ℚ
      (earlier +ℚ number_at (image (matrix_at matrices k) (homogeneous_at j)) i +ℚ whole (pos 0))) z)
      ∙ ring (over (pos 1) (suc k) ∷ earlier ∷ number_at (image (matrix_at matrices k) e) i ∷ [])
      (hlevel terms) refl
      ∙ sym (ap₂ ◌+ℚ◌ (number_at-scale_list (over (pos 1) (suc k)) (image (matrix_at matrices k) e) i)
      (number_at-scale_list (over (pos 1) (suc k))
      (sum_over k (λ m. image (matrix_at matrices m) (homogeneous_at (k - m)))) i
      ∙ ap (λ t. over (pos 1) (suc k) *ℚ t)
      (number_at-sum_over k (λ m. image (matrix_at matrices m) (homogeneous_at (k - m))) i)))
    where
      earlier : Fraction
      earlier = sum_to k (λ m. number_at (image (matrix_at matrices m) (homogeneous_at (k - m))) i)

  -- the start under the one-factor map
  pub one_factor_numbers : (d n i : ℕ) → length e ≤ d
      → number_at (image (one_factor_map d matrices n) e) i ≡ number_at e i +ℚ sum_to n
      (λ k. number_at (one_factor_part k) i)
  one_factor_numbers d zero i b = image-identity d e b i ∙ ring (number_at e i ∷ []) (hlevel terms) refl
  one_factor_numbers d (suc n) i b = image-add (one_factor_map d matrices n)
      (scale_matrix (over (pos 1) (suc n)) (matrix_at matrices n)) e i
      ∙ ap₂ ◌+ℚ◌ (one_factor_numbers d n i b)
      (image-scale (over (pos 1) (suc n)) (matrix_at matrices n) e i
      ∙ sym (number_at-scale_list (over (pos 1) (suc n)) (image (matrix_at matrices n) e) i))
      ∙ ring (number_at e i ∷ sum_to n (λ k. number_at (one_factor_part k) i) ∷ number_at
      (one_factor_part n) i ∷ []) (hlevel terms) refl

  total_numbers : (d n : ℕ) → length e ≤ d
      → SameNumbers (sum_of_vectors (run matrices (vector_at []) e n))
      (add_lists (image (one_factor_map d matrices n) e) (sum_over n further_part))
  total_numbers d n b i =
      total-run matrices (vector_at []) e n i ∙ sum_to_first n (λ k. number_at (homogeneous_at k) i)
      ∙ ap (λ t. number_at e i +ℚ t) (sum_to_ext n (λ k c. parts k i)
      ∙ sum_to_add n (λ k. number_at (one_factor_part k) i) (λ k. number_at (further_part k) i))
      ∙ ring (number_at e i ∷ sum_to n (λ k. number_at (one_factor_part k) i) ∷ sum_to n
      (λ k. number_at (further_part k) i) ∷ []) (hlevel terms) refl
      ∙ sym (number_at-add_lists (image (one_factor_map d matrices n) e) (sum_over n further_part) i
      ∙ ap₂ ◌+ℚ◌ (one_factor_numbers d n i b) (number_at-sum_over n further_part i))

  -- the Taylor value is within the one-factor map and the further parts
  pub total_within_parts : (norm : Norm) (d n : ℕ) → length e ≤ d
      → norm_of_vector norm (sum_of_vectors (run matrices (vector_at []) e n))
      ≤ℚ norm_of_vector norm (image (one_factor_map d matrices n) e) +ℚ sum_to n
      (λ k. norm_of_vector norm (further_part k))
  total_within_parts norm d n b = le_trans (le_of_equal (norm-same norm _ _ (total_numbers d n b)))
      (le_trans (norm-add_lists norm (image (one_factor_map d matrices n) e) (sum_over n further_part))
      (add_mono (le_refl _) (norm-sum_over norm n further_part)))

  part_size : (k : ℕ) → size (over (pos 1) (suc k)) ≡ over (pos 1) (suc k)
  part_size k = size_of_natural (natural 1 (suc k))

  pub further_part_norm : (norm : Norm) (k : ℕ)
      → whole (pos (suc k)) *ℚ norm_of_vector norm (further_part k)
      ≤ℚ sum_to k (λ m. matrix_norm_at norm matrices m *ℚ norm_of_vector norm (homogeneous_at (k - m)))
  further_part_norm norm k = le_trans
      (le_of_equal (ap (λ t. whole (pos (suc k)) *ℚ t)
      (norm-scale_list norm (over (pos 1) (suc k)) inner
      ∙ ap (λ t. t *ℚ norm_of_vector norm inner) (part_size k)) ∙ times_part k (norm_of_vector norm inner)))
      (le_trans (norm-sum_over norm k (λ m. image (matrix_at matrices m) (homogeneous_at (k - m))))
      (sum_to_mono k (λ m b. norm-image norm (matrix_at matrices m) (homogeneous_at (k - m)))))
    where
      inner : Vector
      inner = sum_over k (λ m. image (matrix_at matrices m) (homogeneous_at (k - m)))

  -- one factor more
  one_more : (norm : Norm) (d m : ℕ) → norm_of_vector norm (image (one_factor_map d matrices m) e)
      ≤ℚ norm_of_vector norm (image (one_factor_map d matrices (suc m)) e) +ℚ over (pos 1)
      (suc m) *ℚ matrix_norm_at norm matrices m *ℚ norm_of_vector norm e
  one_more norm d m = le_trans (le_of_equal (norm-same norm shorter (add_lists longer turned) numbers))
      (le_trans (norm-add_lists norm longer turned)
      (add_mono (le_refl _) (le_trans (le_of_equal turned_norm) below)))
    where
      shorter : Vector
      shorter = image (one_factor_map d matrices m) e

      longer : Vector
      longer = image (one_factor_map d matrices (suc m)) e

      part : Vector
      part = image (matrix_at matrices m) e

      turned : Vector
      turned = scale_list (opposite (over (pos 1) (suc m))) part

      numbers : SameNumbers shorter (add_lists longer turned)
      numbers i = sym (number_at-add_lists longer turned i
          ∙ ap₂ ◌+ℚ◌ (image-add (one_factor_map d matrices m)
          (scale_matrix (over (pos 1) (suc m)) (matrix_at matrices m)) e i
          ∙ ap (λ t. number_at shorter i +ℚ t)
          (image-scale (over (pos 1) (suc m)) (matrix_at matrices m) e i))
          (number_at-scale_list (opposite (over (pos 1) (suc m))) part i)
          ∙ ring (number_at shorter i ∷ over (pos 1) (suc m) ∷ number_at part i ∷ []) (hlevel terms) refl)

      turned_norm : norm_of_vector norm turned ≡ over (pos 1) (suc m) *ℚ norm_of_vector norm part
      turned_norm = norm-scale_list norm (opposite (over (pos 1) (suc m))) part
          ∙ ap (λ t. t *ℚ norm_of_vector norm part) (size-opposite (over (pos 1) (suc m)) ∙ part_size m)

      below : over (pos 1) (suc m) *ℚ norm_of_vector norm part
          ≤ℚ over (pos 1) (suc m) *ℚ matrix_norm_at norm matrices m *ℚ norm_of_vector norm e
      below = linear
          (over (pos 1) (suc m) ∷ norm_of_vector norm part
          ∷ matrix_norm_at norm matrices m ∷ norm_of_vector norm e ∷ [])
          (natural 1 (suc m) ⊠ norm-image norm (matrix_at matrices m) e) (hlevel claims) refl

  more_factors : (norm : Norm) (d n r : ℕ) → norm_of_vector norm (image (one_factor_map d matrices n) e)
      ≤ℚ norm_of_vector norm (image (one_factor_map d matrices (n + r)) e)
      +ℚ sum_to r (λ i. over (pos 1) (suc (n + i)) *ℚ matrix_norm_at norm matrices
      (n + i)) *ℚ norm_of_vector norm e
  more_factors norm d n zero = let z : n + 0 ≡ n = omega arith in rw z
      (linear (norm_of_vector norm (image (one_factor_map d matrices n) e) ∷ norm_of_vector norm e ∷ [])
      (le_refl (whole (pos 0))) (hlevel claims) refl)
  more_factors norm d n (suc r) = let z : n + suc r ≡ suc (n + r) = omega arith in rw z
      (combine _ _ _ _ _ _ (more_factors norm d n r) (one_more norm d (n + r)))
    where
      combine : (x y t u q s : Fraction) → x ≤ℚ y +ℚ s *ℚ t → y ≤ℚ u +ℚ q *ℚ t → x ≤ℚ u +ℚ (s +ℚ q) *ℚ t
      combine x y t u q s h k = linear (x ∷ y ∷ t ∷ u ∷ q ∷ s ∷ []) (h ⊞ k) (hlevel claims) refl

  -- factors past the end change nothing
  past_factors : (d r : ℕ) → SameNumbers (image (one_factor_map d matrices (length matrices + r)) e)
      (image (one_factor_map d matrices (length matrices)) e)
  past_factors d zero i = let z : length matrices + 0 ≡ length matrices = omega arith in rw z refl
  past_factors d (suc r) i = let z : length matrices + suc r ≡ suc (length matrices + r) = omega arith in
      rw z (image-add (one_factor_map d matrices (length matrices + r))
      (scale_matrix (over (pos 1) (suc (length matrices + r)))
      (matrix_at matrices (length matrices + r))) e i
      ∙ ap₂ ◌+ℚ◌ (past_factors d r i) (image-scale (over (pos 1) (suc (length matrices + r)))
      (matrix_at matrices (length matrices + r)) e i
      ∙ ap (λ a. over (pos 1) (suc (length matrices + r)) *ℚ number_at (image a e) i)
      (get_or_past matrices (length matrices + r) [] (omega arith)))
      ∙ ring (number_at (image (one_factor_map d matrices (length matrices)) e) i ∷ over (pos 1)
      (suc (length matrices + r)) ∷ []) (hlevel terms) refl)

  pub later_powers_natural : (norm : Norm) (n : ℕ) → whole (pos 0) ≤ℚ later_powers norm matrices n
  later_powers_natural norm n = sum_natural (length matrices - n) _
      (λ i. mul_natural (natural 1 (suc (n + i))) (matrix_norms_natural norm matrices (n + i)))

  -- so the one-factor map of any n is within the whole one-factor map and what the later powers add
  pub one_factor_within : (norm : Norm) (d n : ℕ)
      → norm_of_vector norm (image (one_factor_map d matrices n) e)
      ≤ℚ (norm_of_matrix norm (one_factor_map d matrices
      (length matrices)) +ℚ later_powers norm matrices n) *ℚ norm_of_vector norm e
  one_factor_within norm d n = elim (which n (length matrices)) [
    | inl b ↦ let z : n + (length matrices - n) ≡ length matrices =
        omega arith in combine _ _ _ _ _ (rw z at (more_factors norm d n (length matrices - n))) whole_map
    | inr b ↦ let z : n ≡ length matrices + (n - length matrices) = omega arith in widen _ _ _ _
        (le_trans (le_of_equal (ap (λ k. norm_of_vector norm (image (one_factor_map d matrices k) e)) z
        ∙ norm-same norm _ _ (past_factors d (n - length matrices)))) whole_map)
        (later_powers_natural norm n) (norm_natural norm e)
  ]
    where
      which : (n m : ℕ) → (n ≤ m) ⊎ (m < n)
      which n m = grind arith

      whole_map : norm_of_vector norm (image (one_factor_map d matrices (length matrices)) e)
          ≤ℚ norm_of_matrix norm (one_factor_map d matrices (length matrices)) *ℚ norm_of_vector norm e
      whole_map = norm-image norm (one_factor_map d matrices (length matrices)) e

      combine : (x y p s t : Fraction) → x ≤ℚ y +ℚ s *ℚ t → y ≤ℚ p *ℚ t → x ≤ℚ (p +ℚ s) *ℚ t
      combine x y p s t h k = linear (x ∷ y ∷ p ∷ s ∷ t ∷ []) (h ⊞ k) (hlevel claims) refl

      widen : (x p s t : Fraction) → x ≤ℚ p *ℚ t → whole (pos 0) ≤ℚ s → whole (pos 0) ≤ℚ t
          → x ≤ℚ (p +ℚ s) *ℚ t
      widen x p s t h hs ht = linear (x ∷ p ∷ s ∷ t ∷ []) (h ⊞ hs ⊠ ht) (hlevel claims) refl
