-- A run that stops at a degree, as one that has only zeros after it: what its recurrence leaves there.
use Rattle.std.specs.Prelude.{◌≡◌, ℕ, suc, pos, List, [], ◌∷◌, length, slice_index_or, ◌<◌, ◌≤◌, ◌+◌, ◌-◌, ◌^◌}
use Rattle.std.proofs.Common.{refl, ap, sym, ◌∙◌, subst, inl, inr, arith}
use Rattle.std.proofs.lemmas.Bool.{cases_lt}
use Rattle.frac_laws.specs.Fraction.{Fraction, over, whole, ◌+ℚ◌, ◌*ℚ◌, ◌-ℚ◌, ◌≤ℚ◌}
use Rattle.frac_laws.specs.Sums.{sum_to, power}
use Rattle.frac_laws.specs.Convolution.{convolution}
use Rattle.frac_laws.specs.Lists.{Vector, Matrix, number_at, vector_at, matrix_at, add_lists}
use Rattle.frac_laws.specs.Lists.{image}
use Rattle.frac_laws.specs.Norms.{Norm, norm_of_vector}
use Rattle.frac_laws.proofs.FractionTerms.{ring, terms}
use Rattle.frac_laws.proofs.Linear.{linear, claims, natural, ◌⊞◌, ◌⊠◌, ◌·◌}
use Rattle.frac_laws.proofs.Order.{le_refl, le_trans, le_of_equal}
use Rattle.frac_laws.proofs.Powers.{power_add, power_natural, power_inverse}
use Rattle.frac_laws.proofs.GeometricTails.{tail_of_eighths}
use Rattle.frac_laws.proofs.Sums.{sum_to_ext, sum_to_mono, sum_to_scale, sum_to_scale_right, sum_to_split}
use Rattle.frac_laws.proofs.Sums.{sum_to_longer, sum_to_zeros}
use Rattle.frac_laws.proofs.Vectors.{number_at-add_lists, number_at-image, dot-sum}
use Rattle.frac_laws.proofs.Norms.{norm_natural, norm-same, norm-add_lists}
use Rattle.cell_laws.specs.Tame.{weighted}
use Rattle.cell_laws.specs.Driven.{IsNatural}
use Rattle.cell_laws.specs.DecayLaws.{norms}
use Rattle.cell_laws.specs.Recurrence.{convolved}
use Rattle.cell_laws.proofs.Decay.{eights_natural}
use Rattle.cell_laws.proofs.TameSums.{norm_of_none}
use Rattle.cell_laws.proofs.VectorSums.{norm-sum_over}
use Rattle.step_laws.specs.StandsFor.{units, MatricesFit}
use Rattle.step_laws.specs.RoundedRuns.{IsRoundedDown, HasWindow, AreEmptyAbove, window_bound}
use Rattle.step_laws.proofs.Images.{images, number_at-images, stored_factors, stored_factors_natural}
use Rattle.step_laws.proofs.Images.{stored_image}
use Rattle.step_laws.proofs.Residues.{spread, norm_of_small, residue, number_at-residue, residue_is_small}
use Rattle.step_laws.proofs.Listed.{listed, item_at, item_past}
use Rattle.step_laws.proofs.Grown.{whole_numbers_le}

-- a window of small values before the degree N bounds the convolutions from N on, where b is 0 above power d
module _ (degree d : ℕ) (b v : ℕ → Fraction) (alpha w : Fraction) (hb : IsNatural b)
    (hw : whole (pos 0) ≤ℚ w) (none : (m : ℕ) → d < m → b m ≡ whole (pos 0))
    (past : (j : ℕ) → degree < j → v j ≤ℚ whole (pos 0))
    (window : (m : ℕ) → m ≤ d → v (degree - m) ≤ℚ w *ℚ power (whole (pos 8)) m) (k : ℕ)
    (total : sum_to (suc k) (weighted b) ≤ℚ alpha) (late : degree ≤ k) where
  abbrev eights : ℕ → Fraction
  eights m = power (whole (pos 8)) m

  bound_natural : whole (pos 0) ≤ℚ w *ℚ eights degree
  bound_natural = linear (w ∷ eights degree ∷ []) (hw ⊠ eights_natural degree) (hlevel claims) refl

  term : (m : ℕ) → m < suc k → eights k *ℚ (b m *ℚ v (k - m)) ≤ℚ eights m *ℚ b m *ℚ (w *ℚ eights degree)
  term m c = elim (cases_lt d m) [
    | inl l ↦ rw (none m l) (linear (eights k ∷ v (k - m) ∷ eights m ∷ w ∷ eights degree ∷ [])
        (le_refl (whole (pos 0))) (hlevel claims) refl)
    | inr l ↦ elim (cases_lt degree (k - m)) [
      | inl g ↦ linear (eights k ∷ b m ∷ v (k - m) ∷ eights m ∷ w ∷ eights degree ∷ [])
          (eights_natural k ⊠ (hb m ⊠ past (k - m) g)
          ⊞ eights_natural m ⊠ (hb m ⊠ (hw ⊠ eights_natural degree))) (hlevel claims) refl
      | inr g ↦ inside (k - m) (degree - (k - m)) l g (omega arith) (omega arith)
    ]
  ]
    where
      inside : (j i : ℕ) → m ≤ d → j ≤ degree → k ≡ m + j → degree ≡ j + i
          → eights k *ℚ (b m *ℚ v j) ≤ℚ eights m *ℚ b m *ℚ (w *ℚ eights degree)
      inside j i l g e f =
          let at : degree - i ≡ j = omega arith in
          let small : v j ≤ℚ w *ℚ eights i = subst (λ t. v t ≤ℚ w *ℚ eights i) at (window i (omega arith)) in
          let ek : eights k ≡ eights m *ℚ eights j = ap eights e ∙ power_add (whole (pos 8)) m j in
          let ed : eights degree ≡ eights j *ℚ eights i = ap eights f ∙ power_add (whole (pos 8)) j i in
          rw (ek, ed) (linear (eights m ∷ eights j ∷ eights i ∷ b m ∷ v j ∷ w ∷ [])
          (eights_natural m ⊠ (eights_natural j ⊠ (hb m ⊠ small))) (hlevel claims) refl)

  pub window_convolution : eights k *ℚ convolution b v k ≤ℚ alpha *ℚ (w *ℚ eights degree)
  window_convolution = rw (← sum_to_scale (suc k) (eights k) (λ m. b m *ℚ v (k - m)))
      (le_trans (sum_to_mono (suc k) term)
      (rw (sum_to_scale_right (suc k) (w *ℚ eights degree) (λ m. eights m *ℚ b m))
      (linear (sum_to (suc k) (λ m. eights m *ℚ b m) ∷ alpha ∷ (w *ℚ eights degree) ∷ [])
      (total ⊠ bound_natural) (hlevel claims) refl)))

-- the coefficients up to the degree, and none after it
module _ (degree : ℕ) (z : ℕ → Vector) where
  abbrev pub cut : ℕ → Vector
  cut k = vector_at (listed (suc degree) z) k

  pub cut_is : (k : ℕ) → k ≤ degree → cut k ≡ z k
  cut_is k b = item_at (suc degree) z k [] (omega arith)

  pub cut_past : (k : ℕ) → degree < k → cut k ≡ []
  cut_past k b = item_past (suc degree) z k [] (omega arith)

  pub cut_fits : (dim k : ℕ) → ((j : ℕ) → j ≤ degree → length (z j) ≤ dim) → length (cut k) ≤ dim
  cut_fits dim k fits = elim (cases_lt degree k) [
    | inl b ↦ rw (cut_past k b) (omega arith)
    | inr b ↦ rw (cut_is k b) (fits k b)
  ]

  -- the sum up to a later power is the one up to the degree
  pub cut_total : (n i : ℕ) → degree ≤ n
      → sum_to (suc degree) (λ k. number_at (z k) i) ≡ sum_to (suc n) (λ k. number_at (cut k) i)
  cut_total n i b =
      let e : suc n ≡ suc degree + (n - degree) = omega arith in
      sym (ap (λ t. sum_to t (λ k. number_at (cut k) i)) e
      ∙ sum_to_split (suc degree) (n - degree) (λ k. number_at (cut k) i)
      ∙ both (sum_to (suc degree) (λ k. number_at (cut k) i)) _ _
      (sum_to_ext (suc degree) (λ k c. ap (λ v. number_at v i) (cut_is k (omega arith))))
      (sum_to_zeros (n - degree) (λ k c. ap (λ v. number_at v i) (cut_past (suc degree + k) (omega arith)))))
    where
      both : (x y t : Fraction) → x ≡ y → t ≡ whole (pos 0) → x +ℚ t ≡ y
      both x y t e f = rw (e, f) (ring (y ∷ []) (hlevel terms) refl)

  pub convolved_cut : (matrices : List Matrix) (k i : ℕ) → k ≤ degree
      → convolved matrices cut k i ≡ convolved matrices z k i
  convolved_cut matrices k i b = sum_to_ext (suc k)
      (λ m c. ap (λ v. number_at (image (matrix_at matrices m) v) i) (cut_is (k - m) (omega arith)))

  -- the norms of a window of small numbers
  pub window_norms : (norm : Norm) (dim d : ℕ) → ((j : ℕ) → j ≤ degree → length (z j) ≤ dim)
      → HasWindow degree d z → (m : ℕ) → m ≤ d
      → norms norm cut (degree - m) ≤ℚ spread norm dim *ℚ units 64 *ℚ power (whole (pos 8)) m
  window_norms norm dim d fits window m b = rw (cut_is (degree - m) (omega arith))
      (le_trans (norm_of_small norm dim (window_bound m) (z (degree - m))
      (linear (power (whole (pos 8)) m ∷ []) (natural 64 (2 ^ 64) ⊠ eights_natural m) (hlevel claims) refl)
      (fits (degree - m) (omega arith)) (λ i. window m i b))
      (linear (spread norm dim ∷ power (whole (pos 8)) m ∷ []) (le_refl (whole (pos 0))) (hlevel claims) refl))

  pub norms_past : (norm : Norm) (j : ℕ) → degree < j → norms norm cut j ≤ℚ whole (pos 0)
  norms_past norm j b = rw (cut_past j b) (le_of_equal (norm_of_none norm))

-- the factors of stored matrices that are 0 above power d
module _ (norm : Norm) (dim d : ℕ) (exact stored : List Matrix) (fit : MatricesFit dim stored)
    (none : AreEmptyAbove d stored) where
  abbrev pub low_factors : ℕ → Fraction
  low_factors m = slice_index_or (listed (suc d) (stored_factors norm exact stored)) m (whole (pos 0))

  pub low_natural : IsNatural low_factors
  low_natural m = elim (cases_lt m (suc d)) [
    | inl b ↦ rw (item_at (suc d) (stored_factors norm exact stored) m (whole (pos 0)) b)
        (stored_factors_natural norm exact stored m)
    | inr b ↦ rw (item_past (suc d) (stored_factors norm exact stored) m (whole (pos 0)) b) (le_refl _)
  ]

  pub low_none : (m : ℕ) → d < m → low_factors m ≡ whole (pos 0)
  low_none m b = item_past (suc d) (stored_factors norm exact stored) m (whole (pos 0)) (omega arith)

  low_le : (m : ℕ) → low_factors m ≤ℚ stored_factors norm exact stored m
  low_le m = elim (cases_lt m (suc d)) [
    | inl b ↦ le_of_equal (item_at (suc d) (stored_factors norm exact stored) m (whole (pos 0)) b)
    | inr b ↦ rw (item_past (suc d) (stored_factors norm exact stored) m (whole (pos 0)) b)
        (stored_factors_natural norm exact stored m)
  ]

  pub low_total : (n : ℕ) → sum_to n (weighted low_factors) ≤ℚ sum_to n (weighted (stored_factors norm exact stored))
  low_total n = sum_to_mono n (λ m b. linear
      (power (whole (pos 8)) m ∷ low_factors m ∷ stored_factors norm exact stored m ∷ [])
      (eights_natural m ⊠ low_le m) (hlevel claims) refl)

  low_image : (m : ℕ) (v : Vector)
      → norm_of_vector norm (image (matrix_at stored m) v) ≤ℚ low_factors m *ℚ norm_of_vector norm v
  low_image m v = elim (cases_lt m (suc d)) [
    | inl b ↦ rw (item_at (suc d) (stored_factors norm exact stored) m (whole (pos 0)) b)
        (stored_image norm exact stored m v)
    | inr b ↦ rw (low_none m (omega arith)) (le_trans (le_of_equal (norm-same norm
        (image (matrix_at stored m) v) [] (λ i. nothing m i v (omega arith)) ∙ norm_of_none norm))
        (linear (norm_of_vector norm v ∷ []) (le_refl (whole (pos 0))) (hlevel claims) refl))
  ]
    where
      nothing : (m i : ℕ) (v : Vector) → d < m → number_at (image (matrix_at stored m) v) i ≡ whole (pos 0)
      nothing m i v b = number_at-image (matrix_at stored m) v i
          ∙ dot-sum (vector_at (matrix_at stored m) i) v dim (fit.columns m i)
          ∙ sum_to_zeros dim (λ j c. ap (λ t. t *ℚ number_at v j) (none m i j b)
          ∙ ring (number_at v j ∷ []) (hlevel terms) refl)

  pub low_images : (x : ℕ → Vector) (k : ℕ)
      → norm_of_vector norm (images stored x k) ≤ℚ convolution low_factors (norms norm x) k
  low_images x k = le_trans (norm-sum_over norm (suc k) (λ m. image (matrix_at stored m) (x (k - m))))
      (sum_to_mono (suc k) (λ m b. low_image m (x (k - m))))

-- what the recurrence of a run that is cut leaves at power k
module _ (norm : Norm) (degree dim : ℕ) (stored : List Matrix) (h z : ℕ → Vector) where
  abbrev pub cut_rest : ℕ → Fraction
  cut_rest k = norm_of_vector norm (residue stored h (cut degree z) k)

  -- after the degree it leaves all
  pub rest_after : (k : ℕ) → degree ≤ k
      → cut_rest k ≤ℚ norm_of_vector norm (images stored (cut degree z) k) +ℚ norm_of_vector norm (h k)
  rest_after k b = le_trans (le_of_equal (norm-same norm (residue stored h (cut degree z) k)
      (add_lists (images stored (cut degree z) k) (h k)) numbers))
      (norm-add_lists norm (images stored (cut degree z) k) (h k))
    where
      numbers : (i : ℕ) → number_at (residue stored h (cut degree z) k) i
          ≡ number_at (add_lists (images stored (cut degree z) k) (h k)) i
      numbers i = number_at-residue stored h (cut degree z) k i
          ∙ ap (λ v. (convolved stored (cut degree z) k i +ℚ number_at (h k) i)
          -ℚ whole (pos (suc k)) *ℚ number_at v i) (cut_past degree z (suc k) (omega arith))
          ∙ ring (convolved stored (cut degree z) k i ∷ number_at (h k) i ∷ whole (pos (suc k)) ∷ [])
          (hlevel terms) refl
          ∙ sym (number_at-add_lists (images stored (cut degree z) k) (h k) i
          ∙ ap (λ t. t +ℚ number_at (h k) i) (number_at-images stored (cut degree z) k i))

  abbrev unit_spread : Fraction
  unit_spread = spread norm dim *ℚ units 1

  -- divided by k + 1: a unit for each number up to the degree, then at most a ninth
  abbrev pub rests : ℕ → Fraction
  rests k = slice_index_or (listed degree (λ j. unit_spread)) k (over (pos 1) 9 *ℚ cut_rest k)

  module _ (least : 8 ≤ degree) (rows : (m : ℕ) → length (matrix_at stored m) ≤ dim)
      (right : (k : ℕ) → length (h k) ≤ dim) (fits : (k : ℕ) → k ≤ degree → length (z k) ≤ dim)
      (rounded : (k i : ℕ) → k < degree → i < dim
      → IsRoundedDown (convolved stored z k i +ℚ number_at (h k) i) (suc k) (number_at (z (suc k)) i)) where
    pub rests_leave : (k : ℕ) → cut_rest k ≤ℚ whole (pos (suc k)) *ℚ rests k
    rests_leave k = elim (cases_lt k degree) [
      | inl b ↦ rw (item_at degree (λ j. unit_spread) k (over (pos 1) 9 *ℚ cut_rest k) b)
          (le_trans (residue_is_small dim stored h (cut degree z) k rows (right k)
          (cut_fits degree z dim (suc k) fits) (λ i c. before i b c) norm)
          (linear (spread norm dim ∷ whole (pos (suc k)) ∷ units 1 ∷ []) (le_refl (whole (pos 0)))
          (hlevel claims) refl))
      | inr b ↦ rw (item_past degree (λ j. unit_spread) k (over (pos 1) 9 *ℚ cut_rest k) b)
          (linear (whole (pos (suc k)) ∷ cut_rest k ∷ [])
          (natural 1 9 ⊠ (whole_numbers_le 9 (suc k) (omega arith)
          ⊠ norm_natural norm (residue stored h (cut degree z) k))) (hlevel claims) refl)
    ]
      where
        before : (i : ℕ) → k < degree → i < dim → IsRoundedDown
            (convolved stored (cut degree z) k i +ℚ number_at (h k) i) (suc k)
            (number_at (cut degree z (suc k)) i)
        before i b c = rw (convolved_cut degree z stored k i (omega arith), cut_is degree z (suc k) (omega arith))
            (rounded k i b c)

  -- their total, where 8^k times what is left after the degree is at most a bound times 8^degree
  module _ (most : degree ≤ 24) (bound : Fraction) (bound_natural : whole (pos 0) ≤ℚ bound)
      (spread_natural : whole (pos 0) ≤ℚ unit_spread) (n : ℕ) (late : degree ≤ n)
      (small : (k : ℕ) → degree ≤ k → k < n
      → power (whole (pos 8)) k *ℚ cut_rest k ≤ℚ bound *ℚ power (whole (pos 8)) degree) where
    after_total : whole (pos 7) *ℚ sum_to (n - degree) (λ i. cut_rest (degree + i)) ≤ℚ whole (pos 8) *ℚ bound
    after_total = cancel (power (whole (pos 8)) degree) (power (over (pos 1) 8) degree)
        (sum_to (n - degree) (λ i. cut_rest (degree + i)))
        (power_inverse (whole (pos 8)) (over (pos 1) 8) degree (ring [] (hlevel terms) refl))
        (power_natural degree (natural 1 8))
        (tail_of_eighths (bound *ℚ power (whole (pos 8)) degree) cut_rest degree (n - degree)
        (linear (bound ∷ power (whole (pos 8)) degree ∷ []) (bound_natural ⊠ eights_natural degree)
        (hlevel claims) refl)
        (λ i b. small (degree + i) (omega arith) (omega arith)))
      where
        cancel : (p q t : Fraction) → p *ℚ q ≡ whole (pos 1) → whole (pos 0) ≤ℚ q
            → whole (pos 7) *ℚ p *ℚ t ≤ℚ whole (pos 8) *ℚ (bound *ℚ p)
            → whole (pos 7) *ℚ t ≤ℚ whole (pos 8) *ℚ bound
        cancel p q t e h k = linear (p ∷ q ∷ t ∷ bound ∷ [])
            (h ⊠ k ⊞ ((whole (pos 8) *ℚ bound) · e) ⊞ ((whole (pos 7) *ℚ t) · sym e)) (hlevel claims) refl

    pub rests_total : sum_to n rests ≤ℚ whole (pos 24) *ℚ unit_spread +ℚ over (pos 8) 63 *ℚ bound
    rests_total = join (sum_to n rests) (sum_to degree rests) (sum_to (n - degree) (λ i. rests (degree + i)))
        (sum_to (n - degree) (λ i. cut_rest (degree + i)))
        ((let e : n ≡ degree + (n - degree) = omega arith in ap (λ t. sum_to t rests) e)
        ∙ sum_to_split degree (n - degree) rests)
        (le_trans (sum_to_mono degree {g = λ k. unit_spread} (λ k b.
        le_of_equal (item_at degree (λ j. unit_spread) k (over (pos 1) 9 *ℚ cut_rest k) b)))
        (le_trans (sum_to_longer degree 24 (λ k b. spread_natural) most)
        (linear (unit_spread ∷ []) (le_refl (whole (pos 0))) (hlevel claims) refl)))
        (sum_to_ext (n - degree) (λ i b. item_past degree (λ j. unit_spread) (degree + i)
        (over (pos 1) 9 *ℚ cut_rest (degree + i)) (omega arith))
        ∙ sum_to_scale (n - degree) (over (pos 1) 9) (λ i. cut_rest (degree + i)))
        after_total
      where
        join : (t a b c : Fraction) → t ≡ a +ℚ b → a ≤ℚ whole (pos 24) *ℚ unit_spread
            → b ≡ over (pos 1) 9 *ℚ c → whole (pos 7) *ℚ c ≤ℚ whole (pos 8) *ℚ bound
            → t ≤ℚ whole (pos 24) *ℚ unit_spread +ℚ over (pos 8) 63 *ℚ bound
        join t a b c e h f k = rw (e, f) (linear (a ∷ c ∷ unit_spread ∷ bound ∷ [])
            (h ⊞ natural 1 63 ⊠ k) (hlevel claims) refl)
