-- A forward cell differs little from half the identity and half the square of its one-factor map.
use Rattle.std.specs.Prelude.{◌≡◌, ℕ, zero, suc, pos, negsuc, ◌+◌, ◌-◌, ◌<◌, ◌≤◌, [], ◌∷◌, length}
use Rattle.std.proofs.Common.{refl, ap, sym, ◌∙◌, arith}
use Rattle.std.proofs.lemmas.List.{get_or_past}
use mathlib.Core.Path.{ap₂}
use Rattle.frac_laws.specs.Fraction.{Fraction, over, whole, size, opposite, ◌+ℚ◌, ◌-ℚ◌, ◌*ℚ◌, ◌≤ℚ◌}
use Rattle.frac_laws.specs.Sums.{sum_to}
use Rattle.frac_laws.specs.Convolution.{convolution}
use Rattle.frac_laws.specs.Lists.{Vector, Matrix, SameNumbers, number_at, vector_at, matrix_at, add_lists, scale_list}
use Rattle.frac_laws.specs.Lists.{image, scale_matrix, identity, shift_rows}
use Rattle.frac_laws.specs.Norms.{Sum, norm_of_vector, norm_of_matrix}
use Rattle.frac_laws.proofs.FractionTerms.{ring, terms}
use Rattle.frac_laws.proofs.Linear.{linear, equal, claims, natural, ◌⊞◌, ◌⊠◌}
use Rattle.frac_laws.proofs.Order.{le_refl, le_trans, le_of_equal, mul_mono}
use Rattle.frac_laws.proofs.Quotients.{inverse, over_le_of_cross}
use Rattle.std.proofs.lemmas.Int.{ints}
use Rattle.frac_laws.proofs.Sizes.{size_of_natural, size_of_opposite, size_natural, size_le_of_between}
use Rattle.frac_laws.proofs.Sums.{sum_to_ext, sum_to_mono, sum_to_add, sum_to_scale, sum_to_scale_right, sum_to_first}
use Rattle.frac_laws.proofs.Convolutions.{sum_to_past}
use Rattle.frac_laws.proofs.Signs.{mul_natural}
use Rattle.frac_laws.proofs.Lengths.{image_fits, length-scale_matrix, add_matrices_fits}
use Rattle.frac_laws.proofs.Vectors.{number_at-add_lists, number_at-scale_list, number_at-image, dot-add_right}
use Rattle.frac_laws.proofs.Vectors.{dot-same}
use Rattle.frac_laws.proofs.Norms.{norm-same, norm-add_lists, norm-scale_list, norm-image, norm_natural, size_zero}
use Rattle.cell_laws.specs.Systems.{System, coefficient, taylor_value, homogeneous, KeepsDimension}
use Rattle.cell_laws.specs.Driven.{IsDriven}
use Rattle.cell_laws.specs.Tame.{matrix_norm_at, one_factor_map}
use Rattle.cell_laws.proofs.VectorSums.{sum_over, number_at-sum_over, norm-sum_over}
use Rattle.cell_laws.proofs.FirstOrder.{one_factor_numbers}
use Rattle.cell_laws.proofs.Recurrences.{coefficients_recur, taylor_value_sums, norms_are_driven}
use Rattle.cell_laws.proofs.TameSums.{matrix_norm_past, matrix_norms_natural}
use Rattle.probability_laws.specs.ProbabilityLaws.{HasSmallForward, SmallForwardCellsGrowLittle}
use Rattle.probability_laws.proofs.LateCoefficients.{first_most, from_two, late_convolutions, six_total}

length-shift_rows : (a : Matrix) → length (shift_rows a) ≡ length a
length-shift_rows [] = refl
length-shift_rows (row ∷ a) = ap (λ n. suc n) (length-shift_rows a)

length-identity : (d : ℕ) → length (identity d) ≡ d
length-identity zero = refl
length-identity (suc d) = ap (λ n. suc n) (length-shift_rows (identity d) ∙ length-identity d)

-- an image of a sum, and of vectors with the same numbers
image-sum : (a : Matrix) (u w : Vector) (i : ℕ)
    → number_at (image a (add_lists u w)) i ≡ number_at (image a u) i +ℚ number_at (image a w) i
image-sum a u w i =
    number_at-image a (add_lists u w) i ∙ dot-add_right (vector_at a i) u w
    ∙ sym (ap₂ ◌+ℚ◌ (number_at-image a u i) (number_at-image a w i))

image-same : (a : Matrix) (u w : Vector) (i : ℕ) → SameNumbers u w → number_at (image a u) i ≡ number_at (image a w) i
image-same a u w i same =
    number_at-image a u i ∙ dot-same (vector_at a i) u w same ∙ sym (number_at-image a w i)

half_size : size (over (negsuc 0) 2) ≡ over (pos 1) 2
unfolding opposite
half_size = size_of_opposite (over (negsuc 0) 2) (natural 1 2)

divided : (x z w r : Fraction) → w *ℚ x ≡ z +ℚ whole (pos 0) → w *ℚ r ≡ whole (pos 1) → x ≡ r *ℚ z
divided x z w r h e =
    equal (x ∷ z ∷ w ∷ r ∷ []) (ap₂ (λ p q. r *ℚ p +ℚ x *ℚ q) h (sym e)) (hlevel claims) refl

module _ (s : System) (small : HasSmallForward s) (keeps : KeepsDimension s) (six : length s.matrices ≡ 6) where
  abbrev at : ℕ → Matrix
  at m = matrix_at s.matrices m

  abbrev a : ℕ → Fraction
  a m = matrix_norm_at Sum s.matrices m

  abbrev n1 : Vector → Fraction
  n1 u = norm_of_vector Sum u

  factor_past : (m : ℕ) → 6 ≤ m → a m ≡ whole (pos 0)
  factor_past m b = matrix_norm_past Sum s.matrices m (omega (arith, six, b))

  image_past : (m : ℕ) (u : Vector) (i : ℕ) → 6 ≤ m → number_at (image (at m) u) i ≡ whole (pos 0)
  image_past m u i b = ap (λ x. number_at (image x u) i) (get_or_past s.matrices m [] (omega (arith, six, b)))

  -- w_0 A_0 u + .. + w_5 A_5 u
  abbrev combined : (ℕ → Fraction) → Vector → Vector
  combined w u = sum_over 6 (λ m. scale_list (w m) (image (at m) u))

  combined-at : (w : ℕ → Fraction) (u : Vector) (i : ℕ)
      → number_at (combined w u) i ≡ sum_to 6 (λ m. w m *ℚ number_at (image (at m) u) i)
  combined-at w u i =
      number_at-sum_over 6 (λ m. scale_list (w m) (image (at m) u)) i
      ∙ sum_to_ext 6 (λ m b. number_at-scale_list (w m) (image (at m) u) i)

  combined-norm : (w c : ℕ → Fraction) (u : Vector) → ((m : ℕ) → m < 6 → size (w m) ≤ℚ c m)
      → n1 (combined w u) ≤ℚ sum_to 6 (λ m. c m *ℚ a m) *ℚ n1 u
  combined-norm w c u within =
      le_trans (norm-sum_over Sum 6 (λ m. scale_list (w m) (image (at m) u)))
      (le_trans (sum_to_mono 6 each) (le_of_equal (sum_to_scale_right 6 (n1 u) (λ m. c m *ℚ a m))))
    where
      each : (m : ℕ) → m < 6 → n1 (scale_list (w m) (image (at m) u)) ≤ℚ (c m *ℚ a m) *ℚ n1 u
      each m b =
          le_trans (le_of_equal (norm-scale_list Sum (w m) (image (at m) u)))
          (le_trans (mul_mono (within m b) (norm-image Sum (at m) u) (size_natural (w m))
          (mul_natural (matrix_norms_natural Sum s.matrices m) (norm_natural Sum u)))
          (le_of_equal (ring (c m ∷ a m ∷ n1 u ∷ []) (hlevel terms) refl)))

  combined-sum : (w : ℕ → Fraction) (u x : Vector) (i : ℕ)
      → number_at (combined w (add_lists u x)) i ≡ number_at (combined w u) i +ℚ number_at (combined w x) i
  combined-sum w u x i =
      combined-at w (add_lists u x) i
      ∙ sum_to_ext 6 (λ m b. ap (λ z. w m *ℚ z) (image-sum (at m) u x i) ∙ spread (w m) _ _)
      ∙ sum_to_add 6 (λ m. w m *ℚ number_at (image (at m) u) i) (λ m. w m *ℚ number_at (image (at m) x) i)
      ∙ sym (ap₂ ◌+ℚ◌ (combined-at w u i) (combined-at w x i))
    where
      spread : (x y z : Fraction) → x *ℚ (y +ℚ z) ≡ x *ℚ y +ℚ x *ℚ z
      spread x y z = ring (x ∷ y ∷ z ∷ []) (hlevel terms) refl

  combined-same : (w : ℕ → Fraction) (u x : Vector) (i : ℕ) → SameNumbers u x
      → number_at (combined w u) i ≡ number_at (combined w x) i
  combined-same w u x i same =
      combined-at w u i ∙ sum_to_ext 6 (λ m b. ap (λ z. w m *ℚ z) (image-same (at m) u x i same))
      ∙ sym (combined-at w x i)

  -- the weights 1 / (m + 1), 1 / (m + 2), the first without its start, and half the first less the second
  abbrev first_weights : ℕ → Fraction
  first_weights m = over (pos 1) (suc m)

  abbrev second_weights : ℕ → Fraction
  second_weights m = over (pos 1) (suc (suc m))

  abbrev later_weights : ℕ → Fraction
  later_weights zero = whole (pos 0)
  later_weights (suc m) = over (pos 1) (suc (suc m))

  abbrev rest_weights : ℕ → Fraction
  rest_weights m = second_weights m -ℚ over (pos 1) 2 *ℚ first_weights m

  abbrev bounds_from_one : Fraction → ℕ → Fraction
  bounds_from_one c zero = whole (pos 0)
  bounds_from_one c (suc m) = c

  later-total : (c : Fraction) → sum_to 6 (λ m. bounds_from_one c m *ℚ a m) ≡ c *ℚ sum_to 5 (λ m. a (suc m))
  later-total c = ring (c ∷ a 0 ∷ a 1 ∷ a 2 ∷ a 3 ∷ a 4 ∷ a 5 ∷ []) (hlevel terms) refl

  within_one : (m : ℕ) → m < 6 → size (first_weights m) ≤ℚ whole (pos 1)
  within_one m b = le_trans (le_of_equal (size_of_natural (natural 1 (suc m))))
      (over_le_of_cross (pos 1) (pos 1) (suc m) 1 (omega arith) (omega arith) (omega (arith, ints)))

  within_half : (m : ℕ) → m < 6 → size (later_weights m) ≤ℚ bounds_from_one (over (pos 1) 2) m
  within_half zero b = le_of_equal size_zero
  within_half (suc m) b = le_trans (le_of_equal (size_of_natural (natural 1 (suc (suc m)))))
      (over_le_of_cross (pos 1) (pos 1) (suc (suc m)) 2 (omega arith) (omega arith) (omega (arith, ints)))

  within_twelfth : (m : ℕ) → m < 6 → size (rest_weights m) ≤ℚ bounds_from_one (over (pos 1) 12) m
  within_twelfth zero b = size_le_of_between (linear [] (natural 0 1) (hlevel claims) refl)
      (linear [] (natural 0 1) (hlevel claims) refl)
  within_twelfth (suc zero) b = size_le_of_between (linear [] (natural 0 1) (hlevel claims) refl)
      (linear [] (natural 0 1) (hlevel claims) refl)
  within_twelfth (suc (suc zero)) b = size_le_of_between (linear [] (natural 0 1) (hlevel claims) refl)
      (linear [] (natural 0 1) (hlevel claims) refl)
  within_twelfth (suc (suc (suc zero))) b = size_le_of_between (linear [] (natural 0 1) (hlevel claims) refl)
      (linear [] (natural 0 1) (hlevel claims) refl)
  within_twelfth (suc (suc (suc (suc zero)))) b = size_le_of_between (linear [] (natural 0 1) (hlevel claims) refl)
      (linear [] (natural 0 1) (hlevel claims) refl)
  within_twelfth (suc (suc (suc (suc (suc zero))))) b =
      size_le_of_between (linear [] (natural 0 1) (hlevel claims) refl)
      (linear [] (natural 0 1) (hlevel claims) refl)
  within_twelfth (suc (suc (suc (suc (suc (suc m)))))) b = absurd (omega (arith, b))

  -- P and J, the one-factor part and map
  abbrev P : Vector → Vector
  P u = combined first_weights u

  abbrev J : Vector → Vector
  J u = image (one_factor_map s.dimension s.matrices 6) u

  P-norm : (u : Vector) → n1 (P u) ≤ℚ sum_to 6 a *ℚ n1 u
  P-norm u =
      linear (n1 (P u) ∷ n1 u ∷ a 0 ∷ a 1 ∷ a 2 ∷ a 3 ∷ a 4 ∷ a 5 ∷ [])
      (combined-norm first_weights (λ m. whole (pos 1)) u within_one) (hlevel claims) refl

  J-numbers : (u : Vector) → length u ≤ s.dimension → SameNumbers (J u) (add_lists u (P u))
  J-numbers u fits i =
      one_factor_numbers s.matrices u s.dimension 6 i fits
      ∙ ap (λ z. number_at u i +ℚ z)
      (sum_to_ext 6 (λ m b. number_at-scale_list (over (pos 1) (suc m)) (image (at m) u) i)
      ∙ sym (combined-at first_weights u i))
      ∙ sym (number_at-add_lists u (P u) i)

  map_fits : (n : ℕ) → length (one_factor_map s.dimension s.matrices n) ≤ s.dimension
  map_fits zero = omega (arith, length-identity s.dimension)
  map_fits (suc n) = add_matrices_fits s.dimension (one_factor_map s.dimension s.matrices n)
      (scale_matrix (over (pos 1) (suc n)) (at n)) (map_fits n)
      (rw (length-scale_matrix (over (pos 1) (suc n)) (at n)) (keeps.rows n))

  J-fits : (u : Vector) → length (J u) ≤ s.dimension
  J-fits u = image_fits s.dimension (one_factor_map s.dimension s.matrices 6) u (map_fits 6)

  J-norm : (u : Vector) → n1 (J u) ≤ℚ n1 u
  J-norm u =
      let mean : norm_of_matrix Sum (one_factor_map s.dimension s.matrices 6) ≤ℚ whole (pos 1) =
      rw six at small.mean in
      linear (n1 (J u) ∷ norm_of_matrix Sum (one_factor_map s.dimension s.matrices 6) ∷ n1 u ∷ [])
      (norm-image Sum (one_factor_map s.dimension s.matrices 6) u ⊞ mean ⊠ norm_natural Sum u) (hlevel claims) refl

  module _ (v : Vector) (fits : length v ≤ s.dimension) where
    abbrev y : ℕ → Vector
    y k = coefficient (homogeneous s) v k

    recur : (k i : ℕ) → number_at (y (suc k)) i
        ≡ over (pos 1) (suc k) *ℚ sum_to (suc k) (λ m. number_at (image (at m) (y (k - m))) i)
    recur k i = divided (number_at (y (suc k)) i) (sum_to (suc k) (λ m. number_at (image (at m) (y (k - m))) i))
        (whole (pos (suc k))) (over (pos 1) (suc k)) (coefficients_recur (homogeneous s) v k i)
        (inverse (suc k) (omega arith))

    first-is : SameNumbers (y 1) (image (at 0) v)
    first-is i = recur 0 i ∙ ring (number_at (image (at 0) v) i ∷ []) (hlevel terms) refl

    -- what comes of the coefficients from power 2 on
    abbrev late : ℕ → Vector
    late j = scale_list (over (pos 1) (suc (suc j))) (sum_over j (λ m. image (at m) (y (suc j - m))))

    late-at : (j i : ℕ) → number_at (late j) i
        ≡ over (pos 1) (suc (suc j)) *ℚ sum_to j (λ m. number_at (image (at m) (y (suc j - m))) i)
    late-at j i =
        number_at-scale_list (over (pos 1) (suc (suc j))) (sum_over j (λ m. image (at m) (y (suc j - m)))) i
        ∙ ap (λ z. over (pos 1) (suc (suc j)) *ℚ z) (number_at-sum_over j (λ m. image (at m) (y (suc j - m))) i)

    next-is : (j i : ℕ) → number_at (y (suc (suc j))) i
        ≡ number_at (late j) i +ℚ over (pos 1) (suc (suc j)) *ℚ number_at (image (at j) (y 1)) i
        +ℚ over (pos 1) (suc (suc j)) *ℚ number_at (image (at (suc j)) v) i
    next-is j i =
        let r = over (pos 1) (suc (suc j)) in
        let before = sum_to j (λ m. number_at (image (at m) (y (suc j - m))) i) in
        let one : suc j - j ≡ 1 = omega arith in
        let none : suc j - suc j ≡ 0 = omega arith in
        recur (suc j) i
        ∙ ap₂ (λ p q. r *ℚ (before +ℚ number_at (image (at j) (y p)) i +ℚ number_at (image (at (suc j)) (y q)) i))
        one none
        ∙ ring (r ∷ before ∷ number_at (image (at j) (y 1)) i ∷ number_at (image (at (suc j)) v) i ∷ [])
        (hlevel terms) refl
        ∙ ap (λ z. z +ℚ r *ℚ number_at (image (at j) (y 1)) i +ℚ r *ℚ number_at (image (at (suc j)) v) i)
        (sym (late-at j i))

    -- the weighted sums end at power 5
    ends : (w : ℕ → Fraction) (u : Vector) (i n : ℕ) → 6 ≤ n
        → sum_to n (λ m. w m *ℚ number_at (image (at m) u) i) ≡ number_at (combined w u) i
    ends w u i n more =
        (let e : n ≡ 6 + (n - 6) = omega (arith, more) in
        ap (λ k. sum_to k (λ m. w m *ℚ number_at (image (at m) u) i)) e)
        ∙ sum_to_past 6 (n - 6) (λ m b. ap (λ z. w m *ℚ z) (image_past m u i b) ∙ nothing (w m))
        ∙ sym (combined-at w u i)
      where
        nothing : (x : Fraction) → x *ℚ whole (pos 0) ≡ whole (pos 0)
        nothing x = ring (x ∷ []) (hlevel terms) refl

    -- the value of degree r + 2
    value-is : (r i : ℕ) → 6 ≤ r → number_at (taylor_value (homogeneous s) v (suc (suc r))) i
        ≡ number_at v i +ℚ number_at (P v) i +ℚ number_at (combined second_weights (y 1)) i
        +ℚ number_at (sum_over (suc r) late) i
    value-is r i more =
        let I : ℕ → Vector → Fraction = λ m u. number_at (image (at m) u) i in
        let lates = sum_to (suc r) (λ j. number_at (late j) i) in
        let seconds = sum_to (suc r) (λ j. over (pos 1) (suc (suc j)) *ℚ I j (y 1)) in
        let firsts = sum_to (suc r) (λ j. over (pos 1) (suc (suc j)) *ℚ I (suc j) v) in
        taylor_value_sums (homogeneous s) v (suc (suc r)) i
        ∙ sum_to_first (suc (suc r)) (λ k. number_at (y k) i)
        ∙ ap (λ z. number_at v i +ℚ z)
        (sum_to_first (suc r) (λ k. number_at (y (suc k)) i)
        ∙ ap₂ ◌+ℚ◌ (first-is i)
        (sum_to_ext (suc r) (λ j b. next-is j i)
        ∙ sum_to_add (suc r) (λ j. number_at (late j) i +ℚ over (pos 1) (suc (suc j)) *ℚ I j (y 1))
        (λ j. over (pos 1) (suc (suc j)) *ℚ I (suc j) v)
        ∙ ap (λ z. z +ℚ firsts) (sum_to_add (suc r) (λ j. number_at (late j) i)
        (λ j. over (pos 1) (suc (suc j)) *ℚ I j (y 1)))))
        ∙ ring (number_at v i ∷ I 0 v ∷ lates ∷ seconds ∷ firsts ∷ []) (hlevel terms) refl
        ∙ ap₂ (λ p q. number_at v i +ℚ p +ℚ seconds +ℚ q)
        (sym (sum_to_first (suc r) (λ k. over (pos 1) (suc k) *ℚ I k v))
        ∙ ends first_weights v i (suc (suc r)) (omega (arith, more)))
        (sym (number_at-sum_over (suc r) late i))
        ∙ ap (λ p. number_at v i +ℚ number_at (P v) i +ℚ p +ℚ number_at (sum_over (suc r) late) i)
        (ends second_weights (y 1) i (suc r) (omega (arith, more)))

    -- the norms of the coefficients are driven by the factors alone
    abbrev norms : ℕ → Fraction
    norms k = n1 (y k)

    driven : (n : ℕ) → IsDriven n a (λ k. whole (pos 0)) norms
    driven n = norms_are_driven Sum (homogeneous s) v n

    later_factors : sum_to 5 (λ m. a (suc m)) ≤ℚ over (pos 1) 512
    later_factors = linear (a 1 ∷ a 2 ∷ a 3 ∷ a 4 ∷ a 5 ∷ []) small.later (hlevel claims) refl

    first-norm : norms 1 ≤ℚ over (pos 1) 96 *ℚ n1 v
    first-norm = first_most a norms driven small.first later_factors factor_past

    six_factors : sum_to 6 a ≤ℚ over (pos 19) 1536
    six_factors = six_total a norms driven small.first later_factors factor_past

    -- what comes of the coefficients from power 2 on is at most seven parts of 1536000
    late_zero : n1 (late 0) ≤ℚ whole (pos 0)
    late_zero = le_refl _

    late-norm : (j : ℕ) → n1 (late (suc j)) ≤ℚ over (pos 1) 3 *ℚ convolution a (λ k. norms (suc (suc k))) j
    late-norm j =
        let r = over (pos 1) (suc (suc (suc j))) in
        let third : r ≤ℚ over (pos 1) 3 =
        over_le_of_cross (pos 1) (pos 1) (suc (suc (suc j))) 3 (omega arith) (omega arith) (omega (arith, ints)) in
        let total = sum_to (suc j) (λ m. a m *ℚ norms (suc (suc j) - m)) in
        let inner = sum_over (suc j) (λ m. image (at m) (y (suc (suc j) - m))) in
        let within : n1 inner ≤ℚ total =
        le_trans (norm-sum_over Sum (suc j) (λ m. image (at m) (y (suc (suc j) - m))))
        (sum_to_mono (suc j) (λ m b. norm-image Sum (at m) (y (suc (suc j) - m)))) in
        let same : total ≡ convolution a (λ k. norms (suc (suc k))) j =
        sum_to_ext (suc j) (λ m b. ap (λ k. a m *ℚ norms k) (moved m b)) in
        let scaled : n1 (late (suc j)) ≡ r *ℚ n1 inner =
        norm-scale_list Sum r inner ∙ ap (λ z. z *ℚ n1 inner) (size_of_natural (natural 1 (suc (suc (suc j))))) in
        le_trans (le_of_equal scaled) (le_trans (shrink r (n1 inner) total third (norm_natural Sum inner) within)
        (le_of_equal (ap (λ z. over (pos 1) 3 *ℚ z) same)))
      where
        moved : (m : ℕ) → m < suc j → suc (suc j) - m ≡ suc (suc (j - m))
        moved m b = omega (arith, b)

        shrink : (r x t : Fraction) → r ≤ℚ over (pos 1) 3 → whole (pos 0) ≤ℚ x → x ≤ℚ t → r *ℚ x ≤ℚ over (pos 1) 3 *ℚ t
        shrink r x t hr hx ht = linear (r ∷ x ∷ t ∷ []) (hr ⊠ hx ⊞ ht ⊠ natural 1 3) (hlevel claims) refl

    late-total : (r : ℕ) → n1 (sum_over (suc r) late) ≤ℚ over (pos 7) 1536000 *ℚ n1 v
    late-total r =
        let z : ℕ → Fraction = λ k. norms (suc (suc k)) in
        let summed = norm-sum_over Sum (suc r) late in
        let split = sum_to_first r (λ j. n1 (late j)) in
        let each = sum_to_mono r {f = λ j. n1 (late (suc j))} {g = λ j. over (pos 1) 3 *ℚ convolution a z j}
        (λ j b. late-norm j) in
        let scaled = sum_to_scale r (over (pos 1) 3) (convolution a z) in
        let product = late_convolutions a norms driven small.first later_factors factor_past r in
        let tail = from_two a norms driven small.first later_factors factor_past r in
        gap (n1 (sum_over (suc r) late)) (sum_to (suc r) (λ j. n1 (late j))) (n1 (late 0))
        (sum_to r (λ j. n1 (late (suc j)))) (sum_to r (λ j. over (pos 1) 3 *ℚ convolution a z j))
        (sum_to r (convolution a z)) (sum_to r z) (n1 v)
        summed split late_zero each scaled product tail (norm_natural Sum v)
      where
        gap : (all total zeroth others thirds convolutions late v : Fraction) → all ≤ℚ total → total ≡ zeroth +ℚ others
            → zeroth ≤ℚ whole (pos 0) → others ≤ℚ thirds → thirds ≡ over (pos 1) 3 *ℚ convolutions
            → convolutions ≤ℚ over (pos 19) 1536 *ℚ late
            → late ≤ℚ over (pos 1) 2 *ℚ (over (pos 1) 512 *ℚ v +ℚ over (pos 19) 1536 *ℚ (over (pos 2) 127 *ℚ v))
            → whole (pos 0) ≤ℚ v → all ≤ℚ over (pos 7) 1536000 *ℚ v
        gap all total zeroth others thirds convolutions late v summed split none each scaled product tail some =
            linear (all ∷ total ∷ zeroth ∷ others ∷ thirds ∷ convolutions ∷ late ∷ v ∷ [])
            (summed ⊞ le_of_equal split ⊞ none ⊞ each ⊞ le_of_equal scaled ⊞ product ⊠ natural 1 3
            ⊞ tail ⊠ natural 19 4608 ⊞ some ⊠ natural 29003 224722944000) (hlevel claims) refl

    -- what A_1 .. A_5 add to the first order
    abbrev rest : Vector
    rest = combined later_weights v

    rest-norm : n1 rest ≤ℚ over (pos 1) 1024 *ℚ n1 v
    rest-norm =
        linear (n1 rest ∷ n1 v ∷ sum_to 6 (λ m. bounds_from_one (over (pos 1) 2) m *ℚ a m) ∷ sum_to 5 (λ m. a (suc m))
        ∷ [])
        (combined-norm later_weights (bounds_from_one (over (pos 1) 2)) v within_half
        ⊞ (le_of_equal (later-total (over (pos 1) 2)) ⊠ norm_natural Sum v)
        ⊞ (later_factors ⊠ norm_natural Sum v) ⊠ natural 1 2) (hlevel claims) refl

    order-is : SameNumbers (P v) (add_lists (y 1) rest)
    order-is i =
        combined-at first_weights v i
        ∙ ring (number_at (image (at 0) v) i ∷ number_at (image (at 1) v) i ∷ number_at (image (at 2) v) i
        ∷ number_at (image (at 3) v) i ∷ number_at (image (at 4) v) i ∷ number_at (image (at 5) v) i ∷ [])
        (hlevel terms) refl
        ∙ ap₂ ◌+ℚ◌ (sym (first-is i)) (sym (combined-at later_weights v i))
        ∙ sym (number_at-add_lists (y 1) rest i)

    -- the three errors
    abbrev second_error : Vector
    second_error = scale_list (over (negsuc 0) 2) (P rest)

    abbrev third_error : Vector
    third_error = combined rest_weights (y 1)

    second-norm : n1 second_error ≤ℚ over (pos 10) 1536000 *ℚ n1 v
    second-norm =
        let half : n1 second_error ≡ over (pos 1) 2 *ℚ n1 (P rest) =
        norm-scale_list Sum (over (negsuc 0) 2) (P rest) ∙ ap (λ z. z *ℚ n1 (P rest)) half_size in
        linear (n1 second_error ∷ n1 (P rest) ∷ sum_to 6 a ∷ n1 rest ∷ n1 v ∷ [])
        (le_of_equal half ⊞ P-norm rest ⊠ natural 1 2 ⊞ (six_factors ⊠ norm_natural Sum rest) ⊠ natural 1 2
        ⊞ rest-norm ⊠ natural 19 3072 ⊞ norm_natural Sum v ⊠ natural 37 78643200) (hlevel claims) refl

    third-norm : n1 third_error ≤ℚ over (pos 3) 1536000 *ℚ n1 v
    third-norm =
        let c = over (pos 1) 12 in
        linear (n1 third_error ∷ norms 1 ∷ n1 v ∷ sum_to 6 (λ m. bounds_from_one c m *ℚ a m)
        ∷ sum_to 5 (λ m. a (suc m)) ∷ [])
        (combined-norm rest_weights (bounds_from_one c) (y 1) within_twelfth
        ⊞ (le_of_equal (later-total c) ⊠ norm_natural Sum (y 1))
        ⊞ (later_factors ⊠ norm_natural Sum (y 1)) ⊠ natural 1 12 ⊞ first-norm ⊠ natural 1 6144
        ⊞ norm_natural Sum v ⊠ natural 19 73728000) (hlevel claims) refl

    -- the reference, which enlarges no vector
    abbrev reference : Vector
    reference = add_lists (scale_list (over (pos 1) 2) v) (scale_list (over (pos 1) 2) (J (J v)))

    reference-norm : n1 reference ≤ℚ n1 v
    reference-norm =
        linear (n1 reference ∷ n1 (scale_list (over (pos 1) 2) v) ∷ n1 (scale_list (over (pos 1) 2) (J (J v)))
        ∷ n1 (J (J v)) ∷ n1 (J v) ∷ n1 v ∷ [])
        (norm-add_lists Sum (scale_list (over (pos 1) 2) v) (scale_list (over (pos 1) 2) (J (J v)))
        ⊞ le_of_equal (halved v) ⊞ le_of_equal (halved (J (J v))) ⊞ J-norm (J v) ⊠ natural 1 2
        ⊞ J-norm v ⊠ natural 1 2) (hlevel claims) refl
      where
        halved : (u : Vector) → n1 (scale_list (over (pos 1) 2) u) ≡ over (pos 1) 2 *ℚ n1 u
        halved u = norm-scale_list Sum (over (pos 1) 2) u ∙ ap (λ z. z *ℚ n1 u) (size_of_natural (natural 1 2))

    reference-at : (i : ℕ) → number_at reference i
        ≡ number_at v i +ℚ number_at (P v) i +ℚ over (pos 1) 2 *ℚ number_at (P (P v)) i
    reference-at i =
        number_at-add_lists (scale_list (over (pos 1) 2) v) (scale_list (over (pos 1) 2) (J (J v))) i
        ∙ ap₂ ◌+ℚ◌ (number_at-scale_list (over (pos 1) 2) v i)
        (number_at-scale_list (over (pos 1) 2) (J (J v)) i
        ∙ ap (λ z. over (pos 1) 2 *ℚ z) (J-numbers (J v) (J-fits v) i
        ∙ number_at-add_lists (J v) (P (J v)) i
        ∙ ap₂ ◌+ℚ◌ (J-numbers v fits i ∙ number_at-add_lists v (P v) i)
        (combined-same first_weights (J v) (add_lists v (P v)) i (J-numbers v fits)
        ∙ combined-sum first_weights v (P v) i)))
        ∙ ring (number_at v i ∷ number_at (P v) i ∷ number_at (P (P v)) i ∷ []) (hlevel terms) refl

    rest_weights-at : (i : ℕ) → number_at third_error i
        ≡ number_at (combined second_weights (y 1)) i -ℚ over (pos 1) 2 *ℚ number_at (P (y 1)) i
    rest_weights-at i =
        combined-at rest_weights (y 1) i
        ∙ ring (number_at (image (at 0) (y 1)) i ∷ number_at (image (at 1) (y 1)) i ∷ number_at (image (at 2) (y 1)) i
        ∷ number_at (image (at 3) (y 1)) i ∷ number_at (image (at 4) (y 1)) i ∷ number_at (image (at 5) (y 1)) i ∷ [])
        (hlevel terms) refl
        ∙ sym (ap₂ (λ p q. p -ℚ over (pos 1) 2 *ℚ q) (combined-at second_weights (y 1) i)
        (combined-at first_weights (y 1) i))

    parts-are : (r : ℕ) → 6 ≤ r → SameNumbers (taylor_value (homogeneous s) v (suc (suc r)))
        (add_lists reference (add_lists (sum_over (suc r) late) (add_lists second_error third_error)))
    parts-are r more i =
        let lates = sum_over (suc r) late in
        value-is r i more
        ∙ by_parts (number_at v i) (number_at (P v) i) (number_at (combined second_weights (y 1)) i) (number_at lates i)
        (number_at (P (P v)) i) (number_at (P (y 1)) i) (number_at (P rest) i)
        (combined-same first_weights (P v) (add_lists (y 1) rest) i order-is ∙ combined-sum first_weights (y 1) rest i)
        ∙ sym (number_at-add_lists reference (add_lists lates (add_lists second_error third_error)) i
        ∙ ap₂ ◌+ℚ◌ (reference-at i) (number_at-add_lists lates (add_lists second_error third_error) i
        ∙ ap (λ z. number_at lates i +ℚ z) (number_at-add_lists second_error third_error i
        ∙ ap₂ ◌+ℚ◌ (number_at-scale_list (over (negsuc 0) 2) (P rest) i) (rest_weights-at i))))
      where
        by_parts : (x p q e pp py pr : Fraction) → pp ≡ py +ℚ pr
            → x +ℚ p +ℚ q +ℚ e ≡ (x +ℚ p +ℚ over (pos 1) 2 *ℚ pp)
            +ℚ (e +ℚ (over (negsuc 0) 2 *ℚ pr +ℚ (q -ℚ over (pos 1) 2 *ℚ py)))
        by_parts x p q e pp py pr h = rw h (ring (x ∷ p ∷ q ∷ e ∷ py ∷ pr ∷ []) (hlevel terms) refl)

    pub grows_little : (r : ℕ) → 6 ≤ r
        → n1 (taylor_value (homogeneous s) v (suc (suc r))) ≤ℚ over (pos 76801) 76800 *ℚ n1 v
    grows_little r more =
        let lates = sum_over (suc r) late in
        let errors = add_lists second_error third_error in
        linear (n1 (taylor_value (homogeneous s) v (suc (suc r)))
        ∷ n1 (add_lists reference (add_lists lates errors)) ∷ n1 reference ∷ n1 (add_lists lates errors) ∷ n1 lates
        ∷ n1 errors ∷ n1 second_error ∷ n1 third_error ∷ n1 v ∷ [])
        (le_of_equal (norm-same Sum _ _ (parts-are r more))
        ⊞ norm-add_lists Sum reference (add_lists lates errors) ⊞ reference-norm
        ⊞ norm-add_lists Sum lates errors ⊞ late-total r ⊞ norm-add_lists Sum second_error third_error
        ⊞ second-norm ⊞ third-norm) (hlevel claims) refl

pub small_forward_cells_grow_little : SmallForwardCellsGrowLittle
small_forward_cells_grow_little s v n small keeps six fits above =
    let e : n ≡ suc (suc (n - 2)) = omega (arith, above) in
    rw e (grows_little s small keeps six v fits (n - 2) (omega (arith, above)))
