-- A step whose stored and exact numbers are 0 above power 0, from a start of one number, is near the Taylor values.
use Rattle.std.specs.Prelude.{◌≡◌, ℕ, zero, suc, ◌+◌, ◌-◌, ◌^◌, ◌<◌, ◌≤◌, ℤ, pos, List, [], ◌∷◌, length, refl}
use Rattle.std.specs.Prelude.{slice_index_or}
use Rattle.std.proofs.Common.{ap, sym, ◌∙◌, subst, arith}
use Rattle.frac_laws.specs.Fraction.{Fraction, over, whole, size, ◌+ℚ◌, ◌*ℚ◌, ◌-ℚ◌, ◌≤ℚ◌}
use Rattle.frac_laws.specs.Lists.{Vector, number_at, vector_at, matrix_at, image}
use Rattle.frac_laws.specs.Norms.{Sup}
use Rattle.frac_laws.specs.Sums.{sum_to}
use Rattle.frac_laws.proofs.FractionTerms.{ring, terms}
use Rattle.frac_laws.proofs.Linear.{linear, claims, natural, ◌⊞◌}
use Rattle.frac_laws.proofs.Norms.{number_below_norm}
use Rattle.frac_laws.proofs.Order.{le_trans, le_of_equal, le_of_lt}
use Rattle.frac_laws.proofs.Sums.{sum_to_first, sum_to_zeros}
use Rattle.frac_laws.proofs.Vectors.{number_at-image, dot-sum}
use Rattle.cell_laws.specs.Systems.{System}
use Rattle.cell_laws.specs.Systems as exactly
use Rattle.cell_laws.specs.Tame.{IsTame, matrix_norm_at, vector_norm_at}
use Rattle.cell_laws.proofs.Recurrences.{coefficients_recur, taylor_value_sums}
use Rattle.cell_laws.proofs.TameSums.{total_within, free_within, first_weighted}
use Rattle.linear_system.specs.DegreeLimit.{greatest_power}
use Rattle.linear_system.specs.StandsFor.{units, StandsFor, in_units}
use Rattle.linear_system.specs.StoredSystem.{StoredSystem, IsSystem, dim_of, stored_number, stored_free}
use Rattle.taylor_step.specs.ConstantSteps.{IsConstantInX, HasOneNumber, StaysNear}
use Rattle.taylor_step.specs.RoundedRun.{stored_image}
use Rattle.taylor_step.specs.WholeRun.{coefficient, value_to}
use Rattle.taylor_step.proofs.ConstantErrors.{AreConstantRuns, sums_are_near}
use Rattle.taylor_step.proofs.ConstantRows.{nothing_later, size_at_most, sizes_at_zero}
use Rattle.taylor_step.proofs.Fits.{rows_in_sup}
use Rattle.taylor_step.proofs.Floors.{rounded_run, total_is}
use Rattle.taylor_step.proofs.Scaled.{unit, units_is, no_units}
use Rattle.taylor_step.proofs.StoredSizes.{row_within}

-- numbers in units, also past the end
pub number_in_units : (numbers : List ℤ) (i : ℕ)
    → number_at (in_units numbers) i ≡ units (slice_index_or numbers i (pos 0))
number_in_units [] i = sym no_units
number_in_units (x ∷ numbers) zero = refl
number_in_units (x ∷ numbers) (suc i) = number_in_units numbers i

-- a sum of which only the first term is not 0
first_alone : (k : ℕ) (f : ℕ → Fraction) (x : Fraction) → f 0 ≡ x → ((m : ℕ) → f (suc m) ≡ whole (pos 0))
    → sum_to (suc k) f ≡ x
first_alone k f x first later = sum_to_first k f ∙ alone (f 0) (sum_to k (λ m. f (suc m))) first
    (sum_to_zeros k (λ m b. later m))
  where
    alone : (p q : Fraction) → p ≡ x → q ≡ whole (pos 0) → p +ℚ q ≡ x
    alone p q e g = rw (e, g) (ring (x ∷ []) (hlevel terms) refl)

module _ (s : StoredSystem) (mid : List ℤ) (e : System) (kappa40 : ℕ) (sys : IsSystem s)
    (long : length mid ≡ dim_of s) (only : greatest_power s ≡ 0) (stands : StandsFor s e)
    (tame : IsTame Sup kappa40 e) (constant : IsConstantInX e) (one : HasOneNumber mid) where
  exact : ℕ → ℕ → Fraction
  exact row col = number_at (vector_at (matrix_at e.matrices 0) row) col

  stored : ℕ → ℕ → Fraction
  stored row col = units (stored_number s row col 0)

  free : ℕ → ℕ → Fraction
  free k row = number_at (vector_at e.free k) row

  kept : ℕ → ℕ → Fraction
  kept k row = units (stored_free s row k)

  -- the exact coefficients and the rounded ones
  y : ℕ → ℕ → Fraction
  y k row = number_at (exactly.coefficient e (in_units mid) k) row

  z : ℕ → ℕ → Fraction
  z k row = units (coefficient s mid k row)

  image_row : (m row : ℕ) (v : Vector) → number_at (image (matrix_at e.matrices m) v) row
      ≡ sum_to (dim_of s) (λ col. number_at (vector_at (matrix_at e.matrices m) row) col *ℚ number_at v col)
  image_row m row v = number_at-image (matrix_at e.matrices m) v row
      ∙ dot-sum (vector_at (matrix_at e.matrices m) row) v (dim_of s) (stands.matrices.columns m row)

  recurs : (k row : ℕ) → row < dim_of s
      → whole (pos (suc k)) *ℚ y (suc k) row ≡ sum_to (dim_of s) (λ col. exact row col *ℚ y k col) +ℚ free k row
  unfolding exact y free
  recurs k row b = coefficients_recur e (in_units mid) k row ∙ ap (λ t. t +ℚ free k row) (first_alone k
      (λ m. number_at (image (matrix_at e.matrices m) (exactly.coefficient e (in_units mid) (k - m))) row)
      (sum_to (dim_of s) (λ col. exact row col *ℚ y k col))
      (let same : k - 0 ≡ k = omega arith in
      ap (λ t. number_at (image (matrix_at e.matrices 0) (exactly.coefficient e (in_units mid) t)) row) same
      ∙ image_row 0 row (exactly.coefficient e (in_units mid) k))
      (λ m. image_row (suc m) row (exactly.coefficient e (in_units mid) (k - suc m))
      ∙ sum_to_zeros (dim_of s) (λ col c. ap (λ t. t *ℚ y (k - suc m) col)
      (constant.matrices row col (suc m) (omega arith)) ∙ ring (y (k - suc m) col ∷ []) (hlevel terms) refl)))

  stored_sum : (k row : ℕ) → row < dim_of s → sum_to (suc k) (λ m. stored_image s m (coefficient s mid (k - m)) row)
      ≡ sum_to (dim_of s) (λ col. stored row col *ℚ z k col)
  unfolding stored z
  stored_sum k row b = first_alone k (λ m. stored_image s m (coefficient s mid (k - m)) row)
      (sum_to (dim_of s) (λ col. stored row col *ℚ z k col))
      (let same : k - 0 ≡ k = omega arith in ap (λ t. stored_image s 0 (coefficient s mid t) row) same)
      (λ m. sum_to_zeros (dim_of s) (λ col c. ap (λ t. t *ℚ units (coefficient s mid (k - suc m) col))
      (nothing_later s mid sys long only row col m b (omega (arith, c)))
      ∙ ring (units (coefficient s mid (k - suc m) col) ∷ []) (hlevel terms) refl))

  runs : AreConstantRuns (dim_of s) exact stored free kept y z
  unfolding exact stored free kept y z
  runs = record {
    few = sys.dim_small;
    near = λ row col b c. stands.matrices.near row col 0 b c;
    rows = λ row b. le_trans (row_within (dim_of s) (matrix_at e.matrices 0) row)
        (first_norm (matrix_norm_at Sup e.matrices 0) (total_within Sup e.matrices 1) tame.total);
    stored_rows = λ row b. le_trans (sizes_at_zero (dim_of s) (2 ^ 58 + 288) (λ col m. stored_number s row col m)
        (rows_in_sup s e kappa40 sys stands tame 1 row (omega arith) b))
        (linear [] (natural 0 1) (hlevel claims) refl);
    free_small = λ row b. le_trans (number_below_norm Sup (vector_at e.free 0) row)
        (le_trans (le_of_equal (sym (first_weighted (vector_norm_at Sup e.free))))
        (le_trans (free_within Sup e.free 0) tame.free));
    free_near = λ row b. le_trans (stands.free.near row 0 b) (le_of_equal (units_is (pos 3)));
    free_later = λ k row b. constant.free row (suc k) (omega arith);
    kept_later = λ k row b. nothing_later s mid sys long only row (dim_of s) k b (omega arith);
    recurs = recurs;
    rounded_low = λ k row c b. subst
        (λ t. whole (pos 0) ≤ℚ (t +ℚ kept k row) -ℚ whole (pos (suc k)) *ℚ z (suc k) row) (stored_sum k row b)
        ((rounded_run s mid sys long 8).low k row c b);
    rounded_high = λ k row c b. subst
        (λ t. (t +ℚ kept k row) -ℚ whole (pos (suc k)) *ℚ z (suc k) row ≤ℚ whole (pos (suc k)) *ℚ unit)
        (stored_sum k row b) (le_of_lt ((rounded_run s mid sys long 8).high k row c b));
    starts = λ row b. number_in_units mid row ∙ ap units (sym ((rounded_run s mid sys long 8).first row b));
    place = one.place;
    others = λ col c. number_in_units mid col ∙ ap units (one.others col c) ∙ no_units;
    small = λ col. le_trans (le_of_equal (ap size (number_in_units mid col)))
        (le_trans (size_at_most (slice_index_or mid col (pos 0)) (2 ^ 64) (one.small col))
        (linear [] (natural 0 1) (hlevel claims) refl));
  }
    where
      first_norm : (x : Fraction) {t : Fraction} → whole (pos 0) +ℚ x ≤ℚ t → t ≤ℚ over (pos 1) 64 → x ≤ℚ over (pos 1) 64
      first_norm x {t} h k = linear (x ∷ t ∷ []) (h ⊞ k) (hlevel claims) refl

  pub constant_near : (new : List ℤ) (degree : ℕ) → degree ≡ 8
      → ((row : ℕ) → row < dim_of s → slice_index_or new row (pos 0) ≡ value_to s mid degree row)
      → StaysNear e mid new degree
  unfolding y z
  constant_near new degree eight sums n row late b =
      let b2 : row < dim_of s = subst (λ d. row < d) stands.dimension b in
      let late8 : 8 ≤ n = omega (arith, eight, late) in
      let total : units (slice_index_or new row (pos 0)) ≡ sum_to 9 (λ k. units (coefficient s mid k row)) =
      ap units (sums row b2 ∙ ap (λ t. value_to s mid t row) eight) ∙ total_is s mid sys long 8 row b2 in
      rw (total, taylor_value_sums e (in_units mid) n row, units_is (pos 16))
      (sums_are_near (dim_of s) exact stored free kept y z runs n row late8 b2)
