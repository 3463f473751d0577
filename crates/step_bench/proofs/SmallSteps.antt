-- A small system is tame, so that a step may be taken.
use Rattle.std.specs.Prelude.{◌≡◌, ℕ, pos, ℤ, List, [], ◌∷◌, refl, ◌<◌, ◌≤◌, ◌^◌, ◌⊎◌, unsigned_abs}
use Rattle.std.proofs.Common.{ap, sym, arith, inl, inr}
use Rattle.std.proofs.lemmas.Int.{ints}
use Rattle.std.proofs.lemmas.Bool.{cases_lt}
use Rattle.frac_laws.specs.Fraction.{Fraction, over, whole, ◌+ℚ◌, ◌*ℚ◌, ◌-ℚ◌, ◌≤ℚ◌, size}
use Rattle.frac_laws.specs.Lists.{number_at, vector_at, matrix_at}
use Rattle.frac_laws.specs.Norms.{Sup, norm_of_matrix}
use Rattle.frac_laws.proofs.Linear.{linear, claims, natural, ◌⊞◌, ◌⊠◌}
use Rattle.frac_laws.proofs.Norms.{size_zero, matrix_norm_natural}
use Rattle.frac_laws.proofs.Order.{le_trans, le_of_equal, le_refl}
use Rattle.frac_laws.proofs.Quotients.{whole_le}
use Rattle.frac_laws.proofs.SmallNumbers.{matrix_norm_of_small, sup_of_small}
use Rattle.frac_laws.proofs.Sums.{sum_to_natural}
use Rattle.frac_laws.proofs.Lengths.{number_at-past}
use Rattle.cell_laws.specs.Tame.{IsTame, matrix_norm_at, vector_norm_at, total_norm, one_factor_map}
use Rattle.linear_system.specs.StandsFor.{units, StandsFor}
use Rattle.linear_system.specs.StoredSystem.{StoredSystem, IsSystem, dim_of, row_of, stored_number, stored_free}
use Rattle.linear_system.proofs.NumbersInUnits.{equal_is_near}
use Rattle.step_laws.specs.StandsFor.{MatricesFit}
use Rattle.std.proofs.lemmas.List.{get_or_past}
use Rattle.step_laws.proofs.Listed.{matrices_of, vectors_of, matrices_fit, vectors_fit, entry_is, free_is}
use Rattle.step_bench.specs.Small.{IsSmallSystem}
use Rattle.step_bench.proofs.SmallNorms.{IsLow, one_factor_norm, total_low, weighted_low}
use Rattle.taylor_step.specs.CanStep.{CanStep, in_sup, AreAtMost}
use Rattle.taylor_step.proofs.Promise.{nothing_beyond}
use Rattle.taylor_step.proofs.Scaled.{unit, number_beyond, no_units}
use Rattle.taylor_step.proofs.Sizes.{size_of}
use Rattle.taylor_step.proofs.StoredSizes.{size_units}

-- 2^-24 is at least 0
least_natural : whole (pos 0) ≤ℚ whole (pos (2 ^ 40)) *ℚ unit
least_natural = linear [] (natural 1 (2 ^ 24)) (hlevel claims) refl

size_small : (z : ℤ) → unsigned_abs z ≤ 2 ^ 40 → size (units z) ≤ℚ whole (pos (2 ^ 40)) *ℚ unit
size_small z h = le_trans (le_of_equal (sym (size_units z)))
    (times (whole (size_of z)) (whole (pos (2 ^ 40))) unit (whole_le (omega (arith, ints, h))) (natural 1 (2 ^ 64)))
  where
    times : (x y u : Fraction) → x ≤ℚ y → whole (pos 0) ≤ℚ u → x *ℚ u ≤ℚ y *ℚ u
    times x y u h k = linear (x ∷ y ∷ u ∷ []) (h ⊠ k) (hlevel claims) refl

size_nothing : (z : ℤ) → z ≡ pos 0 → size (units z) ≤ℚ whole (pos 0)
size_nothing z e = rw (e, no_units, size_zero) (le_refl _)

module _ (s : StoredSystem) (sys : IsSystem s) (few : IsSmallSystem s) where
  entry_at_row : (m row col : ℕ) → row < dim_of s → col < dim_of s
      → number_at (vector_at (matrix_at
      (matrices_of (dim_of s) (λ m row col. units (stored_number s row col m))) m) row) col
      ≡ units (stored_number s row col m)
  entry_at_row m row col b c =
      entry_is (dim_of s) (λ m row col. units (stored_number s row col m))
      (λ m row col b c h. nothing_beyond s sys m row col b h) m row col b c

  free_at_row : (m row : ℕ) → row < dim_of s
      → number_at (vector_at (vectors_of (dim_of s) (λ m row. units (stored_free s row m))) m) row ≡ units
      (stored_free s row m)
  free_at_row m row b =
      free_is (dim_of s) (λ m row. units (stored_free s row m))
      (λ m row b h. nothing_beyond s sys m row (dim_of s) b h) m row b

  stands : StandsFor s (record {
    dimension = dim_of s;
    matrices = matrices_of (dim_of s) (λ m row col. units (stored_number s row col m));
    free = vectors_of (dim_of s) (λ m row. units (stored_free s row m));
  })
  stands =
      let fit = matrices_fit (dim_of s) (λ m row col. units (stored_number s row col m)) in
      let free_fit = vectors_fit (dim_of s) (λ m row. units (stored_free s row m)) in
      record {
        dimension = refl;
        matrices = record {
          near = λ row col m b c. equal_is_near _ _ 1 (entry_at_row m row col b c);
          rows = fit.rows;
          columns = fit.columns;
          no_more = λ row col m b. fit.no_more m row col b;
        };
        free = record {
          near = λ row m b. equal_is_near _ _ 3 (free_at_row m row b);
          rows = free_fit.numbers;
          no_more = λ row m b. free_fit.no_more m row b;
        };
      }

  nothing_late : (m row col : ℕ) → row < dim_of s → 6 ≤ m → stored_number s row col m ≡ pos 0
  nothing_late m row col b h =
      number_beyond (row_of s row) s.degree col m (sys.each row b).full (let l = few.low in omega arith)

  -- numbers that are at most r inside the matrix are so everywhere
  all_within : (m : ℕ) (r : Fraction) → whole (pos 0) ≤ℚ r
      → ((row col : ℕ) → row < dim_of s → col < dim_of s → size (units (stored_number s row col m)) ≤ℚ r)
      → (row col : ℕ) → size (number_at
      (vector_at (matrix_at (matrices_of (dim_of s) (λ m row col. units (stored_number s row col m))) m)
      row) col) ≤ℚ r
  all_within m r z h row col = by_place (cases_lt row (dim_of s)) (cases_lt col (dim_of s))
    where
      fit : MatricesFit (dim_of s) (matrices_of (dim_of s) (λ m row col. units (stored_number s row col m)))
      fit = matrices_fit (dim_of s) (λ m row col. units (stored_number s row col m))

      outside : (x : Fraction) → x ≡ whole (pos 0) → size x ≤ℚ r
      outside x e = rw (e, size_zero) z

      by_place : (row < dim_of s) ⊎ (dim_of s ≤ row) → (col < dim_of s) ⊎ (dim_of s ≤ col)
          → size (number_at (vector_at (matrix_at
          (matrices_of (dim_of s) (λ m row col. units (stored_number s row col m))) m) row) col) ≤ℚ r
      by_place (inl b) (inl c) = le_trans (le_of_equal (ap size (entry_at_row m row col b c))) (h row col b c)
      by_place (inl b) (inr c) = outside _
          (number_at-past (vector_at (matrix_at
          (matrices_of (dim_of s) (λ m row col. units (stored_number s row col m))) m) row) (dim_of s) col
          (fit.columns m row) c)
      by_place (inr b) c = outside _ (ap (λ v. number_at v col)
          (get_or_past (matrix_at (matrices_of (dim_of s) (λ m row col. units (stored_number s row col m))) m)
          row [] (let l = fit.rows m in omega (arith, l, b))))

  norm_within : (m : ℕ) (r : Fraction) → whole (pos 0) ≤ℚ r
      → ((row col : ℕ) → row < dim_of s → col < dim_of s → size (units (stored_number s row col m)) ≤ℚ r)
      → matrix_norm_at Sup (matrices_of (dim_of s) (λ m row col. units (stored_number s row col m))) m ≤ℚ whole
      (pos 12) *ℚ r
  norm_within m r z h =
      let fit = matrices_fit (dim_of s) (λ m row col. units (stored_number s row col m)) in
      le_trans (matrix_norm_of_small Sup (dim_of s) r
      (matrix_at (matrices_of (dim_of s) (λ m row col. units (stored_number s row col m))) m) z (record {
        rows = fit.rows m;
        columns = fit.columns m;
        numbers = all_within m r z h;
      })) (times (whole (pos (dim_of s))) (whole (pos 12)) r (let f = few.few in whole_le (omega (arith, ints, f))) z)
    where
      times : (x y u : Fraction) → x ≤ℚ y → whole (pos 0) ≤ℚ u → x *ℚ u ≤ℚ y *ℚ u
      times x y u h k = linear (x ∷ y ∷ u ∷ []) (h ⊠ k) (hlevel claims) refl

  free_within : (m : ℕ) (r : Fraction) → whole (pos 0) ≤ℚ r →
      ((row : ℕ) → row < dim_of s → size (units (stored_free s row m)) ≤ℚ r)
      → vector_norm_at Sup (vectors_of (dim_of s) (λ m row. units (stored_free s row m))) m ≤ℚ r
  free_within m r z h = sup_of_small r
      (vector_at (vectors_of (dim_of s) (λ m row. units (stored_free s row m))) m) z at_row
    where
      by_place : (row : ℕ) → (row < dim_of s) ⊎ (dim_of s ≤ row) → size
          (number_at (vector_at (vectors_of (dim_of s) (λ m row. units (stored_free s row m))) m) row) ≤ℚ r
      by_place row (inl b) = le_trans (le_of_equal (ap size (free_at_row m row b))) (h row b)
      by_place row (inr b) = rw (
        number_at-past (vector_at (vectors_of (dim_of s) (λ m row. units (stored_free s row m))) m) (dim_of s) row
            ((vectors_fit (dim_of s) (λ m row. units (stored_free s row m))).numbers m) b,
        size_zero,
      ) z

      at_row : (row : ℕ) → size (number_at
          (vector_at (vectors_of (dim_of s) (λ m row. units (stored_free s row m))) m) row) ≤ℚ r
      at_row row = by_place row (cases_lt row (dim_of s))

  matrix_low : IsLow (whole (pos 12) *ℚ (whole (pos (2 ^ 40)) *ℚ unit))
      (matrix_norm_at Sup (matrices_of (dim_of s) (λ m row col. units (stored_number s row col m))))
  matrix_low = record {
    early = λ m b. norm_within m _ least_natural
        (λ row col c d. size_small (stored_number s row col m) (few.small row col m));
    late = λ m b. le_trans (norm_within m (whole (pos 0)) (natural 0 1)
        (λ row col c d. size_nothing (stored_number s row col m) (nothing_late m row col c b)))
        (linear [] (natural 0 1) (hlevel claims) refl);
  }

  free_low : IsLow (whole (pos (2 ^ 40)) *ℚ unit)
      (vector_norm_at Sup (vectors_of (dim_of s) (λ m row. units (stored_free s row m))))
  free_low = record {
    early = λ m b. free_within m _ least_natural
        (λ row c. size_small (stored_free s row m) (few.small row (dim_of s) m));
    late = λ m b. free_within m (whole (pos 0)) (natural 0 1)
        (λ row c. size_nothing (stored_free s row m) (nothing_late m row (dim_of s) c b));
  }

  grows : (f n : Fraction) → whole (pos 0) ≤ℚ f → f ≤ℚ over (pos 1) 64 → n ≤ℚ whole (pos 1) +ℚ f
      → whole (pos 2) *ℚ (whole (pos 1) -ℚ f) *ℚ n +ℚ f *ℚ f ≤ℚ whole (pos 2) *ℚ (whole (pos 1) -ℚ f) *ℚ
      (whole (pos 1) +ℚ over (pos (2 ^ 40)) (2 ^ 40))
  grows f n h k l =
      let rest : whole (pos 0) ≤ℚ whole (pos 2) *ℚ (whole (pos 1) -ℚ f) = linear (f ∷ []) (k ⊞ k)
      (hlevel claims) refl in
      linear (f ∷ n ∷ []) (l ⊠ rest ⊞ k ⊞ k ⊞ k ⊞ k ⊞ h ⊠ h) (hlevel claims) refl

  tame : IsTame Sup (2 ^ 40) (record {
    dimension = dim_of s;
    matrices = matrices_of (dim_of s) (λ m row col. units (stored_number s row col m));
    free = vectors_of (dim_of s) (λ m row. units (stored_free s row m));
  })
  tame =
      let total = total_low (whole (pos 12) *ℚ (whole (pos (2 ^ 40)) *ℚ unit))
      (matrix_norm_at Sup (matrices_of (dim_of s) (λ m row col. units (stored_number s row col m)))) matrix_low in
      let small : total_norm Sup (matrices_of (dim_of s) (λ m row col. units (stored_number s row col m))) ≤ℚ
      over (pos 1) 64 =
      linear (total_norm Sup (matrices_of (dim_of s) (λ m row col. units (stored_number s row col m))) ∷ [])
      total (hlevel claims) refl in
      record {
        total = small;
        matrices = le_trans (weighted_low (whole (pos 12) *ℚ (whole (pos (2 ^ 40)) *ℚ unit)) _ matrix_low)
            (linear [] (natural 0 1) (hlevel claims) refl);
        free = le_trans (weighted_low (whole (pos (2 ^ 40)) *ℚ unit) _ free_low)
            (linear [] (natural 0 1) (hlevel claims) refl);
        growth = grows (total_norm Sup (matrices_of (dim_of s) (λ m row col. units (stored_number s row col m))))
            (norm_of_matrix Sup (one_factor_map (dim_of s)
            (matrices_of (dim_of s) (λ m row col. units (stored_number s row col m))) 12))
            (sum_to_natural 12 {f = matrix_norm_at Sup
            (matrices_of (dim_of s) (λ m row col. units (stored_number s row col m)))}
            (λ m b. matrix_norm_natural Sup
            (matrix_at (matrices_of (dim_of s) (λ m row col. units (stored_number s row col m))) m)))
            small (one_factor_norm (dim_of s)
            (matrices_of (dim_of s) (λ m row col. units (stored_number s row col m))) 12);
      }

  pub small_can_step : (mid : List ℤ) → AreAtMost (2 ^ 65) mid → CanStep s mid
  small_can_step mid small = in_sup _ (2 ^ 40) stands tame small
