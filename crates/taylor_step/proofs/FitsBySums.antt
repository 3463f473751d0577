-- The products fit where each column's sizes add up to little: the sizes of no coefficient add up to more
-- than 2^66.
use Rattle.std.specs.Prelude.{◌≡◌, ℕ, suc, zero, pos, negsuc, ℤ, List, [], ◌∷◌, ◌++◌, length, refl, ◌<◌, ◌≤◌}
use Rattle.std.specs.Prelude.{◌+◌, ◌*◌, ◌/◌, ◌^◌, unsigned_abs, slice_index_or, sum_by}
use Rattle.std.proofs.Common.{ap, sym, ◌∙◌, arith}
use Rattle.std.proofs.lemmas.Int.{ints}
use Rattle.std.proofs.lemmas.List.Sums.{sum_by-cons}
use Rattle.std.proofs.Math.Nat.{div-div-eq-div-mul, div-le_self, div-mul-le_self}
use Rattle.frac_laws.specs.Fraction.{Fraction, whole, ◌+ℚ◌, ◌*ℚ◌, ◌≤ℚ◌}
use Rattle.frac_laws.specs.Rounding.{floor_of}
use Rattle.frac_laws.specs.Sums.{sum_to}
use Rattle.frac_laws.proofs.FractionTerms.{ring, terms}
use Rattle.frac_laws.proofs.Linear.{linear, claims, natural, ◌⊞◌, ◌⊠◌, ◌·◌}
use Rattle.frac_laws.proofs.Order.{le_trans, le_of_equal, le_refl, add_mono, mul_mono}
use Rattle.frac_laws.proofs.Quotients.{whole_le, whole_mul, whole_add}
use Rattle.frac_laws.proofs.Signs.{add_natural, mul_natural, sum_natural}
use Rattle.frac_laws.proofs.Sums.{sum_to_scale, sum_to_scale_right, sum_to_exchange, sum_to_add, sum_to_first}
use Rattle.frac_laws.proofs.Sums.{term_le_sum_to, sum_to_zeros}
use Rattle.fixed_num.specs.Products.{sum_of_products, sum_of_sizes}
use Rattle.linear_system.specs.StoredSystem.{StoredSystem, IsSystem, dim_of, row_of, stored_number}
use Rattle.taylor_step.specs.WholeRun.{strip, past, ProductsFit, new_number}
use Rattle.taylor_step.proofs.Floors.{one_per_unit}
use Rattle.taylor_step.proofs.FitsByRows.{below_by}
use Rattle.taylor_step.proofs.RowProducts.{row_products, matrix_part}
use Rattle.taylor_step.proofs.Scaled.{unit}
use Rattle.taylor_step.proofs.Sizes.{size_of}
use Rattle.taylor_step.proofs.StoredSizes.{sum_same}
use Rattle.taylor_step.proofs.SumForms.{sums_ordered}
use Rattle.taylor_step.proofs.Turns.{size-products}

-- at each power all columns' stored sizes are within a bound, and the bounds add up to at most a number of
-- units
pub record ColumnsAreWithin (s : StoredSystem) (bounds : ℕ → Fraction) (most : ℕ) : Type 0 where
  pub each : (m col : ℕ) → col < dim_of s → sum_to (dim_of s)
      (λ row. whole (size_of (stored_number s row col m))) ≤ℚ bounds m
  pub natural_bounds : (m : ℕ) → whole (pos 0) ≤ℚ bounds m
  pub total : (n : ℕ) → n ≤ 12 → sum_to n bounds ≤ℚ whole (pos most)

-- the size of a floor: at most a 2^64th of the number's, and one more
quotient_size : (n k : ℕ) → n / (2 ^ 64 * suc k) * 2 ^ 64 ≤ n
quotient_size n k =
    rw (← div-div-eq-div-mul n (2 ^ 64) (suc k))
    (omega (arith, div-le_self (n / 2 ^ 64) (suc k), div-mul-le_self n (2 ^ 64)))

floor_size : (z : ℤ) (k : ℕ) → unsigned_abs (floor_of z (pos (2 ^ 64 * suc k))) * 2 ^ 64 ≤ unsigned_abs z + 2
    ^ 64
floor_size (pos n) k = omega (arith, quotient_size n k)
floor_size (negsuc n) k = omega (arith, quotient_size n k)

-- the sizes of the start add up as the list's do
pub list_sizes : (l : List ℤ) (d : ℕ) → length l ≡ d
    → sum_to d (λ j. whole (size_of (slice_index_or (l ++ pos (2 ^ 64) ∷ []) j (pos 0)))) ≡ whole
    (pos (sum_by unsigned_abs l))
list_sizes [] zero e = refl
list_sizes [] (suc d) e = absurd (omega arith)
list_sizes (x ∷ l) zero e = absurd (omega arith)
list_sizes (x ∷ l) (suc d) e =
    sum_to_first d (λ j. whole (size_of (slice_index_or (x ∷ l ++ pos (2 ^ 64) ∷ []) j (pos 0))))
    ∙ ap (λ z. whole (size_of x) +ℚ z) (list_sizes l d (omega arith))
    ∙ sym (whole_add (size_of x) (pos (sum_by unsigned_abs l))) ∙ ap (λ n. whole (pos n))
    (sym (sum_by-cons unsigned_abs x l))

one_size : (l : List ℤ) (i : ℕ) → unsigned_abs (slice_index_or l i (pos 0)) ≤ sum_by unsigned_abs l
one_size [] i = omega arith
one_size (x ∷ l) zero = omega (arith, sum_by-cons unsigned_abs x l)
one_size (x ∷ l) (suc i) = omega (arith, sum_by-cons unsigned_abs x l, one_size l i)

-- n of 2^64 are at most s and one more, and s at most a part and the free column's
scaled_down : (n s part free p u : Fraction) → n *ℚ p ≤ℚ s +ℚ p → s ≤ℚ part +ℚ free → p *ℚ u ≡ whole (pos 1)
    → whole (pos 0) ≤ℚ u
    → n ≤ℚ (part +ℚ (free +ℚ p)) *ℚ u
scaled_down n s part free p u h k e hu =
    linear (n ∷ s ∷ part ∷ free ∷ p ∷ u ∷ []) ((h ⊞ k) ⊠ hu ⊞ n · sym e) (hlevel claims) refl

back_in_units : (x u : Fraction) → x ≤ℚ whole (pos (2 ^ 130)) → whole (pos (2 ^ 64)) *ℚ u ≡ whole (pos 1)
    → whole (pos 0) ≤ℚ u
    → x *ℚ u ≤ℚ whole (pos (2 ^ 66))
back_in_units x u h e hu = linear (x ∷ u ∷ []) (h ⊠ hu ⊞ whole (pos (2 ^ 66)) · e) (hlevel claims) refl

module _ (s : StoredSystem) (mid : List ℤ) (sys : IsSystem s) (long : length mid ≡ dim_of s)
    (bounds : ℕ → Fraction) (most : ℕ)
    (columns : ColumnsAreWithin s bounds most) (room : 2 ^ 66 * most + 2 ^ 123 < 2 ^ 126)
    (room_for_all : 2 ^ 66 * most + 24 * (2 ^ 123 + 2 ^ 64) ≤ 2 ^ 130)
    (small : sum_by unsigned_abs mid ≤ 2 ^ 66) where
  times_column : (k m : ℕ) → sum_to (dim_of s) (λ i. sum_to (dim_of s)
      (λ j. whole (size_of (stored_number s i j m)) *ℚ whole (size_of (past s mid k m j))))
      ≤ℚ bounds m *ℚ sum_to (dim_of s) (λ j. whole (size_of (past s mid k m j)))
  times_column k m =
      le_trans (le_of_equal (sum_to_exchange (dim_of s) (dim_of s)
      (λ i j. whole (size_of (stored_number s i j m)) *ℚ whole (size_of (past s mid k m j)))))
      (le_trans (sums_ordered (dim_of s) _ (λ j. bounds m *ℚ whole (size_of (past s mid k m j)))
      (λ j b. le_trans (le_of_equal (sum_to_scale_right (dim_of s) (whole (size_of (past s mid k m j)))
      (λ i. whole (size_of (stored_number s i j m)))))
      (mul_mono (columns.each m j b) (le_refl _) (sum_natural (dim_of s) _ (λ i. natural _ 1))
      (natural _ 1))))
      (le_of_equal (sum_to_scale (dim_of s) (bounds m) (λ j. whole (size_of (past s mid k m j))))))

  -- what the matrix adds up over all rows
  all_rows : (k : ℕ) → ((m : ℕ) → sum_to (dim_of s) (λ j. whole (size_of (past s mid k m j))) ≤ℚ whole
      (pos (2 ^ 66)))
      → sum_to (dim_of s) (matrix_part s mid k) ≤ℚ whole (pos (2 ^ 66)) *ℚ whole (pos most)
  all_rows k h =
      le_trans (le_of_equal (sum_to_exchange (dim_of s) (suc s.degree)
      (λ i m. sum_to (dim_of s) (λ j. whole (size_of (stored_number s i j m)) *ℚ whole
      (size_of (past s mid k m j))))))
      (le_trans (sums_ordered (suc s.degree) _ (λ m. whole (pos (2 ^ 66)) *ℚ bounds m)
      (λ m b. le_trans (times_column k m) (le_trans
      (mul_mono (le_refl (bounds m)) (h m) (columns.natural_bounds m) (natural (2 ^ 66) 1))
      (le_of_equal (ring (bounds m ∷ whole (pos (2 ^ 66)) ∷ []) (hlevel terms) refl)))))
      (le_trans (le_of_equal (sum_to_scale (suc s.degree) (whole (pos (2 ^ 66))) bounds))
      (mul_mono (le_refl _) (columns.total (suc s.degree) (let t = sys.degree_small in omega arith))
      (natural (2 ^ 66) 1) (natural most 1))))

  part_natural : (k i : ℕ) → whole (pos 0) ≤ℚ matrix_part s mid k i
  part_natural k i = sum_natural (suc s.degree) _ (λ m. sum_natural (dim_of s) _
      (λ j. mul_natural (natural _ 1) (natural _ 1)))

  fit_at : (k i : ℕ) → i < dim_of s → ((m : ℕ) → sum_to (dim_of s) (λ j. whole (size_of (past s mid k m j)))
      ≤ℚ whole (pos (2 ^ 66)))
      → sum_of_sizes (row_of s i).numbers (strip (row_of s i).columns (past s mid k) (suc s.degree)) < 2 ^ 126
  fit_at k i b h =
      below_by _ most (2 ^ 66) (le_trans (row_products s mid sys long k i b)
      (add_mono (le_trans (term_le_sum_to (dim_of s) i {f = matrix_part s mid k} (λ j c. part_natural k j) b)
      (all_rows k h)) (le_refl _))) room

  -- a new number's size is at most a 2^64th of what its row adds up
  new_size : (k i : ℕ) → i < dim_of s
      → whole (size_of (past s mid (suc k) 0 i)) ≤ℚ
      (matrix_part s mid k i +ℚ (whole (pos (2 ^ 123)) +ℚ whole (pos (2 ^ 64)))) *ℚ unit
  unfolding past
  new_size k i b =
      let z = sum_of_products (row_of s i).numbers (strip (row_of s i).columns (past s mid k)
      (suc s.degree)) in
      let n = unsigned_abs (new_number (row_of s i) s.degree (past s mid k) k) in
      scaled_down (whole (pos n)) (whole (pos (sum_of_sizes (row_of s i).numbers
      (strip (row_of s i).columns (past s mid k) (suc s.degree)))))
      (matrix_part s mid k i) (whole (pos (2 ^ 123))) (whole (pos (2 ^ 64))) unit (counted n _ (omega (
        arith,
        floor_size z k,
        size-products (row_of s i).numbers (strip (row_of s i).columns (past s mid k) (suc s.degree)),
      )))
      (row_products s mid sys long k i b) one_per_unit (natural 1 (2 ^ 64))
    where
      counted : (n s : ℕ) → n * 2 ^ 64 ≤ s + 2 ^ 64
          → whole (pos n) *ℚ whole (pos (2 ^ 64)) ≤ℚ whole (pos s) +ℚ whole (pos (2 ^ 64))
      counted n s h = rw (← whole_mul (pos n) (pos (2 ^ 64)), ← whole_add (pos s) (pos (2 ^ 64)))
          (whole_le (omega (arith, ints)))

  all_new : (k : ℕ) → ((m : ℕ) → sum_to (dim_of s) (λ j. whole (size_of (past s mid k m j))) ≤ℚ whole
      (pos (2 ^ 66)))
      → sum_to (dim_of s) (λ i. (matrix_part s mid k i +ℚ (whole (pos (2 ^ 123)) +ℚ whole (pos (2 ^ 64)))) *ℚ
      unit) ≤ℚ whole (pos (2 ^ 66))
  all_new k h =
      le_trans (le_of_equal (sum_to_scale_right (dim_of s) unit
      (λ i. matrix_part s mid k i +ℚ (whole (pos (2 ^ 123)) +ℚ whole (pos (2 ^ 64))))))
      (back_in_units _ unit
      (le_trans (le_of_equal (sum_to_add (dim_of s) (matrix_part s mid k)
      (λ i. whole (pos (2 ^ 123)) +ℚ whole (pos (2 ^ 64)))
      ∙ ap (λ z. sum_to (dim_of s) (matrix_part s mid k) +ℚ z) (sum_same (dim_of s) _)))
      (le_trans (add_mono (all_rows k h) (mul_mono (whole_le {n = pos (dim_of s)} {m = pos 24}
      (let d = sys.dim_small in omega (arith, ints))) (le_refl _)
      (natural (dim_of s) 1) (add_natural (natural (2 ^ 123) 1) (natural (2 ^ 64) 1)))) whole_room))
      one_per_unit (natural 1 (2 ^ 64)))
    where
      whole_room : whole (pos (2 ^ 66)) *ℚ whole (pos most) +ℚ whole (pos 24) *ℚ
          (whole (pos (2 ^ 123)) +ℚ whole (pos (2 ^ 64))) ≤ℚ whole (pos (2 ^ 130))
      whole_room =
          le_trans (le_of_equal (ring (whole (pos most) ∷ []) (hlevel terms) refl ∙ ap
          (λ z. z +ℚ whole (pos (24 * (2 ^ 123 + 2 ^ 64)))) (sym (whole_mul (pos (2 ^ 66)) (pos most)))
          ∙ sym (whole_add (pos (2 ^ 66 * most)) (pos (24 * (2 ^ 123 + 2 ^ 64))))))
          (whole_le (omega (arith, ints, room_for_all)))

  all_small : (k m : ℕ) → sum_to (dim_of s) (λ j. whole (size_of (past s mid k m j))) ≤ℚ whole (pos (2 ^ 66))
  unfolding past
  all_small zero zero = le_trans (le_of_equal (list_sizes mid (dim_of s) long))
      (whole_le (omega (arith, ints, small)))
  all_small zero (suc m) = le_trans (le_of_equal (sum_to_zeros (dim_of s) (λ j b. refl))) (natural (2 ^ 66) 1)
  all_small (suc k) zero = le_trans (sums_ordered (dim_of s) _ _ (λ i b. new_size k i b))
      (all_new k (all_small k))
  all_small (suc k) (suc m) = all_small k m

  pub fits_by_sums : ProductsFit s mid
  fits_by_sums = record {
    fit = λ k i _ b. fit_at k i b (all_small k);
    start_small = λ i. omega (arith, one_size mid i, small);
  }
