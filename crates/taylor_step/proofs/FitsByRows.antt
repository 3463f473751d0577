-- The products fit where each row's sizes add up to little: no coefficient outgrows the bound of the start.
use Rattle.std.specs.Prelude.{◌≡◌, ℕ, suc, zero, pos, ℤ, List, [], ◌∷◌, ◌++◌, length, refl, ◌<◌, ◌≤◌, ◌+◌}
use Rattle.std.specs.Prelude.{◌*◌, ◌^◌, unsigned_abs, slice_index_or}
use Rattle.std.proofs.Common.{ap, sym, ◌∙◌, arith, add-one}
use Rattle.std.proofs.lemmas.Int.{ints}
use Rattle.frac_laws.specs.Fraction.{whole, ◌+ℚ◌, ◌*ℚ◌, ◌≤ℚ◌}
use Rattle.frac_laws.specs.Sums.{sum_to}
use Rattle.frac_laws.proofs.Linear.{linear, claims, natural, ◌⊠◌}
use Rattle.frac_laws.proofs.Order.{le_trans, le_of_equal, le_refl, add_mono, mul_mono}
use Rattle.frac_laws.proofs.Quotients.{whole_le, le_of_whole, whole_mul, whole_add}
use Rattle.frac_laws.proofs.Sums.{sum_to_scale}
use Rattle.fixed_num.specs.Products.{sum_of_products, sum_of_sizes}
use Rattle.linear_system.specs.StoredSystem.{StoredSystem, IsSystem, dim_of, row_of, stored_number}
use Rattle.taylor_step.specs.CanStep.{AreAtMost}
use Rattle.taylor_step.specs.WholeRun.{strip, past, ProductsFit}
use Rattle.taylor_step.proofs.RowProducts.{row_products}
use Rattle.taylor_step.proofs.Sizes.{size_of}
use Rattle.taylor_step.proofs.SumForms.{sums_ordered}
use Rattle.taylor_step.proofs.Turns.{floor_small, size-products}

-- each row's stored sizes, over all powers, add up to at most a number of units
abbrev pub RowsAreWithin : StoredSystem → ℕ → Type 0
RowsAreWithin s most = (n row : ℕ) → n ≤ 12 → row < dim_of s
    → sum_to n (λ m. sum_to (dim_of s) (λ col. whole (size_of (stored_number s row col m)))) ≤ℚ whole
    (pos most)

-- a number that a product bounds, as a whole number
pub below_by : (n r y : ℕ) → whole (pos n) ≤ℚ whole (pos y) *ℚ whole (pos r) +ℚ whole (pos (2 ^ 123))
    → y * r + 2 ^ 123 < 2 ^ 126
    → n < 2 ^ 126
below_by n r y h k =
    omega (
      arith,
      ints,
      le_of_whole {n = pos n} {m = pos (y * r + 2 ^ 123)}
          (le_trans h (le_of_equal (ap (λ z. z +ℚ whole (pos (2 ^ 123))) (sym (whole_mul (pos y) (pos r)))
          ∙ sym (whole_add (pos (y * r)) (pos (2 ^ 123)))))),
    )

-- the numbers of the start
pub started : (l : List ℤ) (j d most : ℕ) → length l ≡ d → j < d
    → ((i : ℕ) → unsigned_abs (slice_index_or l i (pos 0)) ≤ most)
    → unsigned_abs (slice_index_or (l ++ pos (2 ^ 64) ∷ []) j (pos 0)) ≤ most
started [] j d most l b h = absurd (omega arith)
started (x ∷ l) zero d most e b h = h 0
started (x ∷ l) (suc j) zero most e b h = absurd (omega arith)
started (x ∷ l) (suc j) (suc d) most e b h = started l j d most (omega arith) (omega arith) (λ i. h (suc i))

module _ (s : StoredSystem) (mid : List ℤ) (sys : IsSystem s) (long : length mid ≡ dim_of s)
    (row_most most : ℕ)
    (rows : RowsAreWithin s row_most) (room : most * row_most + 2 ^ 123 < 2 ^ 126) (great : 2 ^ 62 ≤ most)
    (small : AreAtMost most mid) where
  Below : ℕ → Type 0
  Below k = (m j : ℕ) → j < dim_of s → unsigned_abs (past s mid k m j) ≤ most

  size_below : (z : ℤ) (v : ℕ) → v ≤ most → whole (size_of z) *ℚ whole (pos v) ≤ℚ whole (pos most) *ℚ whole
      (size_of z)
  size_below z v h =
      linear (whole (size_of z) ∷ whole (pos v) ∷ whole (pos most) ∷ [])
      (natural (unsigned_abs z) 1 ⊠ whole_le {n = pos v} {m = pos most} (omega (arith, ints))) (hlevel claims)
      refl

  matrix_below : (k i : ℕ) → i < dim_of s → ((m j : ℕ) → j < dim_of s
      → unsigned_abs (past s mid k m j) ≤ most)
      → sum_to (suc s.degree) (λ m. sum_to (dim_of s)
      (λ j. whole (size_of (stored_number s i j m)) *ℚ whole (size_of (past s mid k m j))))
      ≤ℚ whole (pos most) *ℚ whole (pos row_most)
  matrix_below k i b h =
      le_trans (sums_ordered (suc s.degree) _ (λ m. whole (pos most) *ℚ sum_to (dim_of s)
      (λ j. whole (size_of (stored_number s i j m))))
      (λ m c. le_trans (sums_ordered (dim_of s) _ (λ j. whole (pos most) *ℚ whole
      (size_of (stored_number s i j m)))
      (λ j d. size_below (stored_number s i j m) _ (h m j d)))
      (le_of_equal (sum_to_scale (dim_of s) (whole (pos most))
      (λ j. whole (size_of (stored_number s i j m)))))))
      (le_trans (le_of_equal (sum_to_scale (suc s.degree) (whole (pos most))
      (λ m. sum_to (dim_of s) (λ j. whole (size_of (stored_number s i j m))))))
      (mul_mono (le_refl _) (rows (suc s.degree) i (let t = sys.degree_small in omega arith) b)
      (natural most 1) (natural row_most 1)))

  fit_at : (k i : ℕ) → i < dim_of s → ((m j : ℕ) → j < dim_of s → unsigned_abs (past s mid k m j) ≤ most)
      → sum_of_sizes (row_of s i).numbers (strip (row_of s i).columns (past s mid k) (suc s.degree)) < 2 ^ 126
  fit_at k i b h =
      below_by _ row_most most (le_trans (row_products s mid sys long k i b)
      (add_mono (matrix_below k i b h) (le_refl _))) room

  all_small : (k m j : ℕ) → j < dim_of s → unsigned_abs (past s mid k m j) ≤ most
  unfolding past
  all_small zero zero j b = started mid j (dim_of s) most long b small
  all_small zero (suc m) j b = omega arith
  all_small (suc k) zero j b =
      rw (← add-one k) (omega (
        arith,
        great,
        floor_small (sum_of_products (row_of s j).numbers
            (strip (row_of s j).columns (past s mid k) (suc s.degree))) k
            (omega (
              arith,
              size-products (row_of s j).numbers (strip (row_of s j).columns (past s mid k) (suc s.degree)),
              fit_at k j b (all_small k),
            )),
      ))
  all_small (suc k) (suc m) j b = all_small k m j b

  pub fits_by_rows : most ≤ 2 ^ 66 → ProductsFit s mid
  fits_by_rows h = record {
    fit = λ k i _ b. fit_at k i b (all_small k);
    start_small = λ i. omega (arith, small i, h);
  }
