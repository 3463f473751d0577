-- The sizes that one exact sum adds up: those of the matrix, and at most 2^123 of the free column.
use Rattle.std.specs.Prelude.{◌≡◌, ℕ, suc, zero, pos, ℤ, List, [], ◌∷◌, length, refl, ◌<◌, ◌≤◌, ◌+◌, ◌*◌, ◌-◌}
use Rattle.std.specs.Prelude.{◌^◌, unsigned_abs, cond, nat_eq, Bool, true, false}
use Rattle.std.proofs.Common.{ap, sym, ◌∙◌, arith}
use Rattle.std.proofs.lemmas.Int.{ints}
use Rattle.frac_laws.specs.Fraction.{Fraction, whole, ◌+ℚ◌, ◌*ℚ◌, ◌≤ℚ◌}
use Rattle.frac_laws.specs.Sums.{sum_to}
use Rattle.frac_laws.proofs.FractionTerms.{ring, terms}
use Rattle.frac_laws.proofs.Linear.{natural}
use Rattle.frac_laws.proofs.Order.{le_trans, le_of_equal, le_refl, add_mono}
use Rattle.frac_laws.proofs.Quotients.{whole_le, whole_mul}
use Rattle.frac_laws.proofs.Signs.{mul_natural}
use Rattle.frac_laws.proofs.Sums.{sum_to_add, sum_to_zero, sum_to_longer}
use Rattle.fixed_num.specs.Products.{sum_of_sizes}
use Rattle.linear_system.specs.StoredSystem.{StoredSystem, IsSystem, IsRow, dim_of, row_of, stored_number}
use Rattle.linear_system.specs.StoredSystem.{stored_free, number_in_row, place_of}
use Rattle.taylor_step.specs.WholeRun.{strip, past, coefficient}
use Rattle.taylor_step.proofs.Scaled.{past-back, past-none, free-first, free-later, sum_longer}
use Rattle.taylor_step.proofs.Sizes.{size_of, sizes_sum}
use Rattle.taylor_step.proofs.SumForms.{sums_equal}

-- a sum of which one term alone is not 0
one_term : (n k : ℕ) (f : ℕ → Fraction) (g : Fraction) → ((m : ℕ) → whole (pos 0) ≤ℚ f m)
    → ((m : ℕ) → m < k → f m ≡ whole (pos 0))
    → ((m : ℕ) → suc k ≤ m → f m ≡ whole (pos 0)) → f k ≤ℚ g → sum_to n f ≤ℚ g
one_term n k f g s before after h =
    le_trans (sum_to_longer n (suc k + n) {f = f} (λ m b. s m) (omega arith))
    (le_trans (le_of_equal (sum_longer (suc k) n f after ∙ ap (λ z. z +ℚ f k)
    (sums_equal k f (λ m. whole (pos 0)) before ∙ sum_to_zero k)
    ∙ ring (f k ∷ []) (hlevel terms) refl)) h)

pub held_small : (r : _) (dim degree j m : ℕ) → IsRow dim degree r → unsigned_abs (number_in_row r j m) ≤ 2 ^ 59
held_small r dim degree j m h =
    cases (nat_eq (place_of r.columns j) (length r.columns)) _
    (h.small (m * length r.columns + place_of r.columns j))
  where
    cases : (b : Bool) (x : ℤ) → unsigned_abs x ≤ 2 ^ 59 → unsigned_abs (cond b (pos 0) x) ≤ 2 ^ 59
    cases true x g = omega arith
    cases false x g = g

-- the sizes that the matrix adds up at a row
abbrev pub matrix_part : StoredSystem → List ℤ → ℕ → ℕ → Fraction
matrix_part s mid k i = sum_to (suc s.degree) (λ m. sum_to (dim_of s)
    (λ j. whole (size_of (stored_number s i j m)) *ℚ whole (size_of (past s mid k m j))))

module _ (s : StoredSystem) (mid : List ℤ) (sys : IsSystem s) (long : length mid ≡ dim_of s) where
  at_column : ℕ → ℕ → ℕ → Fraction
  at_column k i m = whole (size_of (stored_free s i m)) *ℚ whole (size_of (past s mid k m (dim_of s)))

  sign_of : (k i m : ℕ) → whole (pos 0) ≤ℚ at_column k i m
  unfolding at_column
  sign_of k i m = mul_natural (natural _ 1) (natural _ 1)

  column_none : (k i m : ℕ) → past s mid k m (dim_of s) ≡ pos 0 → at_column k i m ≡ whole (pos 0)
  unfolding at_column
  column_none k i m e = ap (λ z. whole (size_of (stored_free s i m)) *ℚ whole (size_of z)) e ∙ ring
      (whole (size_of (stored_free s i m)) ∷ []) (hlevel terms) refl

  column_before : (k i m : ℕ) → m < k → at_column k i m ≡ whole (pos 0)
  column_before k i m h = column_none k i m (past-back s mid k m (dim_of s) (omega arith) ∙ later (k - m)
      (omega arith))
    where
      later : (q : ℕ) → 0 < q → coefficient s mid q (dim_of s) ≡ pos 0
      later zero c = absurd (omega arith)
      later (suc q) c = free-later s mid q

  column_now : (k i : ℕ) → i < dim_of s → at_column k i k ≤ℚ whole (pos (2 ^ 123))
  unfolding at_column
  column_now k i b =
      rw (past-back s mid k k (dim_of s) (omega arith))
      (let e : k - k ≡ 0 = omega arith in rw (e, free-first s mid long)
      (top (unsigned_abs (stored_free s i k)) (held_small (row_of s i) (dim_of s) s.degree (dim_of s) k
      (sys.each i b))))
    where
      top : (n : ℕ) → n ≤ 2 ^ 59 → whole (pos n) *ℚ whole (pos (2 ^ 64)) ≤ℚ whole (pos (2 ^ 123))
      top n h = le_trans (le_of_equal (sym (whole_mul (pos n) (pos (2 ^ 64)))))
          (whole_le (omega (arith, ints)))

  column_sum : (n k i : ℕ) → i < dim_of s → sum_to n (at_column k i) ≤ℚ whole (pos (2 ^ 123))
  column_sum n k i b = one_term n k (at_column k i) (whole (pos (2 ^ 123))) (sign_of k i) (column_before k i)
      (λ m h. column_none k i m (past-none s mid k m (dim_of s) h)) (column_now k i b)

  pub row_products : (k i : ℕ) → i < dim_of s
      → whole (pos (sum_of_sizes (row_of s i).numbers
      (strip (row_of s i).columns (past s mid k) (suc s.degree))))
      ≤ℚ matrix_part s mid k i +ℚ whole (pos (2 ^ 123))
  unfolding at_column
  row_products k i b =
      let row = sys.each i b in
      let full : (s.degree + 1) * length (row_of s i).columns ≡ suc s.degree * length (row_of s i).columns =
      grind arith in
      le_trans (le_of_equal (sizes_sum (suc (dim_of s)) (row_of s i) (past s mid k) (suc s.degree)
      row.columns.distinct (row.full ∙ full)
      ∙ sum_to_add (suc s.degree)
      (λ m. sum_to (dim_of s) (λ j. whole (size_of (stored_number s i j m)) *ℚ whole
      (size_of (past s mid k m j)))) (at_column k i)))
      (add_mono (le_refl _) (column_sum (suc s.degree) k i b))
