-- Norms of vectors and matrices whose numbers are all small.
use Rattle.std.specs.Prelude.{ℕ, suc, zero, pos, [], ◌∷◌, length, ◌≤◌}
use Rattle.std.proofs.Common.{refl, arith}
use Rattle.frac_laws.specs.Fraction.{Fraction, whole, ◌+ℚ◌, ◌*ℚ◌, ◌≤ℚ◌, size}
use Rattle.frac_laws.specs.Lists.{Vector, Matrix, number_at, vector_at}
use Rattle.frac_laws.specs.Norms.{Norm, Sup, Sum, sizes, norm_of_vector, row_sums, column_sums}
use Rattle.frac_laws.specs.Norms.{norm_of_matrix}
use Rattle.frac_laws.proofs.Linear.{linear, claims, natural, ◌⊞◌}
use Rattle.frac_laws.proofs.Signs.{mul_natural}
use Rattle.frac_laws.proofs.Quotients.{whole_suc}
use Rattle.frac_laws.proofs.Vectors.{number_at-add_lists}
use Rattle.frac_laws.proofs.Norms.{number_at-sizes, greatest_below}

-- each number of the vector is of at most r in size
abbrev pub AreWithin : Fraction → Vector → Type 0
AreWithin r v = (i : ℕ) → size (number_at v i) ≤ℚ r

times_natural : (d : ℕ) (r : Fraction) → whole (pos 0) ≤ℚ r → whole (pos 0) ≤ℚ whole (pos d) *ℚ r
times_natural d r h = mul_natural (natural d 1) h

one_more : (d : ℕ) (x s r : Fraction) → x ≤ℚ r → s ≤ℚ whole (pos d) *ℚ r
    → x +ℚ s ≤ℚ whole (pos (suc d)) *ℚ r
one_more d x s r h k =
    rw (whole_suc d) (linear (x ∷ s ∷ r ∷ whole (pos d) ∷ []) (h ⊞ k) (hlevel claims) refl)

-- in Sup
pub sup_of_small : (r : Fraction) (v : Vector) → whole (pos 0) ≤ℚ r → AreWithin r v
    → norm_of_vector Sup v ≤ℚ r
sup_of_small r v z h = greatest_below (sizes v) z (λ i. rw (number_at-sizes v i) (h i))

-- in Sum, of at most d numbers
pub sum_of_small : (d : ℕ) (r : Fraction) (v : Vector) → whole (pos 0) ≤ℚ r → length v ≤ d → AreWithin r v
    → norm_of_vector Sum v ≤ℚ whole (pos d) *ℚ r
sum_of_small d r [] z b h = times_natural d r z
sum_of_small zero r (x ∷ v) z b h = absurd (omega arith)
sum_of_small (suc d) r (x ∷ v) z b h =
    one_more d (size x) _ r (h 0) (sum_of_small d r v z (omega arith) (λ i. h (suc i)))

-- each number of a matrix of at most d rows and d columns is of at most r in size
pub record IsSmall (d : ℕ) (r : Fraction) (a : Matrix) : Type 0 where
  pub rows : length a ≤ d
  pub columns : (i : ℕ) → length (vector_at a i) ≤ d
  pub numbers : (i : ℕ) → AreWithin r (vector_at a i)

small_rows : (d : ℕ) (r : Fraction) (a : Matrix) → whole (pos 0) ≤ℚ r
    → ((i : ℕ) → length (vector_at a i) ≤ d)
    → ((i : ℕ) → AreWithin r (vector_at a i)) → (i : ℕ) → number_at (row_sums a) i ≤ℚ whole (pos d) *ℚ r
small_rows d r [] z c h i = times_natural d r z
small_rows d r (row ∷ a) z c h zero = sum_of_small d r row z (c 0) (h 0)
small_rows d r (row ∷ a) z c h (suc i) = small_rows d r a z (λ k. c (suc k)) (λ k. h (suc k)) i

small_columns : (d : ℕ) (r : Fraction) (a : Matrix) → whole (pos 0) ≤ℚ r → length a ≤ d
    → ((i : ℕ) → AreWithin r (vector_at a i)) → (j : ℕ) → number_at (column_sums a) j ≤ℚ whole (pos d) *ℚ r
small_columns d r [] z b h j = times_natural d r z
small_columns zero r (row ∷ a) z b h j = absurd (omega arith)
small_columns (suc d) r (row ∷ a) z b h j =
    rw (number_at-add_lists (sizes row) (column_sums a) j, number_at-sizes row j)
    (one_more d (size (number_at row j)) _ r (h 0 j)
    (small_columns d r a z (omega arith) (λ k. h (suc k)) j))

-- its norm is at most d r in both norms
pub matrix_norm_of_small : (norm : Norm) (d : ℕ) (r : Fraction) (a : Matrix) → whole (pos 0) ≤ℚ r
    → IsSmall d r a
    → norm_of_matrix norm a ≤ℚ whole (pos d) *ℚ r
matrix_norm_of_small Sup d r a z h =
    greatest_below (row_sums a) (times_natural d r z) (small_rows d r a z h.columns h.numbers)
matrix_norm_of_small Sum d r a z h =
    greatest_below (column_sums a) (times_natural d r z) (small_columns d r a z h.rows h.numbers)
