-- The stored numbers are hardly larger than the exact ones: sums of sizes along a row and along a column.
use Rattle.std.specs.Prelude.{◌≡◌, ℕ, suc, zero, pos, negsuc, ℤ, List, [], ◌∷◌, refl, ◌<◌, ◌*◌, ◌^◌}
use Rattle.std.proofs.Common.{ap, sym, ◌∙◌}
use mathlib.Core.Path.{ap₂}
use Rattle.frac_laws.specs.Fraction.{Fraction, whole, ◌+ℚ◌, ◌*ℚ◌, ◌-ℚ◌, ◌≤ℚ◌, size}
use Rattle.frac_laws.specs.Lists.{Vector, Matrix, number_at, vector_at, matrix_at}
use Rattle.frac_laws.specs.Norms.{Sup, Sum, sizes, norm_of_matrix, row_sums, column_sums}
use Rattle.frac_laws.specs.Sums.{sum_to, sum_of_list}
use Rattle.frac_laws.proofs.FractionTerms.{ring, terms}
use Rattle.frac_laws.proofs.Linear.{linear, claims, natural, ◌⊞◌, ◌⊠◌, ◌·◌}
use Rattle.frac_laws.proofs.Norms.{number_at-sizes, number_below_greatest, sum_of_sizes_natural, size_zero}
use Rattle.frac_laws.proofs.Order.{le_trans, le_of_equal, le_refl, add_mono}
use Rattle.frac_laws.proofs.Quotients.{whole_suc, whole_mul, whole-opposite}
use Rattle.frac_laws.proofs.Signs.{add_natural}
use Rattle.frac_laws.proofs.Sizes.{size_le, le_size, opposite_le_size, size_mul, size_of_natural}
use Rattle.frac_laws.proofs.Sizes.{size-opposite, size_natural}
use Rattle.frac_laws.proofs.Sums.{sum_to_first, sum_to_scale_right, sum_to_add, sum_to_zeros}
use Rattle.frac_laws.proofs.Vectors.{number_at-add_lists}
use Rattle.cell_laws.specs.Tame.{matrix_norm_at, total_norm}
use Rattle.cell_laws.proofs.TameSums.{total_within}
use Rattle.linear_system.specs.StandsFor.{units, MatricesStandNear}
use Rattle.taylor_step.proofs.Floors.{one_per_unit}
use Rattle.taylor_step.proofs.Scaled.{unit, units_is}
use Rattle.taylor_step.proofs.Sizes.{size_of}
use Rattle.taylor_step.proofs.SumForms.{sums_ordered}

size_whole : (z : ℤ) → size (whole z) ≡ whole (size_of z)
size_whole (pos n) = size_of_natural (natural n 1)
size_whole (negsuc n) =
    ap size (whole-opposite (pos (suc n))) ∙ size-opposite (whole (pos (suc n))) ∙ size_of_natural
    (natural (suc n) 1)

pub size_units : (z : ℤ) → whole (size_of z) *ℚ unit ≡ size (units z)
size_units z =
    sym (ap size (units_is z) ∙ size_mul (whole z) unit ∙ ap₂ ◌*ℚ◌ (size_whole z)
    (size_of_natural (natural 1 (2 ^ 64))))

near_size : (x n u : Fraction) → size (x -ℚ n) ≤ℚ u → size n ≤ℚ size x +ℚ u
near_size x n u h =
    size_le
    (linear (x ∷ n ∷ u ∷ size x ∷ size (x -ℚ n) ∷ []) (le_size x ⊞ opposite_le_size (x -ℚ n) ⊞ h)
    (hlevel claims) refl)
    (linear (x ∷ n ∷ u ∷ size x ∷ size (x -ℚ n) ∷ []) (opposite_le_size x ⊞ le_size (x -ℚ n) ⊞ h)
    (hlevel claims) refl)

pub sum_same : (d : ℕ) (u : Fraction) → sum_to d (λ j. u) ≡ whole (pos d) *ℚ u
sum_same zero u = ring (u ∷ []) (hlevel terms) refl
sum_same (suc d) u =
    ap (λ z. z +ℚ u) (sum_same d u) ∙ ring (whole (pos d) ∷ u ∷ []) (hlevel terms) refl ∙ ap (λ z. z *ℚ u)
    (sym (whole_suc d))

-- ---- exact rows and columns within their norms

no_sizes : (d : ℕ) → sum_to d (λ j. size (whole (pos 0))) ≡ whole (pos 0)
no_sizes d = sum_to_zeros d (λ k b. size_zero)

sum_within_list : (d : ℕ) (v : Vector) → sum_to d (λ j. size (number_at v j)) ≤ℚ sum_of_list (sizes v)
sum_within_list zero v = sum_of_sizes_natural v
sum_within_list (suc d) [] = le_of_equal (no_sizes (suc d))
sum_within_list (suc d) (x ∷ v) =
    le_trans (le_of_equal (sum_to_first d (λ j. size (number_at (x ∷ v) j))))
    (add_mono (le_refl (size x)) (sum_within_list d v))

row_sum_at : (a : Matrix) (i : ℕ) → sum_of_list (sizes (vector_at a i)) ≡ number_at (row_sums a) i
row_sum_at [] i = refl
row_sum_at (row ∷ a) zero = refl
row_sum_at (row ∷ a) (suc i) = row_sum_at a i

pub row_within : (d : ℕ) (a : Matrix) (i : ℕ) → sum_to d (λ j. size (number_at (vector_at a i) j)) ≤ℚ
    norm_of_matrix Sup a
row_within d a i =
    le_trans (sum_within_list d (vector_at a i))
    (le_trans (le_of_equal (row_sum_at a i)) (number_below_greatest (row_sums a) i))

column_natural : (a : Matrix) (j : ℕ) → whole (pos 0) ≤ℚ number_at (column_sums a) j
column_natural [] j = le_refl (whole (pos 0))
column_natural (row ∷ a) j =
    rw (number_at-add_lists (sizes row) (column_sums a) j, number_at-sizes row j)
    (add_natural (size_natural (number_at row j)) (column_natural a j))

column_sum_at : (d : ℕ) (a : Matrix) (j : ℕ)
    → sum_to d (λ i. size (number_at (vector_at a i) j)) ≤ℚ number_at (column_sums a) j
column_sum_at zero a j = column_natural a j
column_sum_at (suc d) [] j = le_of_equal (no_sizes (suc d))
column_sum_at (suc d) (row ∷ a) j =
    rw (number_at-add_lists (sizes row) (column_sums a) j, number_at-sizes row j)
    (le_trans (le_of_equal (sum_to_first d (λ i. size (number_at (vector_at (row ∷ a) i) j))))
    (add_mono (le_refl (size (number_at row j))) (column_sum_at d a j)))

column_within : (d : ℕ) (a : Matrix) (j : ℕ) → sum_to d (λ i. size (number_at (vector_at a i) j)) ≤ℚ
    norm_of_matrix Sum a
column_within d a j = le_trans (column_sum_at d a j) (number_below_greatest (column_sums a) j)

-- ---- stored rows and columns

-- a stored list of d numbers, each near an exact one
near_sum : (d : ℕ) (error : Fraction) (exact : ℕ → Fraction) (stored : ℕ → ℤ)
    → ((j : ℕ) → j < d → size (exact j -ℚ units (stored j)) ≤ℚ error)
    → sum_to d (λ j. whole (size_of (stored j))) *ℚ unit ≤ℚ sum_to d (λ j. size (exact j)) +ℚ whole (pos d) *ℚ
    error
near_sum d error exact stored h =
    le_trans (le_of_equal (sym (sum_to_scale_right d unit (λ j. whole (size_of (stored j))))))
    (le_trans (sums_ordered d _ (λ j. size (exact j) +ℚ error)
    (λ j b. le_trans (le_of_equal (size_units (stored j)))
    (near_size (exact j) (units (stored j)) error (h j b))))
    (le_of_equal (sum_to_add d (λ j. size (exact j)) (λ j. error)
    ∙ ap (λ z. sum_to d (λ j. size (exact j)) +ℚ z) (sum_same d error))))

-- sums over the powers, each with an error
pub powers_with_errors : (n : ℕ) (off : Fraction) (norms : ℕ → Fraction) (total : Fraction)
    → sum_to n norms ≤ℚ total
    → sum_to n (λ m. norms m +ℚ off) ≤ℚ total +ℚ whole (pos n) *ℚ off
powers_with_errors n off norms total h =
    le_trans (le_of_equal (sum_to_add n norms (λ m. off) ∙ ap (λ z. sum_to n norms +ℚ z) (sum_same n off)))
    (add_mono h (le_refl _))

-- sums over the powers, each power within the norm of its matrix
over_powers : (n : ℕ) (off : Fraction) (stored : ℕ → Fraction) (norms : ℕ → Fraction) (total : Fraction)
    → ((m : ℕ) → stored m *ℚ unit ≤ℚ norms m +ℚ off) → sum_to n norms ≤ℚ total
    → sum_to n stored *ℚ unit ≤ℚ total +ℚ whole (pos n) *ℚ off
over_powers n off stored norms total h k =
    le_trans (le_of_equal (sym (sum_to_scale_right n unit stored)))
    (le_trans (sums_ordered n _ (λ m. norms m +ℚ off) (λ m b. h m)) (powers_with_errors n off norms total k))

module _ (error d : ℕ) (stored : ℕ → ℕ → ℕ → ℤ) (matrices : List Matrix)
    (h : MatricesStandNear error d stored matrices) where
  pub row_at_power : (row m : ℕ) → row < d
      → sum_to d (λ col. whole (size_of (stored row col m))) *ℚ unit
      ≤ℚ matrix_norm_at Sup matrices m +ℚ whole (pos d) *ℚ units (pos error)
  row_at_power row m b =
      le_trans (near_sum d (units (pos error)) (λ col. number_at (vector_at (matrix_at matrices m) row) col)
      (λ col. stored row col m) (λ col c. h.near row col m b c))
      (add_mono (row_within d (matrix_at matrices m) row) (le_refl _))

  pub row_total : (n row : ℕ) → row < d
      → sum_to n (λ m. sum_to d (λ col. whole (size_of (stored row col m)))) *ℚ unit
      ≤ℚ total_norm Sup matrices +ℚ whole (pos n) *ℚ (whole (pos d) *ℚ units (pos error))
  row_total n row b =
      over_powers n _ (λ m. sum_to d (λ col. whole (size_of (stored row col m))))
      (matrix_norm_at Sup matrices) _
      (λ m. row_at_power row m b) (total_within Sup matrices n)

  pub column_at_power : (col m : ℕ) → col < d
      → sum_to d (λ row. whole (size_of (stored row col m))) *ℚ unit
      ≤ℚ matrix_norm_at Sum matrices m +ℚ whole (pos d) *ℚ units (pos error)
  column_at_power col m b =
      le_trans (near_sum d (units (pos error)) (λ row. number_at (vector_at (matrix_at matrices m) row) col)
      (λ row. stored row col m) (λ row c. h.near row col m c b))
      (add_mono (column_within d (matrix_at matrices m) col) (le_refl _))

-- a bound in the number 1 as a bound in units
of_units : (r x p u : Fraction) → r *ℚ u ≤ℚ x → p *ℚ u ≡ whole (pos 1) → whole (pos 0) ≤ℚ p → r ≤ℚ p *ℚ x
of_units r x p u h e k = linear (r ∷ x ∷ p ∷ u ∷ []) (h ⊠ k ⊞ r · sym e) (hlevel claims) refl

pub in_whole_units : (r x : Fraction) → r *ℚ unit ≤ℚ x → r ≤ℚ whole (pos (2 ^ 64)) *ℚ x
in_whole_units r x h = of_units r x (whole (pos (2 ^ 64))) unit h one_per_unit (natural (2 ^ 64) 1)

pub errors_in_units : (n d error : ℕ)
    → whole (pos (2 ^ 64)) *ℚ (whole (pos n) *ℚ (whole (pos d) *ℚ units (pos error))) ≡ whole
    (pos (n * (d * error)))
errors_in_units n d error =
    ap (λ z. whole (pos (2 ^ 64)) *ℚ (whole (pos n) *ℚ (whole (pos d) *ℚ z))) (units_is (pos error))
    ∙ ring (whole (pos n) ∷ whole (pos d) ∷ whole (pos error) ∷ whole (pos (2 ^ 64)) ∷ unit ∷ [])
    (hlevel terms) refl
    ∙ ap (λ z. whole (pos n) *ℚ (whole (pos d) *ℚ whole (pos error)) *ℚ z) one_per_unit
    ∙ ring (whole (pos n) ∷ whole (pos d) ∷ whole (pos error) ∷ []) (hlevel terms) refl
    ∙ ap (λ z. whole (pos n) *ℚ z) (sym (whole_mul (pos d) (pos error))) ∙ sym
    (whole_mul (pos n) (pos (d * error)))
