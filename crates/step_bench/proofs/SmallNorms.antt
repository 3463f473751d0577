-- Norms of systems with small numbers.
use Rattle.std.specs.Prelude.{◌≡◌, ℕ, suc, zero, pos, List, [], ◌∷◌, refl, ◌<◌, ◌≤◌, ◌+◌}
use Rattle.std.proofs.Common.{ap, ◌∙◌, arith}
use Rattle.std.proofs.lemmas.Int.{ints}
use Rattle.frac_laws.specs.Fraction.{Fraction, over, whole, ◌+ℚ◌, ◌*ℚ◌, ◌≤ℚ◌}
use Rattle.frac_laws.specs.Lists.{Matrix, number_at, matrix_at, identity, shift_rows, scale_matrix}
use Rattle.frac_laws.specs.Norms.{Sup, row_sums, norm_of_matrix}
use Rattle.frac_laws.specs.Sums.{sum_to, power}
use Rattle.frac_laws.proofs.FractionTerms.{ring, terms}
use Rattle.frac_laws.proofs.Linear.{linear, claims, natural, ◌⊠◌}
use Rattle.frac_laws.proofs.Norms.{greatest_below, size_zero, norm-add_matrices, norm-scale_matrix, matrix_norm_natural}
use Rattle.frac_laws.proofs.Order.{le_trans, le_of_equal, add_mono}
use Rattle.frac_laws.proofs.Quotients.{over_le_of_cross}
use Rattle.frac_laws.proofs.Sizes.{size_of_natural}
use Rattle.frac_laws.proofs.Sums.{sum_to_split, sum_to_mono}
use Rattle.cell_laws.specs.Tame.{matrix_norm_at, one_factor_map, weighted}
use Rattle.cell_laws.proofs.Decay.{eights_natural}

row_sums-shift : (a : Matrix) (i : ℕ) → number_at (row_sums (shift_rows a)) i ≡ number_at (row_sums a) i
row_sums-shift [] i = refl
row_sums-shift (row ∷ a) zero = rw size_zero (ring (number_at (row_sums (row ∷ a)) 0 ∷ []) (hlevel terms) refl)
row_sums-shift (row ∷ a) (suc i) = row_sums-shift a i

identity_rows : (d i : ℕ) → number_at (row_sums (identity d)) i ≤ℚ whole (pos 1)
identity_rows zero i = natural 1 1
identity_rows (suc d) zero =
    le_trans (le_of_equal (ap (λ z. z +ℚ whole (pos 0)) (size_of_natural (natural 1 1))))
    (linear [] (natural 0 1) (hlevel claims) refl)
identity_rows (suc d) (suc i) = le_trans (le_of_equal (row_sums-shift (identity d) i)) (identity_rows d i)

identity_norm : (d : ℕ) → norm_of_matrix Sup (identity d) ≤ℚ whole (pos 1)
identity_norm d = greatest_below (row_sums (identity d)) (natural 1 1) (identity_rows d)

part_norm : (m : ℕ) (a : Matrix) → norm_of_matrix Sup (scale_matrix (over (pos 1) (suc m)) a) ≤ℚ norm_of_matrix Sup a
part_norm m a =
    le_trans (le_of_equal (norm-scale_matrix Sup (over (pos 1) (suc m)) a ∙ ap (λ c. c *ℚ norm_of_matrix Sup a)
    (size_of_natural (natural 1 (suc m)))))
    (at_most (over (pos 1) (suc m)) (norm_of_matrix Sup a)
    (over_le_of_cross (pos 1) (pos 1) (suc m) 1 (omega arith) (omega arith) (omega (arith, ints)))
    (matrix_norm_natural Sup a))
  where
    at_most : (c n : Fraction) → c ≤ℚ whole (pos 1) → whole (pos 0) ≤ℚ n → c *ℚ n ≤ℚ n
    at_most c n h k = linear (c ∷ n ∷ []) (h ⊠ k) (hlevel claims) refl

-- where each matrix acts at most once, the map is at most 1 and the sum of the norms
pub one_factor_norm : (d : ℕ) (matrices : List Matrix) (n : ℕ)
    → norm_of_matrix Sup (one_factor_map d matrices n) ≤ℚ whole (pos 1) +ℚ sum_to n (matrix_norm_at Sup matrices)
one_factor_norm d matrices zero = le_trans (identity_norm d) (linear [] (natural 0 1) (hlevel claims) refl)
one_factor_norm d matrices (suc n) =
    le_trans (norm-add_matrices Sup (one_factor_map d matrices n)
    (scale_matrix (over (pos 1) (suc n)) (matrix_at matrices n)))
    (le_trans (add_mono (one_factor_norm d matrices n) (part_norm n (matrix_at matrices n)))
    (le_of_equal (ring (sum_to n (matrix_norm_at Sup matrices) ∷ matrix_norm_at Sup matrices n ∷ [])
    (hlevel terms) refl)))

-- a sequence that is at most c up to 5 and 0 from there on
pub record IsLow (c : Fraction) (f : ℕ → Fraction) : Type 0 where
  pub early : (m : ℕ) → m < 6 → f m ≤ℚ c
  pub late : (m : ℕ) → 6 ≤ m → f m ≤ℚ whole (pos 0)

pub total_low : (c : Fraction) (f : ℕ → Fraction) → IsLow c f → sum_to 12 f ≤ℚ whole (pos 6) *ℚ c
total_low c f h =
    le_trans (le_of_equal (sum_to_split 6 6 f))
    (le_trans (add_mono (sum_to_mono 6 {f = f} {g = λ m. c} h.early)
    (sum_to_mono 6 {f = λ m. f (6 + m)} {g = λ m. whole (pos 0)} (λ m b. h.late (6 + m) (omega arith))))
    (le_of_equal (ring (c ∷ []) (hlevel terms) refl)))

-- 1 + 8 + .. + 8^5 = 37449
pub weighted_low : (c : Fraction) (f : ℕ → Fraction) → IsLow c f → sum_to 12 (weighted f) ≤ℚ whole (pos 37449) *ℚ c
weighted_low c f h =
    le_trans (le_of_equal (sum_to_split 6 6 (weighted f)))
    (le_trans (add_mono (sum_to_mono 6 {f = weighted f} {g = λ m. power (whole (pos 8)) m *ℚ c}
    (λ m b. times _ (f m) c (eights_natural m) (h.early m b)))
    (sum_to_mono 6 {f = λ m. weighted f (6 + m)} {g = λ m. whole (pos 0)}
    (λ m b. nothing _ (f (6 + m)) (eights_natural (6 + m)) (h.late (6 + m) (omega arith)))))
    (le_of_equal (ring (c ∷ []) (hlevel terms) refl)))
  where
    times : (w x y : Fraction) → whole (pos 0) ≤ℚ w → x ≤ℚ y → w *ℚ x ≤ℚ w *ℚ y
    times w x y h k = linear (w ∷ x ∷ y ∷ []) (h ⊠ k) (hlevel claims) refl

    nothing : (w x : Fraction) → whole (pos 0) ≤ℚ w → x ≤ℚ whole (pos 0) → w *ℚ x ≤ℚ whole (pos 0)
    nothing w x h k = linear (w ∷ x ∷ []) (h ⊠ k) (hlevel claims) refl
