-- The products of a step fit: in each of the three cases in which a step may be taken.
use Rattle.std.specs.Prelude.{◌≡◌, ℕ, pos, ℤ, List, [], ◌∷◌, length, refl, ◌<◌, ◌≤◌, ◌+◌, ◌*◌, ◌-◌, ◌^◌, ◌⊎◌}
use Rattle.std.proofs.Common.{ap, sym, ◌∙◌, arith, inl, inr, lit<, lit≤}
use Rattle.std.proofs.lemmas.Int.{ints}
use Rattle.std.proofs.lemmas.Nat.{mul-le}
use Rattle.frac_laws.specs.Fraction.{Fraction, over, whole, ◌+ℚ◌, ◌*ℚ◌, ◌≤ℚ◌}
use Rattle.frac_laws.specs.Norms.{Sup, Sum}
use Rattle.frac_laws.specs.Sums.{sum_to, power}
use Rattle.frac_laws.proofs.FractionTerms.{ring, terms}
use Rattle.frac_laws.proofs.Linear.{linear, claims, natural, ◌⊠◌}
use Rattle.frac_laws.proofs.Order.{le_trans, le_of_equal, add_mono}
use Rattle.frac_laws.proofs.Quotients.{whole_le, whole_add, whole_mul, over_is}
use Rattle.frac_laws.proofs.Signs.{add_natural, mul_natural}
use Rattle.frac_laws.proofs.Sums.{sum_to_split, sum_to_add, sum_to_zeros, sum_to_scale}
use Rattle.cell_laws.specs.Systems.{System}
use Rattle.cell_laws.specs.Pairs.{CoupledPair}
use Rattle.cell_laws.specs.Tame.{IsTame, IsTamePair, matrix_norm_at, total_norm, weighted}
use Rattle.cell_laws.specs.Driven.{IsNatural}
use Rattle.cell_laws.proofs.TameSums.{matrix_norms_natural, total_within}
use Rattle.linear_system.specs.StoredSystem.{StoredSystem, IsSystem, dim_of, stored_number}
use Rattle.linear_system.specs.StandsFor.{StandsFor, StandsForPair, units, block_from}
use Rattle.taylor_step.specs.CanStep.{CanStep, in_sup, in_sum, in_pair}
use Rattle.taylor_step.specs.WholeRun.{ProductsFit}
use Rattle.taylor_step.proofs.FitsByRows.{RowsAreWithin, fits_by_rows}
use Rattle.taylor_step.proofs.FitsBySums.{ColumnsAreWithin, fits_by_sums}
use Rattle.taylor_step.proofs.Sizes.{size_of}
use Rattle.taylor_step.proofs.StoredSizes.{row_total, column_at_power, in_whole_units, errors_in_units}
use Rattle.taylor_step.proofs.StoredSizes.{powers_with_errors}
use Rattle.taylor_step.proofs.Scaled.{unit}
use Rattle.taylor_step.proofs.SumForms.{sums_equal, sums_ordered}
use Rattle.step_laws.proofs.StoredNorms.{one_le_eights}

-- a total of at most a number of 64ths, and the errors of n powers of d numbers, in units
counted_total : (total : Fraction) (n d error parts most : ℕ) → total ≤ℚ over (pos parts) 64
    → parts * 2 ^ 58 + n * (d * error) ≤ most
    → whole (pos (2 ^ 64)) *ℚ (total +ℚ whole (pos n) *ℚ (whole (pos d) *ℚ units (pos error))) ≤ℚ whole
    (pos most)
counted_total total n d error parts most k room =
    le_trans (le_of_equal (ring (total ∷ whole (pos (2 ^ 64)) ∷
    (whole (pos n) *ℚ (whole (pos d) *ℚ units (pos error))) ∷ []) (hlevel terms) refl))
    (le_trans (add_mono (scaled total (over (pos parts) 64) k) (le_of_equal (errors_in_units n d error)))
    (le_trans (le_of_equal (ap (λ z. z +ℚ whole (pos (n * (d * error)))) (parts_are parts) ∙ sym
    (whole_add (pos (parts * 2 ^ 58)) (pos (n * (d * error))))))
    (whole_le (omega (arith, ints, room)))))
  where
    scaled : (x y : Fraction) → x ≤ℚ y → whole (pos (2 ^ 64)) *ℚ x ≤ℚ whole (pos (2 ^ 64)) *ℚ y
    scaled x y h = linear (x ∷ y ∷ []) (h ⊠ natural (2 ^ 64) 1) (hlevel claims) refl

    parts_are : (parts : ℕ) → whole (pos (2 ^ 64)) *ℚ over (pos parts) 64 ≡ whole (pos (parts * 2 ^ 58))
    parts_are parts =
        ap (λ z. whole (pos (2 ^ 64)) *ℚ z) (over_is (pos parts) 64) ∙ ring (whole (pos parts) ∷ [])
        (hlevel terms) refl
        ∙ sym (whole_mul (pos parts) (pos (2 ^ 58)))

counted : (r total : Fraction) (n d error parts most : ℕ)
    → r *ℚ unit ≤ℚ total +ℚ whole (pos n) *ℚ (whole (pos d) *ℚ units (pos error))
    → total ≤ℚ over (pos parts) 64
    → parts * 2 ^ 58 + n * (d * error) ≤ most → r ≤ℚ whole (pos most)
counted r total n d error parts most h k room =
    le_trans (in_whole_units r _ h) (counted_total total n d error parts most k room)

-- ---- in Sup

pub rows_in_sup : (s : StoredSystem) (e : System) (kappa40 : ℕ) → IsSystem s → StandsFor s e
    → IsTame Sup kappa40 e
    → RowsAreWithin s (2 ^ 58 + 288)
rows_in_sup s e kappa40 sys stands tame n row few b =
    counted _ (total_norm Sup e.matrices) n (dim_of s) 1 1 (2 ^ 58 + 288)
    (row_total 1 (dim_of s) (stored_number s) e.matrices stands.matrices n row b) tame.total
    (omega (arith, mul-le n (dim_of s * 1) 12 24 few (omega (arith, sys.dim_small))))

-- ---- in Sum

unfoldable pub column_bound : StoredSystem → System → ℕ → Fraction
column_bound s e m = whole (pos (2 ^ 64)) *ℚ (matrix_norm_at Sum e.matrices m +ℚ whole (pos (dim_of s)) *ℚ
    units (pos 1))

pub columns_in_sum : (s : StoredSystem) (e : System) (kappa40 : ℕ) → IsSystem s → StandsFor s e
    → IsTame Sum kappa40 e
    → ColumnsAreWithin s (column_bound s e) (2 ^ 58 + 288)
unfolding column_bound
columns_in_sum s e kappa40 sys stands tame = record {
  each = λ m col b. in_whole_units _ _ (column_at_power 1 (dim_of s) (stored_number s) e.matrices
      stands.matrices col m b);
  natural_bounds = λ m. mul_natural (natural (2 ^ 64) 1)
      (add_natural (matrix_norms_natural Sum e.matrices m)
      (mul_natural (natural (dim_of s) 1) (natural 1 (2 ^ 64))));
  total = λ n few. le_trans (le_of_equal (sum_to_scale n (whole (pos (2 ^ 64)))
      (λ m. matrix_norm_at Sum e.matrices m +ℚ whole (pos (dim_of s)) *ℚ units (pos 1))))
      (le_trans (scaled _ _ (powers_with_errors n _ (matrix_norm_at Sum e.matrices) _
      (total_within Sum e.matrices n)))
      (counted_total (total_norm Sum e.matrices) n (dim_of s) 1 1 (2 ^ 58 + 288) tame.total
      (omega (arith, mul-le n (dim_of s * 1) 12 24 few (omega (arith, sys.dim_small))))));
}
  where
    scaled : (x y : Fraction) → x ≤ℚ y → whole (pos (2 ^ 64)) *ℚ x ≤ℚ whole (pos (2 ^ 64)) *ℚ y
    scaled x y h = linear (x ∷ y ∷ []) (h ⊠ natural (2 ^ 64) 1) (hlevel claims) refl

-- ---- a pair

-- without the weights a sum is smaller
below_weighted : (n : ℕ) (f : ℕ → Fraction) → IsNatural f → sum_to n f ≤ℚ sum_to n (weighted f)
below_weighted n f h = sums_ordered n f (weighted f)
    (λ m b. linear (f m ∷ power (whole (pos 8)) m ∷ []) (one_le_eights m ⊠ h m) (hlevel claims) refl)

pub coupling_total : (kappa40 : ℕ) (c : Fraction) (p : CoupledPair) → IsTamePair kappa40 c p
    → total_norm Sup p.coupling ≤ℚ over (pos 10) 64
coupling_total kappa40 c p tame =
    le_trans (below_weighted (length p.coupling) (matrix_norm_at Sup p.coupling)
    (matrix_norms_natural Sup p.coupling))
    (le_trans tame.coupling (linear [] (natural 0 1) (hlevel claims) refl))

module _ (s : StoredSystem) (half : ℕ) (p : CoupledPair) (kappa40 : ℕ) (c : Fraction) (sys : IsSystem s)
    (stands : StandsForPair s half p) (tame : IsTamePair kappa40 c p) where
  pub half_small : half ≤ 12
  half_small = omega (arith, sys.dim_small, stands.halves)

  -- a row's sizes over the columns of both halves
  both : (n row : ℕ) → sum_to n (λ m. sum_to (half + half)
      (λ col. whole (size_of (stored_number s row col m))))
      ≡ sum_to n (λ m. sum_to half (λ col. whole (size_of (stored_number s row col m))))
      +ℚ sum_to n (λ m. sum_to half (λ col. whole (size_of (stored_number s row (half + col) m))))
  both n row =
      sums_equal n _ _ (λ m b. sum_to_split half half (λ col. whole (size_of (stored_number s row col m))))
      ∙ sum_to_add n (λ m. sum_to half (λ col. whole (size_of (stored_number s row col m)))) _

  no_feedback : (n row : ℕ) → row < half
      → sum_to n (λ m. sum_to half (λ col. whole (size_of (stored_number s row (half + col) m)))) ≡ whole
      (pos 0)
  no_feedback n row b = sum_to_zeros n (λ m c. sum_to_zeros half (λ col d.
      ap (λ z. whole (size_of z)) (stands.one_way row (half + col) m b (omega arith)
      (omega (arith, stands.halves)))))

  pub first_row : (n row : ℕ) → n ≤ 12 → row < half
      → sum_to n (λ m. sum_to half (λ col. whole (size_of (stored_number s row col m)))) ≤ℚ whole
      (pos (2 ^ 58 + 144))
  first_row n row few b =
      counted _ (total_norm Sup p.first.matrices) n half 1 1 (2 ^ 58 + 144)
      (row_total 1 half (stored_number s) p.first.matrices stands.first n row b) tame.first.total
      (omega (arith, mul-le n (half * 1) 12 12 few (omega (arith, half_small))))

  pub coupling_row : (n row : ℕ) → n ≤ 12 → row < half
      → sum_to n (λ m. sum_to half (λ col. whole (size_of (stored_number s (half + row) col m)))) ≤ℚ whole
      (pos (10 * 2 ^ 58 + 432))
  coupling_row n row few b =
      counted _ (total_norm Sup p.coupling) n half 3 10 (10 * 2 ^ 58 + 432)
      (row_total 3 half (λ row col m. stored_number s (half + row) col m) p.coupling stands.coupling n row b)
      (coupling_total kappa40 c p tame) (omega (
        arith,
        mul-le n (half * 3) 12 36 few
            (omega (arith, half_small)),
      ))

  pub second_row : (n row : ℕ) → n ≤ 12 → row < half
      → sum_to n (λ m. sum_to half (λ col. whole (size_of (stored_number s (half + row) (half + col) m)))) ≤ℚ
      whole (pos (2 ^ 58 + 144))
  second_row n row few b =
      counted _ (total_norm Sup p.second.matrices) n half 1 1 (2 ^ 58 + 144)
      (row_total 1 half (block_from s half half) p.second.matrices stands.second n row b) tame.second.total
      (omega (arith, mul-le n (half * 1) 12 12 few (omega (arith, half_small))))

  add_counts : (x y : Fraction) (a b most : ℕ) → x ≤ℚ whole (pos a) → y ≤ℚ whole (pos b) → a + b ≤ most
      → x +ℚ y ≤ℚ whole (pos most)
  add_counts x y a b most h k room =
      le_trans (add_mono h k) (le_trans (le_of_equal (sym (whole_add (pos a) (pos b))))
      (whole_le (omega (arith, ints, room))))

  at_row : (n row : ℕ) → n ≤ 12 → (row < half) ⊎ (half ≤ row) → row < half + half
      → sum_to n (λ m. sum_to (half + half) (λ col. whole (size_of (stored_number s row col m)))) ≤ℚ whole
      (pos (11 * 2 ^ 58 + 576))
  at_row n row few (inl b) d =
      le_trans (le_of_equal (both n row))
      (add_counts _ _ (2 ^ 58 + 144) 0 (11 * 2 ^ 58 + 576) (first_row n row few b)
      (le_of_equal (no_feedback n row b)) (lit≤ tt))
  at_row n row few (inr b) d =
      let e : row ≡ half + (row - half) = omega arith in
      rw e (le_trans (le_of_equal (both n (half + (row - half))))
      (add_counts _ _ (10 * 2 ^ 58 + 432) (2 ^ 58 + 144) (11 * 2 ^ 58 + 576)
      (coupling_row n (row - half) few (omega arith))
      (second_row n (row - half) few (omega arith)) (lit≤ tt)))

  pub rows_of_pair : RowsAreWithin s (11 * 2 ^ 58 + 576)
  rows_of_pair n row few b = rw stands.halves (at_row n row few (side row half) (rw stands.halves at b))
    where
      side : (i h : ℕ) → (i < h) ⊎ (h ≤ i)
      side i h = grind arith

pub can_fit : (s : StoredSystem) (mid : List ℤ) → IsSystem s → length mid ≡ dim_of s → CanStep s mid
    → ProductsFit s mid
can_fit s mid sys long (in_sup e kappa40 stands tame small) =
    fits_by_rows s mid sys long (2 ^ 58 + 288) (2 ^ 65) (rows_in_sup s e kappa40 sys stands tame) (lit< tt)
    (lit≤ tt) small (lit≤ tt)
can_fit s mid sys long (in_sum e kappa40 stands tame small) =
    fits_by_sums s mid sys long (column_bound s e) (2 ^ 58 + 288) (columns_in_sum s e kappa40 sys stands tame)
    (lit< tt) (lit≤ tt) small
can_fit s mid sys long (in_pair half p kappa40 c stands tame small) =
    fits_by_rows s mid sys long (11 * 2 ^ 58 + 576) (2 ^ 64 + 2 ^ 45)
    (rows_of_pair s half p kappa40 c sys stands tame) (lit< tt) (lit≤ tt) small (lit≤ tt)
