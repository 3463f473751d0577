-- In a cell of constant rates and payments a step stops at degree 8, in Sup and in Sum.
use Rattle.std.specs.Prelude.{◌≡◌, ℕ, zero, suc, ◌+◌, ◌^◌, ◌<◌, ◌≤◌, ℤ, pos, List, [], ◌∷◌, length}
use Rattle.std.specs.Prelude.{refl, unsigned_abs, slice_index_or, sum_by}
use Rattle.std.proofs.Common.{ap, sym, ◌∙◌, subst, arith}
use Rattle.std.proofs.lemmas.Int.{ints}
use Rattle.frac_laws.specs.Fraction.{Fraction, over, whole, size, ◌+ℚ◌, ◌*ℚ◌, ◌≤ℚ◌}
use Rattle.frac_laws.specs.Norms.{Sup, Sum}
use Rattle.frac_laws.specs.Sums.{sum_to}
use Rattle.frac_laws.proofs.Linear.{linear, claims, natural, ◌⊞◌, ◌⊠◌, ◌·◌}
use Rattle.frac_laws.proofs.Order.{le_refl, le_trans, le_of_equal, le_antisym, add_mono}
use Rattle.frac_laws.proofs.Quotients.{whole_le, inverse}
use Rattle.frac_laws.proofs.Sizes.{size_natural}
use Rattle.frac_laws.proofs.Sums.{sum_to_mono, sum_to_scale_right, sum_to_zeros}
use Rattle.frac_laws.proofs.Sums.{sum_to_ext, sum_to_exchange, sum_to_add, sum_to_scale, sum_to_longer}
use Rattle.frac_laws.proofs.Sums.{term_le_sum_to}
use Rattle.cell_laws.specs.Systems.{System}
use Rattle.cell_laws.specs.Tame.{IsTame}
use Rattle.linear_system.specs.StoredSystem.{StoredSystem, IsSystem, dim_of, stored_number, stored_free}
use Rattle.linear_system.specs.StandsFor.{units, StandsFor}
use Rattle.linear_system.specs.DegreeLimit.{exact_back, exact_coefficient, greatest_power}
use Rattle.taylor_step.specs.CanStep.{AreAtMost}
use Rattle.taylor_step.specs.Stops.{IsStop}
use Rattle.taylor_step.specs.WholeRun.{past}
use Rattle.taylor_step.proofs.Fits.{rows_in_sup}
use Rattle.taylor_step.proofs.Fits.{columns_in_sum}
use Rattle.taylor_step.proofs.FitsByRows.{RowsAreWithin}
use Rattle.taylor_step.proofs.FitsBySums.{list_sizes}
use Rattle.taylor_step.proofs.Floors.{rounded_run}
use Rattle.taylor_step.proofs.Scaled.{unit}
use Rattle.taylor_step.proofs.Sizes.{size_of}
use Rattle.taylor_step.proofs.StoredSizes.{size_units}
use Rattle.taylor_step.proofs.ConstantRows.{falling, met, free_small, recurs, no_free, at_start, sizes_at_zero}
use Rattle.taylor_step.proofs.ConstantRows.{from_place, falls, small_at, stops_at}

-- in Sup
pub constant_in_sup : (s : StoredSystem) (mid : List ℤ) (degree : ℕ) (e : System) (kappa40 : ℕ) → IsSystem s
    → length mid ≡ dim_of s → greatest_power s ≡ 0 → StandsFor s e → IsTame Sup kappa40 e → AreAtMost (2 ^ 65) mid
    → RowsAreWithin s (2 ^ 63) → IsStop s mid degree → degree ≤ 8
constant_in_sup s mid degree e kappa40 sys long only stands tame small half stop =
    stops_at s mid sys long only 8 degree (omega arith) (small_at s mid sys long only half 8 (λ row b.
    subst (λ r. size (exact_coefficient s mid 8 r) ≤ℚ whole (pos 62) *ℚ unit) (from_zero row)
    (le_trans (falls s mid sys long only 0 (dim_of s) (whole (pos (2 ^ 65)) *ℚ unit) (over (pos 1) 15)
    (linear [] (natural 2 1) (hlevel claims) refl) (λ row b. omega arith) (λ k row b. le_refl _)
    (λ row b. le_trans (le_of_equal (from_place s row (0 + row) 0 (dim_of s) (λ col m. stored_number s row col m)
    (from_zero row) (λ col m. ap (λ c. stored_number s row c m) (sym (from_zero col)))))
    (le_trans (sizes_at_zero (dim_of s) (2 ^ 58 + 288) (λ col m. stored_number s row col m)
    (rows_in_sup s e kappa40 sys stands tame 1 row (omega arith) b))
    (linear [] (natural 0 1) (hlevel claims) refl)))
    (λ row b. at_start s mid sys long only (2 ^ 65) small (0 + row))
    (linear [] (natural 0 1) (hlevel claims) refl) 7 row b)
    (linear [] (natural 0 1) (hlevel claims) refl)))) stop
  where
    from_zero : (n : ℕ) → 0 + n ≡ n
    from_zero n = omega arith

-- in Sum, of at most 12 numbers: the sizes of all rows add up to little
module _ (s : StoredSystem) (mid : List ℤ) (sys : IsSystem s) (long : length mid ≡ dim_of s)
    (only : greatest_power s ≡ 0) where
  all_sizes : ℕ → Fraction
  all_sizes k = sum_to (dim_of s) (λ row. size (exact_coefficient s mid k row))

  all_met : (k : ℕ) → ((col : ℕ) → col < dim_of s
      → sum_to (dim_of s) (λ row. size (units (stored_number s row (0 + col) 0))) ≤ℚ over (pos 1) 63)
      → sum_to (dim_of s) (λ row. met s mid sys long only k row 0 (dim_of s)) ≤ℚ over (pos 1) 63 *ℚ all_sizes k
  unfolding all_sizes
  all_met k columns = le_trans (le_of_equal (sum_to_exchange (dim_of s) (dim_of s)
      (λ row col. size (units (stored_number s row (0 + col) 0)) *ℚ size (exact_coefficient s mid k (0 + col)))))
      (le_trans (sum_to_mono (dim_of s) {g = λ col. over (pos 1) 63 *ℚ size (exact_coefficient s mid k col)}
      (λ col c. le_trans (le_of_equal (sum_to_scale_right (dim_of s) (size (exact_coefficient s mid k (0 + col)))
      (λ row. size (units (stored_number s row (0 + col) 0)))))
      (times _ _ _ (columns col c) (size_natural (exact_coefficient s mid k (0 + col)))
      (let e : 0 + col ≡ col = omega arith in ap (λ t. size (exact_coefficient s mid k t)) e))))
      (le_of_equal (sum_to_scale (dim_of s) (over (pos 1) 63) (λ col. size (exact_coefficient s mid k col)))))
    where
      times : (t x y : Fraction) → t ≤ℚ over (pos 1) 63 → whole (pos 0) ≤ℚ x → x ≡ y → t *ℚ x ≤ℚ over (pos 1) 63 *ℚ y
      times t x y h k e = rw (← e) (linear (t ∷ x ∷ []) (h ⊠ k) (hlevel claims) refl)

  all_recurs : (k : ℕ) → ((col : ℕ) → col < dim_of s
      → sum_to (dim_of s) (λ row. size (units (stored_number s row (0 + col) 0))) ≤ℚ over (pos 1) 63)
      → whole (pos (suc k)) *ℚ all_sizes (suc k) ≤ℚ over (pos 1) 63 *ℚ all_sizes k
      +ℚ sum_to (dim_of s) (λ row. size (units (stored_free s row k)))
  unfolding all_sizes
  all_recurs k columns = le_trans (le_of_equal (sym (sum_to_scale (dim_of s) (whole (pos (suc k)))
      (λ row. size (exact_coefficient s mid (suc k) row)))))
      (le_trans (sum_to_mono (dim_of s) (λ row b. recurs s mid sys long only k row b))
      (le_trans (le_of_equal (sum_to_add (dim_of s) (λ row. met s mid sys long only k row 0 (dim_of s))
      (λ row. size (units (stored_free s row k)))))
      (add_mono (all_met k columns) (le_refl _))))

  all_fall : (few : dim_of s ≤ 12) → all_sizes 0 ≤ℚ whole (pos 4) → ((col : ℕ) → col < dim_of s
      → sum_to (dim_of s) (λ row. size (units (stored_number s row (0 + col) 0))) ≤ℚ over (pos 1) 63)
      → (k : ℕ) → all_sizes (suc k) ≤ℚ falling (over (pos 9) 20) k
  all_fall few start columns zero = join (all_sizes 1) (all_sizes 0)
      (sum_to (dim_of s) (λ row. size (units (stored_free s row 0)))) (all_recurs 0 columns) start
      (le_trans (sum_to_mono (dim_of s) {g = λ row. over (pos 1) 32} (λ row b. free_small s mid sys long only row b))
      (le_trans (sum_to_longer (dim_of s) 12 (λ row b. natural 1 32) few)
      (linear [] (natural 0 1) (hlevel claims) refl)))
    where
      join : (x y g : Fraction) → whole (pos 1) *ℚ x ≤ℚ over (pos 1) 63 *ℚ y +ℚ g → y ≤ℚ whole (pos 4)
          → g ≤ℚ over (pos 3) 8 → x ≤ℚ over (pos 9) 20
      join x y g h1 h2 h3 = linear (x ∷ y ∷ g ∷ []) (h1 ⊞ natural 1 63 ⊠ h2 ⊞ h3) (hlevel claims) refl
  all_fall few start columns (suc k) = join (whole (pos (suc (suc k)))) (over (pos 1) (suc (suc k)))
      (all_sizes (suc (suc k))) (all_sizes (suc k)) _ (falling (over (pos 9) 20) k)
      (inverse (suc (suc k)) (omega arith)) (natural 1 (suc (suc k))) (all_recurs (suc k) columns)
      (all_fall few start columns k)
      (le_of_equal (sum_to_zeros (dim_of s) (λ row b. le_antisym (no_free s mid sys long only k row b)
      (size_natural (units (stored_free s row (suc k)))))))
    where
      join : (n i x y g f : Fraction) → n *ℚ i ≡ whole (pos 1) → whole (pos 0) ≤ℚ i
          → n *ℚ x ≤ℚ over (pos 1) 63 *ℚ y +ℚ g → y ≤ℚ f → g ≤ℚ whole (pos 0) → x ≤ℚ over (pos 1) 63 *ℚ (i *ℚ f)
      join n i x y g f e hi h1 h2 h3 = linear (n ∷ i ∷ x ∷ y ∷ g ∷ f ∷ [])
          (hi ⊠ (h1 ⊞ natural 1 63 ⊠ h2 ⊞ h3) ⊞ (x · sym e)) (hlevel claims) refl

  one_of_all : (k row : ℕ) → row < dim_of s → size (exact_coefficient s mid k row) ≤ℚ all_sizes k
  unfolding all_sizes
  one_of_all k row b = term_le_sum_to (dim_of s) row {f = λ row. size (exact_coefficient s mid k row)}
      (λ row c. size_natural (exact_coefficient s mid k row)) b

  start_sizes : sum_by unsigned_abs mid ≤ 2 ^ 66 → all_sizes 0 ≤ℚ whole (pos 4)
  unfolding all_sizes exact_back past
  start_sizes h = le_trans (le_of_equal (sum_to_ext (dim_of s) (λ row b. sym (size_units
      (slice_index_or mid row (pos 0))))
      ∙ sum_to_scale_right (dim_of s) unit (λ row. whole (size_of (slice_index_or mid row (pos 0))))
      ∙ ap (λ t. t *ℚ unit) (sum_to_ext (dim_of s) (λ row b. ap (λ z. whole (size_of z))
      (sym ((rounded_run s mid sys long 0).first row b)))
      ∙ list_sizes mid (dim_of s) long)))
      (times _ (whole_le (omega (arith, ints, h))))
    where
      times : (x : Fraction) → x ≤ℚ whole (pos (2 ^ 66)) → x *ℚ unit ≤ℚ whole (pos 4)
      times x h = linear (x ∷ []) (natural 1 (2 ^ 64) ⊠ h) (hlevel claims) refl

pub constant_in_sum : (s : StoredSystem) (mid : List ℤ) (degree : ℕ) (e : System) (kappa40 : ℕ) → IsSystem s
    → length mid ≡ dim_of s → greatest_power s ≡ 0 → dim_of s ≤ 12 → StandsFor s e → IsTame Sum kappa40 e
    → sum_by unsigned_abs mid ≤ 2 ^ 66 → RowsAreWithin s (2 ^ 63) → IsStop s mid degree → degree ≤ 8
constant_in_sum s mid degree e kappa40 sys long only few stands tame small half stop =
    stops_at s mid sys long only 8 degree (omega arith) (small_at s mid sys long only half 8 (λ row b.
    le_trans (one_of_all s mid sys long only 8 row b)
    (le_trans (all_fall s mid sys long only few (start_sizes s mid sys long only small) columns 7)
    (linear [] (natural 0 1) (hlevel claims) refl)))) stop
  where
    columns : (col : ℕ) → col < dim_of s
        → sum_to (dim_of s) (λ row. size (units (stored_number s row (0 + col) 0))) ≤ℚ over (pos 1) 63
    columns col b = let z : 0 + col ≡ col = omega arith in rw z (le_trans
        (sizes_at_zero (dim_of s) (2 ^ 58 + 288) (λ row m. stored_number s row col m)
        (within _ _ ((columns_in_sum s e kappa40 sys stands tame).each 0 col b)
        ((columns_in_sum s e kappa40 sys stands tame).total 1 (omega arith))))
        (linear [] (natural 0 1) (hlevel claims) refl))
      where
        within : (x y : Fraction) → x ≤ℚ y → whole (pos 0) +ℚ y ≤ℚ whole (pos (2 ^ 58 + 288))
            → whole (pos 0) +ℚ x ≤ℚ whole (pos (2 ^ 58 + 288))
        within x y h k = linear (x ∷ y ∷ []) (h ⊞ k) (hlevel claims) refl
