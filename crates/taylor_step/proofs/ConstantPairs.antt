-- In a pair of cells of constant rates and payments a step stops at degree 9 at the latest.
use Rattle.std.specs.Prelude.{◌≡◌, ◌⊎◌, ℕ, zero, suc, ◌+◌, ◌-◌, ◌*◌, ◌^◌, ◌<◌, ◌≤◌, ℤ, pos, List, [], ◌∷◌, length}
use Rattle.std.specs.Prelude.{refl}
use Rattle.std.proofs.Common.{ap, sym, ◌∙◌, subst, arith, inl, inr}
use Rattle.std.proofs.lemmas.Bool.{cases_lt}
use Rattle.frac_laws.specs.Fraction.{Fraction, over, whole, size, ◌+ℚ◌, ◌*ℚ◌, ◌≤ℚ◌}
use Rattle.frac_laws.specs.Sums.{sum_to}
use Rattle.frac_laws.proofs.FractionTerms.{ring, terms}
use Rattle.frac_laws.proofs.Linear.{linear, claims, natural, ◌⊞◌, ◌⊠◌, ◌·◌}
use Rattle.frac_laws.proofs.Order.{le_trans, le_of_equal}
use Rattle.frac_laws.proofs.Quotients.{inverse}
use Rattle.frac_laws.proofs.Sizes.{size_of_natural}
use Rattle.frac_laws.proofs.Signs.{mul_natural, add_natural}
use Rattle.frac_laws.proofs.Sums.{sum_to_zeros}
use Rattle.frac_laws.proofs.Sums.{sum_to_ext, sum_to_split}
use Rattle.cell_laws.specs.Pairs.{CoupledPair}
use Rattle.cell_laws.specs.Tame.{IsTamePair}
use Rattle.linear_system.specs.StoredSystem.{StoredSystem, IsSystem, dim_of, stored_number}
use Rattle.linear_system.specs.StandsFor.{units, StandsForPair}
use Rattle.linear_system.specs.DegreeLimit.{exact_coefficient, greatest_power}
use Rattle.taylor_step.specs.CanStep.{AreAtMost}
use Rattle.taylor_step.specs.Stops.{IsStop}
use Rattle.taylor_step.proofs.Fits.{first_row, second_row, coupling_row}
use Rattle.taylor_step.proofs.FitsByRows.{RowsAreWithin}
use Rattle.taylor_step.proofs.Scaled.{unit, no_units}
use Rattle.taylor_step.proofs.ConstantRows.{falling, falling_natural, met, free_small, recurs, met_within, no_free}
use Rattle.taylor_step.proofs.ConstantRows.{at_start, sizes_at_zero, from_place, falls, small_at, stops_at}

-- bounds of the second half, which takes a sixth of those of the first half
abbrev taking : ℕ → Fraction
taking zero = over (pos 1) 4
taking (suc k) = over (pos 1) (suc (suc k))
    *ℚ (over (pos 1) 63 *ℚ taking k +ℚ over (pos 1) 6 *ℚ falling (over (pos 1) 20) k)

taking_natural : (k : ℕ) → whole (pos 0) ≤ℚ taking k
taking_natural zero = natural 1 4
taking_natural (suc k) = mul_natural (natural 1 (suc (suc k)))
    (add_natural (mul_natural (natural 1 63) (taking_natural k))
    (mul_natural (natural 1 6) (falling_natural (over (pos 1) 20) (natural 1 20) k)))

module _ (s : StoredSystem) (mid : List ℤ) (half : ℕ) (p : CoupledPair) (kappa40 : ℕ) (c : Fraction)
    (sys : IsSystem s) (long : length mid ≡ dim_of s) (only : greatest_power s ≡ 0)
    (stands : StandsForPair s half p) (tame : IsTamePair kappa40 c p) (small : AreAtMost (2 ^ 64 + 2 ^ 45) mid) where
  -- what a row meets in the columns of each half
  met_split : (k row : ℕ) → met s mid sys long only k row 0 (dim_of s)
      ≡ met s mid sys long only k row 0 half +ℚ met s mid sys long only k row half half
  met_split k row = ap (λ d. met s mid sys long only k row 0 d) stands.halves
      ∙ sum_to_split half half (λ col. size (units (stored_number s row (0 + col) 0))
      *ℚ size (exact_coefficient s mid k (0 + col)))
      ∙ ap (λ t. met s mid sys long only k row 0 half +ℚ t) (sum_to_ext half (λ col b.
      let e : 0 + (half + col) ≡ half + col = omega arith in
      ap (λ i. size (units (stored_number s row i 0)) *ℚ size (exact_coefficient s mid k i)) e))

  first_meets : (k row : ℕ) → row < half → met s mid sys long only k (0 + row) 0 (dim_of s)
      ≤ℚ met s mid sys long only k (0 + row) 0 half
  first_meets k row b = le_trans (le_of_equal (met_split k (0 + row))) (alone _ _ (sum_to_zeros half (λ col d.
      ap (λ z. size (units z) *ℚ size (exact_coefficient s mid k (half + col)))
      (stands.one_way (0 + row) (half + col) 0 (omega arith) (omega arith) (omega (arith, stands.halves)))
      ∙ ap (λ z. size z *ℚ size (exact_coefficient s mid k (half + col))) no_units
      ∙ ap (λ z. z *ℚ size (exact_coefficient s mid k (half + col))) (size_of_natural (natural 0 1))
      ∙ ring (size (exact_coefficient s mid k (half + col)) ∷ []) (hlevel terms) refl)))
    where
      alone : (x y : Fraction) → y ≡ whole (pos 0) → x +ℚ y ≤ℚ x
      alone x y e = rw e (le_of_equal (ring (x ∷ []) (hlevel terms) refl))

  start_most : (row : ℕ) → size (exact_coefficient s mid 0 row) ≤ℚ over (pos 17) 16
  start_most row = le_trans (at_start s mid sys long only (2 ^ 64 + 2 ^ 45) small row)
      (linear [] (natural 0 1) (hlevel claims) refl)

  first_falls : (k row : ℕ) → row < half
      → size (exact_coefficient s mid (suc k) (0 + row)) ≤ℚ falling (over (pos 1) 20) k
  first_falls = falls s mid sys long only 0 half (over (pos 17) 16) (over (pos 1) 20) (natural 17 16)
      (λ row b. omega (arith, b, stands.halves)) first_meets
      (λ row b. le_trans (le_of_equal (from_place s row (0 + row) 0 half (λ col m. stored_number s row col m)
      (from_zero row) (λ col m. ap (λ i. stored_number s row i m) (sym (from_zero col)))))
      (le_trans (sizes_at_zero half (2 ^ 58 + 144) (λ col m. stored_number s row col m)
      (first_row s half p kappa40 c sys stands tame 1 row (omega arith) b))
      (linear [] (natural 0 1) (hlevel claims) refl)))
      (λ row b. start_most (0 + row)) (linear [] (natural 0 1) (hlevel claims) refl)
    where
      from_zero : (n : ℕ) → 0 + n ≡ n
      from_zero n = omega arith

  coupling_sum : (row : ℕ) → row < half
      → sum_to half (λ col. size (units (stored_number s (half + row) (0 + col) 0))) ≤ℚ over (pos 1) 6
  coupling_sum row b = le_trans (le_of_equal (from_place s (half + row) (half + row) 0 half
      (λ col m. stored_number s (half + row) col m) refl
      (λ col m. let e : 0 + col ≡ col = omega arith in ap (λ i. stored_number s (half + row) i m) (sym e))))
      (le_trans (sizes_at_zero half (10 * 2 ^ 58 + 432) (λ col m. stored_number s (half + row) col m)
      (coupling_row s half p kappa40 c sys stands tame 1 row (omega arith) b))
      (linear [] (natural 0 1) (hlevel claims) refl))

  second_sum : (row : ℕ) → row < half
      → sum_to half (λ col. size (units (stored_number s (half + row) (half + col) 0))) ≤ℚ over (pos 1) 63
  second_sum row b = le_trans (sizes_at_zero half (2 ^ 58 + 144) (λ col m. stored_number s (half + row) (half + col) m)
      (second_row s half p kappa40 c sys stands tame 1 row (omega arith) b))
      (linear [] (natural 0 1) (hlevel claims) refl)

  second_falls : (k row : ℕ) → row < half → size (exact_coefficient s mid (suc k) (half + row)) ≤ℚ taking k
  second_falls zero row b = join (size (exact_coefficient s mid 1 (half + row))) _ _ _ _ _ _
      (recurs s mid sys long only 0 (half + row) inside) (met_split 0 (half + row))
      (met_within s mid sys long only 0 (half + row) 0 half (over (pos 17) 16) (λ col d. start_most (0 + col)))
      (coupling_sum row b)
      (met_within s mid sys long only 0 (half + row) half half (over (pos 17) 16) (λ col d. start_most (half + col)))
      (second_sum row b) (free_small s mid sys long only (half + row) inside)
    where
      inside : half + row < dim_of s
      inside = omega (arith, b, stands.halves)

      join : (x m w z t u g : Fraction) → whole (pos 1) *ℚ x ≤ℚ m +ℚ g → m ≡ w +ℚ z → w ≤ℚ t *ℚ over (pos 17) 16
          → t ≤ℚ over (pos 1) 6 → z ≤ℚ u *ℚ over (pos 17) 16 → u ≤ℚ over (pos 1) 63 → g ≤ℚ over (pos 1) 32
          → x ≤ℚ over (pos 1) 4
      join x m w z t u g h1 e h2 h3 h4 h5 h6 = linear (x ∷ m ∷ w ∷ z ∷ t ∷ u ∷ g ∷ [])
          (h1 ⊞ le_of_equal e ⊞ h2 ⊞ h4 ⊞ natural 17 16 ⊠ (h3 ⊞ h5) ⊞ h6) (hlevel claims) refl
  second_falls (suc k) row b = join (whole (pos (suc (suc k)))) (over (pos 1) (suc (suc k)))
      (size (exact_coefficient s mid (suc (suc k)) (half + row))) _ _ _ _ _ _ (falling (over (pos 1) 20) k) (taking k)
      (inverse (suc (suc k)) (omega arith)) (natural 1 (suc (suc k)))
      (recurs s mid sys long only (suc k) (half + row) inside) (met_split (suc k) (half + row))
      (met_within s mid sys long only (suc k) (half + row) 0 half (falling (over (pos 1) 20) k)
      (λ col d. first_falls k col d))
      (coupling_sum row b)
      (met_within s mid sys long only (suc k) (half + row) half half (taking k) (λ col d. second_falls k col d))
      (second_sum row b) (no_free s mid sys long only k (half + row) inside)
      (falling_natural (over (pos 1) 20) (natural 1 20) k) (taking_natural k)
    where
      inside : half + row < dim_of s
      inside = omega (arith, b, stands.halves)

      join : (n i x m w z t u g f v : Fraction) → n *ℚ i ≡ whole (pos 1) → whole (pos 0) ≤ℚ i → n *ℚ x ≤ℚ m +ℚ g
          → m ≡ w +ℚ z → w ≤ℚ t *ℚ f → t ≤ℚ over (pos 1) 6 → z ≤ℚ u *ℚ v → u ≤ℚ over (pos 1) 63
          → g ≤ℚ whole (pos 0) → whole (pos 0) ≤ℚ f → whole (pos 0) ≤ℚ v
          → x ≤ℚ i *ℚ (over (pos 1) 63 *ℚ v +ℚ over (pos 1) 6 *ℚ f)
      join n i x m w z t u g f v e hi h1 e2 h2 h3 h4 h5 h6 hf hv =
          linear (n ∷ i ∷ x ∷ m ∷ w ∷ z ∷ t ∷ u ∷ g ∷ f ∷ v ∷ [])
          (hi ⊠ (h1 ⊞ le_of_equal e2 ⊞ h2 ⊞ h3 ⊠ hf ⊞ h4 ⊞ h5 ⊠ hv ⊞ h6) ⊞ (x · sym e)) (hlevel claims) refl

  pub constant_pair : (degree : ℕ) → RowsAreWithin s (2 ^ 63) → IsStop s mid degree → degree ≤ 9
  constant_pair degree rows stop = stops_at s mid sys long only 9 degree (omega arith)
      (small_at s mid sys long only rows 9 (λ row b. by_half row b (cases_lt row half))) stop
    where
      by_half : (row : ℕ) → row < dim_of s → (row < half) ⊎ (half ≤ row)
          → size (exact_coefficient s mid 9 row) ≤ℚ whole (pos 62) *ℚ unit
      by_half row b (inl l) = let e : 0 + row ≡ row = omega arith in
          subst (λ r. size (exact_coefficient s mid 9 r) ≤ℚ whole (pos 62) *ℚ unit) e
          (le_trans (first_falls 8 row l) (linear [] (natural 0 1) (hlevel claims) refl))
      by_half row b (inr l) = let e : half + (row - half) ≡ row = omega arith in
          subst (λ r. size (exact_coefficient s mid 9 r) ≤ℚ whole (pos 62) *ℚ unit) e
          (le_trans (second_falls 8 (row - half) (omega (arith, b, l, stands.halves)))
          (linear [] (natural 0 1) (hlevel claims) refl))
