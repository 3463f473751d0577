-- The radius after 32 cells takes in the growth of the exact map and the width of the intervals.
use Rattle.std.proofs.Common.{◌≡◌, ℕ, zero, suc, ◌+◌, ◌^◌, ◌<◌, ◌≤◌, pos, arith, sym, ◌∙◌}
use Rattle.std.specs.Prelude.{[], ◌∷◌, refl}
use Rattle.frac_laws.specs.Fraction.{Fraction, over, whole, size, ◌+ℚ◌, ◌-ℚ◌, ◌*ℚ◌, ◌≤ℚ◌}
use Rattle.frac_laws.specs.Sums.{sum_to, power}
use Rattle.frac_laws.proofs.FractionTerms.{ring, terms}
use Rattle.frac_laws.proofs.Linear.{linear, claims, natural, ◌⊞◌, ◌⊠◌}
use Rattle.frac_laws.proofs.Order.{le_trans, le_of_equal}
use Rattle.frac_laws.proofs.Quotients.{whole_suc, units_le}
use Rattle.frac_laws.proofs.Sizes.{size_natural, size_mul, le_size, opposite_le_size, size_le}
use Rattle.frac_laws.proofs.Sums.{sum_to_sub, sum_to_ext, size-sum_to}
use Rattle.cell_laws.specs.Tame.{growth_of}
use Rattle.step_laws.proofs.Grown.{grown}
use Rattle.linear_system.specs.StandsFor.{units}
use Rattle.std.proofs.lemmas.Int.{ints}
use Rattle.map_laws.specs.Maps.{AffineMap}
use Rattle.map_laws.specs.Applied.{MonthMapsStayWithinTheirRadius, value_at, grow_turns}
use Rattle.map_laws.proofs.Narrow.{weighted_sum}
use Rattle.map_laws.proofs.Middles.{middles_are_near}

-- the ledger grows at least by the factor and by 1023 units a cell
turns_grow : (n radius kappa40 : ℕ)
    → power (whole (pos 1) +ℚ growth_of kappa40) n *ℚ units (pos radius) +ℚ whole (pos n) *ℚ units (pos 1023)
    ≤ℚ units (pos (grow_turns n radius kappa40))
unfolding grow_turns
turns_grow zero radius kappa40 = linear (units (pos radius) ∷ []) (natural 0 1) (hlevel claims) refl
turns_grow (suc n) radius kappa40 =
    le_trans (more (growth_of kappa40) (power (whole (pos 1) +ℚ growth_of kappa40) n) (units (pos radius))
    (whole (pos n)) (whole (pos (suc n))) (units (pos (grow_turns n radius kappa40))) (natural kappa40 (2 ^ 40))
    (natural n 1) (whole_suc n) (turns_grow n radius kappa40))
    (grown (grow_turns n radius kappa40) kappa40 1023)
  where
    more : (k p r n m g : Fraction) → whole (pos 0) ≤ℚ k → whole (pos 0) ≤ℚ n → m ≡ whole (pos 1) +ℚ n
        → p *ℚ r +ℚ n *ℚ units (pos 1023) ≤ℚ g
        → (whole (pos 1) +ℚ k) *ℚ p *ℚ r +ℚ m *ℚ units (pos 1023) ≤ℚ (whole (pos 1) +ℚ k) *ℚ g +ℚ units (pos 1023)
    more k p r n m g k_some n_some e h = rw e (linear (k ∷ p ∷ r ∷ n ∷ g ∷ [])
        (h ⊞ k_some ⊠ h ⊞ natural 1023 (2 ^ 64) ⊠ product k n k_some n_some) (hlevel claims) refl)
      where
        product : (k n : Fraction) → whole (pos 0) ≤ℚ k → whole (pos 0) ≤ℚ n → whole (pos 0) ≤ℚ k *ℚ n
        product k n h i = linear (k ∷ n ∷ []) (h ⊠ i) (hlevel claims) refl

-- two values of an affine map
values_apart : (d : ℕ) (a : AffineMap) (x y : ℕ → Fraction) (p r : Fraction) (row : ℕ)
    → sum_to d (λ col. size (a.at row col)) ≤ℚ p → ((col : ℕ) → col < d → size (x col -ℚ y col) ≤ℚ r)
    → whole (pos 0) ≤ℚ r → size (value_at d a x row -ℚ value_at d a y row) ≤ℚ p *ℚ r
values_apart d a x y p r row rows near some =
    let apart = λ (col : ℕ). a.at row col *ℚ (x col -ℚ y col) in
    rw (difference (a.free row) (λ col. a.at row col *ℚ x col) (λ col. a.at row col *ℚ y col) apart
    (λ col. ring (a.at row col ∷ x col ∷ y col ∷ []) (hlevel terms) refl))
    (le_trans (size-sum_to d apart)
    (le_trans (le_of_equal (sum_to_ext d (λ col b. size_mul (a.at row col) (x col -ℚ y col))))
    (weighted_sum d p r (λ col. size (a.at row col)) (λ col. size (x col -ℚ y col))
    (λ col b. size_natural (a.at row col)) rows near some)))
  where
    difference : (c : Fraction) (f g h : ℕ → Fraction) → ((k : ℕ) → f k -ℚ g k ≡ h k)
        → (c +ℚ sum_to d f) -ℚ (c +ℚ sum_to d g) ≡ sum_to d h
    difference c f g h e = ring (c ∷ sum_to d f ∷ sum_to d g ∷ []) (hlevel terms) refl
        ∙ sym (sum_to_sub d f g) ∙ sum_to_ext d (λ k b. e k)

-- a number near a start of at most 1
mid_is_small : (radius : ℕ) (y z : Fraction) → radius ≤ 2 ^ 45 → size y ≤ℚ whole (pos 1)
    → size (y -ℚ z) ≤ℚ units (pos radius) → size z ≤ℚ over (pos (2 ^ 19 + 1)) (2 ^ 19)
mid_is_small radius y z at_most small near =
    let order : units (pos radius) ≤ℚ units (pos (2 ^ 45)) = units_le (pos radius) (pos (2 ^ 45))
    (omega (arith, ints)) in
    size_le
    (linear (y ∷ z ∷ size y ∷ size (y -ℚ z) ∷ units (pos radius) ∷ [])
    (le_size y ⊞ small ⊞ opposite_le_size (y -ℚ z) ⊞ near ⊞ order) (hlevel claims) refl)
    (linear (y ∷ z ∷ size y ∷ size (y -ℚ z) ∷ units (pos radius) ∷ [])
    (opposite_le_size y ⊞ small ⊞ le_size (y -ℚ z) ⊞ near ⊞ order) (hlevel claims) refl)

pub month_maps_stay_within_their_radius : MonthMapsStayWithinTheirRadius
month_maps_stay_within_their_radius d kappa40 radius m a y mid new few narrow held grows applied start row b =
    let exact = value_at d a y row in
    let at_mid = value_at d a (λ col. units (mid col)) row in
    let apart = values_apart d a y (λ col. units (mid col)) (power (whole (pos 1) +ℚ growth_of kappa40) 32)
    (units (pos radius)) row (grows row b) start.near (natural radius (2 ^ 64)) in
    let middle = middles_are_near d m a mid new few narrow held applied
    (λ col c. mid_is_small radius (y col) (units (mid col)) start.at_most (start.small col c) (start.near col c))
    row b in
    join exact at_mid (units (new row)) (power (whole (pos 1) +ℚ growth_of kappa40) 32 *ℚ units (pos radius))
    (units (pos (grow_turns 32 radius kappa40))) apart middle (turns_grow 32 radius kappa40)
  where
    join : (x v n p g : Fraction) → size (x -ℚ v) ≤ℚ p → size (v -ℚ n) ≤ℚ units (pos 26218)
        → p +ℚ whole (pos 32) *ℚ units (pos 1023) ≤ℚ g → size (x -ℚ n) ≤ℚ g
    join x v n p g first second third = size_le
        (linear (x ∷ v ∷ n ∷ p ∷ g ∷ size (x -ℚ v) ∷ size (v -ℚ n) ∷ [])
        (le_size (x -ℚ v) ⊞ le_size (v -ℚ n) ⊞ first ⊞ second ⊞ third) (hlevel claims) refl)
        (linear (x ∷ v ∷ n ∷ p ∷ g ∷ size (x -ℚ v) ∷ size (v -ℚ n) ∷ [])
        (opposite_le_size (x -ℚ v) ⊞ opposite_le_size (v -ℚ n) ⊞ first ⊞ second ⊞ third) (hlevel claims) refl)
