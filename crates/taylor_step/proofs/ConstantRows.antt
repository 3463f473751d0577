-- In a cell of constant rates and payments nothing is stored above power 0, and the coefficients fall by 63 (k + 1)
-- and more from power k to the next.
use Rattle.std.specs.Prelude.{◌≡◌, ℕ, zero, suc, ◌+◌, ◌-◌, ◌*◌, ◌^◌, ◌<◌, ◌≤◌, ℤ, pos, List, [], ◌∷◌, length}
use Rattle.std.specs.Prelude.{refl, unsigned_abs, slice_index_or}
use Rattle.std.proofs.Common.{ap, sym, ◌∙◌, arith, inl, inr, lit≤}
use Rattle.std.proofs.lemmas.Int.{ints}
use Rattle.std.proofs.lemmas.Bool.{cases_lt}
use Rattle.frac_laws.specs.Fraction.{Fraction, over, whole, size, ◌+ℚ◌, ◌*ℚ◌, ◌-ℚ◌, ◌≤ℚ◌}
use Rattle.frac_laws.specs.Sums.{sum_to}
use Rattle.frac_laws.proofs.FractionTerms.{ring, terms}
use Rattle.frac_laws.proofs.Linear.{linear, claims, natural, ◌⊞◌, ◌⊠◌, ◌·◌}
use Rattle.frac_laws.proofs.Order.{le_refl, le_trans, le_of_equal, add_mono}
use Rattle.frac_laws.proofs.Quotients.{whole_le, inverse}
use Rattle.frac_laws.proofs.Sizes.{size_add, size_mul, size_natural, size_of_natural}
use Rattle.frac_laws.proofs.Signs.{mul_natural}
use Rattle.frac_laws.proofs.Sums.{sum_to_first, sum_to_mono, sum_to_scale_right, sum_to_zeros, size-sum_to}
use Rattle.frac_laws.proofs.Sums.{sum_to_ext}
use Rattle.linear_system.specs.StoredSystem.{StoredSystem, IsSystem, dim_of, row_of, stored_number, stored_free}
use Rattle.linear_system.specs.StandsFor.{units}
use Rattle.linear_system.specs.DegreeLimit.{exact_back, exact_coefficient, greatest_power}
use Rattle.taylor_step.specs.CanStep.{AreAtMost}
use Rattle.taylor_step.specs.Stops.{HasSmallBack, IsStop}
use Rattle.taylor_step.specs.WholeRun.{coefficient}
use Rattle.taylor_step.proofs.DegreeLimits.{exact_recurs, near_exact, counted_size}
use Rattle.taylor_step.proofs.FitsByRows.{RowsAreWithin}
use Rattle.taylor_step.proofs.RowProducts.{held_small}
use Rattle.taylor_step.proofs.Scaled.{unit, no_units}
use Rattle.taylor_step.proofs.Sizes.{size_of}
use Rattle.taylor_step.proofs.StoredSizes.{size_units}
use Rattle.taylor_step.proofs.Tops.{none_above_greatest}

-- a number of at most some units
pub size_at_most : (z : ℤ) (most : ℕ) → unsigned_abs z ≤ most → size (units z) ≤ℚ whole (pos most) *ℚ unit
size_at_most z most h = le_trans (le_of_equal (sym (size_units z))) (times (whole (pos (unsigned_abs z)))
    (whole (pos most)) (whole_le (omega (arith, ints, h))))
  where
    times : (x y : Fraction) → x ≤ℚ y → x *ℚ unit ≤ℚ y *ℚ unit
    times x y h = linear (x ∷ y ∷ []) (natural 1 (2 ^ 64) ⊠ h) (hlevel claims) refl

-- bounds of which each is the one before it, divided by 63 times the next power
abbrev pub falling : Fraction → ℕ → Fraction
falling b zero = b
falling b (suc k) = over (pos 1) 63 *ℚ (over (pos 1) (suc (suc k)) *ℚ falling b k)

pub falling_natural : (b : Fraction) → whole (pos 0) ≤ℚ b → (k : ℕ) → whole (pos 0) ≤ℚ falling b k
falling_natural b h zero = h
falling_natural b h (suc k) =
    mul_natural (natural 1 63) (mul_natural (natural 1 (suc (suc k))) (falling_natural b h k))

module _ (s : StoredSystem) (mid : List ℤ) (sys : IsSystem s) (long : length mid ≡ dim_of s)
    (only : greatest_power s ≡ 0) where
  -- the sum over some columns from a place on, of the sizes of the numbers stored at power 0 and what they meet
  abbrev pub met : ℕ → ℕ → ℕ → ℕ → Fraction
  met k row first count = sum_to count (λ col. size (units (stored_number s row (first + col) 0))
      *ℚ size (exact_coefficient s mid k (first + col)))

  pub nothing_later : (row col m : ℕ) → row < dim_of s → col ≤ dim_of s
      → units (stored_number s row col (suc m)) ≡ whole (pos 0)
  nothing_later row col m b c =
      ap units (none_above_greatest s sys row col (suc m) b c (omega (arith, only))) ∙ no_units

  pub free_small : (row : ℕ) → row < dim_of s → size (units (stored_free s row 0)) ≤ℚ over (pos 1) 32
  free_small row b = le_trans (size_at_most (stored_free s row 0) (2 ^ 59)
      (held_small (row_of s row) (dim_of s) s.degree (dim_of s) 0 (sys.each row b)))
      (linear [] (natural 0 1) (hlevel claims) refl)

  -- (k + 1) |y_(k+1)| is at most what the numbers at power 0 meet, and the free number
  pub recurs : (k row : ℕ) → row < dim_of s → whole (pos (suc k)) *ℚ size (exact_coefficient s mid (suc k) row)
      ≤ℚ met k row 0 (dim_of s) +ℚ size (units (stored_free s row k))
  recurs k row b = le_trans (le_of_equal (ap (λ t. t *ℚ size (exact_coefficient s mid (suc k) row))
      (sym (size_of_natural (natural (suc k) 1)))
      ∙ sym (size_mul (whole (pos (suc k))) (exact_coefficient s mid (suc k) row))
      ∙ ap size (exact_recurs s mid k row ∙ ap (λ t. t +ℚ units (stored_free s row k))
      (sum_to_first k (λ m. sum_to (dim_of s) (λ col. units (stored_number s row col m)
      *ℚ exact_coefficient s mid (k - m) col))
      ∙ alone _ _ (sum_to_zeros k (λ m c. sum_to_zeros (dim_of s) (λ col d.
      ap (λ t. t *ℚ exact_coefficient s mid (k - suc m) col) (nothing_later row col m b (omega (arith, d)))
      ∙ ring (exact_coefficient s mid (k - suc m) col ∷ []) (hlevel terms) refl)))))))
      (le_trans (size_add (sum_to (dim_of s) (λ col. units (stored_number s row col 0)
      *ℚ exact_coefficient s mid (k - 0) col)) (units (stored_free s row k)))
      (add_mono (le_trans (size-sum_to (dim_of s) (λ col. units (stored_number s row col 0)
      *ℚ exact_coefficient s mid (k - 0) col))
      (le_of_equal (sum_to_ext (dim_of s) (λ col c. size_mul (units (stored_number s row col 0))
      (exact_coefficient s mid (k - 0) col) ∙ same col (omega arith) (omega arith)))))
      (le_refl _)))
    where
      alone : (x y : Fraction) → y ≡ whole (pos 0) → x +ℚ y ≡ x
      alone x y e = rw e (ring (x ∷ []) (hlevel terms) refl)

      same : (col : ℕ) → k - 0 ≡ k → 0 + col ≡ col
          → size (units (stored_number s row col 0)) *ℚ size (exact_coefficient s mid (k - 0) col)
          ≡ size (units (stored_number s row (0 + col) 0)) *ℚ size (exact_coefficient s mid k (0 + col))
      same col e f = ap (λ t. size (units (stored_number s row col 0)) *ℚ size (exact_coefficient s mid t col)) e
          ∙ ap (λ c. size (units (stored_number s row c 0)) *ℚ size (exact_coefficient s mid k c)) (sym f)

  -- what is met is at most the sum of the stored sizes times a bound
  pub met_within : (k row first count : ℕ) (bound : Fraction)
      → ((col : ℕ) → col < count → size (exact_coefficient s mid k (first + col)) ≤ℚ bound)
      → met k row first count
      ≤ℚ sum_to count (λ col. size (units (stored_number s row (first + col) 0))) *ℚ bound
  met_within k row first count bound h = le_trans (sum_to_mono count
      {g = λ col. size (units (stored_number s row (first + col) 0)) *ℚ bound} (λ col c. times
      (size (units (stored_number s row (first + col) 0))) (size (exact_coefficient s mid k (first + col)))
      (size_natural (units (stored_number s row (first + col) 0))) (h col c)))
      (le_of_equal (sum_to_scale_right count bound (λ col. size (units (stored_number s row (first + col) 0)))))
    where
      times : (x y : Fraction) → whole (pos 0) ≤ℚ x → y ≤ℚ bound → x *ℚ y ≤ℚ x *ℚ bound
      times x y h l = linear (x ∷ y ∷ bound ∷ []) (h ⊠ l) (hlevel claims) refl

  pub no_free : (k row : ℕ) → row < dim_of s → size (units (stored_free s row (suc k))) ≤ℚ whole (pos 0)
  no_free k row b =
      le_of_equal (ap size (nothing_later row (dim_of s) k b (omega arith)) ∙ size_of_natural (natural 0 1))

  pub at_start : (most : ℕ) → AreAtMost most mid → (row : ℕ)
      → size (exact_coefficient s mid 0 row) ≤ℚ whole (pos most) *ℚ unit
  unfolding exact_back
  at_start most h row = size_at_most (slice_index_or mid row (pos 0)) most (h row)

  -- a row of which the stored sizes in some columns add up to at most 1/63, and no other column meets anything
  module _ (first count : ℕ) (start bound : Fraction) (start_natural : whole (pos 0) ≤ℚ start)
      (inside : (row : ℕ) → row < count → first + row < dim_of s)
      (rows : (k row : ℕ) → row < count → met k (first + row) 0 (dim_of s) ≤ℚ met k (first + row) first count)
      (sums : (row : ℕ) → row < count
      → sum_to count (λ col. size (units (stored_number s (first + row) (first + col) 0))) ≤ℚ over (pos 1) 63)
      (starts : (row : ℕ) → row < count → size (exact_coefficient s mid 0 (first + row)) ≤ℚ start)
      (enough : over (pos 1) 63 *ℚ start +ℚ over (pos 1) 32 ≤ℚ bound) where
    bound_natural : whole (pos 0) ≤ℚ bound
    bound_natural = linear (start ∷ bound ∷ []) (natural 1 63 ⊠ start_natural ⊞ natural 1 32 ⊞ enough)
        (hlevel claims) refl

    pub falls : (k row : ℕ) → row < count → size (exact_coefficient s mid (suc k) (first + row)) ≤ℚ falling bound k
    falls zero row b = join (whole (pos 1) *ℚ size (exact_coefficient s mid 1 (first + row)))
        (size (exact_coefficient s mid 1 (first + row))) _ _ _
        (ring (size (exact_coefficient s mid 1 (first + row)) ∷ []) (hlevel terms) refl)
        (recurs 0 (first + row) (inside row b)) (le_trans (rows 0 row b)
        (met_within 0 (first + row) first count start starts)) (sums row b) start_natural
        (free_small (first + row) (inside row b)) enough
      where
        join : (n x m t g : Fraction) → n ≡ x → n ≤ℚ m +ℚ g → m ≤ℚ t *ℚ start → t ≤ℚ over (pos 1) 63
            → whole (pos 0) ≤ℚ start → g ≤ℚ over (pos 1) 32
            → over (pos 1) 63 *ℚ start +ℚ over (pos 1) 32 ≤ℚ bound → x ≤ℚ bound
        join n x m t g e h1 h2 h3 hs h4 h5 = linear (n ∷ x ∷ m ∷ t ∷ g ∷ start ∷ bound ∷ [])
            (le_of_equal (sym e) ⊞ h1 ⊞ h2 ⊞ h3 ⊠ hs ⊞ h4 ⊞ h5) (hlevel claims) refl
    falls (suc k) row b = join (whole (pos (suc (suc k)))) (over (pos 1) (suc (suc k)))
        (size (exact_coefficient s mid (suc (suc k)) (first + row))) _ _ _ (falling bound k)
        (inverse (suc (suc k)) (omega arith)) (natural 1 (suc (suc k)))
        (recurs (suc k) (first + row) (inside row b)) (le_trans (rows (suc k) row b)
        (met_within (suc k) (first + row) first count (falling bound k) (λ col c. falls k col c))) (sums row b)
        (falling_natural bound bound_natural k) (no_free k (first + row) (inside row b))
      where
        join : (n i x m t g f : Fraction) → n *ℚ i ≡ whole (pos 1) → whole (pos 0) ≤ℚ i → n *ℚ x ≤ℚ m +ℚ g
            → m ≤ℚ t *ℚ f → t ≤ℚ over (pos 1) 63 → whole (pos 0) ≤ℚ f → g ≤ℚ whole (pos 0)
            → x ≤ℚ over (pos 1) 63 *ℚ (i *ℚ f)
        join n i x m t g f e hi h1 h2 h3 hf h4 = linear (n ∷ i ∷ x ∷ m ∷ t ∷ g ∷ f ∷ [])
            (hi ⊠ (h1 ⊞ h2 ⊞ h3 ⊠ hf ⊞ h4) ⊞ (x · sym e)) (hlevel claims) refl

  -- where the exact numbers are at most 62 units, the rounded ones are at most 64
  pub small_at : RowsAreWithin s (2 ^ 63) → (k : ℕ) → ((row : ℕ) → row < dim_of s
      → size (exact_coefficient s mid k row) ≤ℚ whole (pos 62) *ℚ unit) → HasSmallBack s mid k
  small_at rows k h m row c b =
      let none : m ≡ 0 = omega (arith, only, c) in
      let back : k - m ≡ k = omega arith in
      rw (back, none) (whole_size (coefficient s mid k row) (exact_coefficient s mid k row)
      (near_exact s mid sys long rows k row b) (h row b))
    where
      whole_size : (z : ℤ) (y : Fraction) → size (y -ℚ units z) ≤ℚ whole (pos 2) *ℚ unit
          → size y ≤ℚ whole (pos 62) *ℚ unit → unsigned_abs z ≤ 64 * 8 ^ 0
      whole_size z y near small = counted_size z y 62 (64 * 8 ^ 0) near (le_trans small
          (linear [] (natural 0 1) (hlevel claims) refl)) (lit≤ tt)

  -- so a step stops there at the latest
  pub stops_at : (k degree : ℕ) → 8 ≤ k → HasSmallBack s mid k → IsStop s mid degree → degree ≤ k
  stops_at k degree b small stop = elim (cases_lt k degree) [
    | inl c ↦ absurd (stop.first k (rw only b) c small)
    | inr c ↦ c
  ]

-- the stored sizes at power 0, from those of all powers up to a number
pub sizes_at_zero : (count most : ℕ) (f : ℕ → ℕ → ℤ)
    → sum_to 1 (λ m. sum_to count (λ col. whole (size_of (f col m)))) ≤ℚ whole (pos most)
    → sum_to count (λ col. size (units (f col 0))) ≤ℚ whole (pos most) *ℚ unit
sizes_at_zero count most f h = le_trans (le_of_equal (sum_to_ext count (λ col c. sym (size_units (f col 0)))
    ∙ sum_to_scale_right count unit (λ col. whole (size_of (f col 0)))))
    (times (sum_to count (λ col. whole (size_of (f col 0)))) (whole (pos most)) h)
  where
    times : (x y : Fraction) → whole (pos 0) +ℚ x ≤ℚ y → x *ℚ unit ≤ℚ y *ℚ unit
    times x y h = linear (x ∷ y ∷ []) (natural 1 (2 ^ 64) ⊠ h) (hlevel claims) refl

-- the same columns, counted from a place on
pub from_place : (s : StoredSystem) (row row2 first count : ℕ) (f : ℕ → ℕ → ℤ) → row2 ≡ row
    → ((col m : ℕ) → f col m ≡ stored_number s row (first + col) m)
    → sum_to count (λ col. size (units (stored_number s row2 (first + col) 0)))
    ≡ sum_to count (λ col. size (units (f col 0)))
from_place s row row2 first count f e h = sum_to_ext count (λ col c. ap (λ z. size (units z))
    (ap (λ r. stored_number s r (first + col) 0) e ∙ sym (h col 0)))
