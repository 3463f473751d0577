-- Numerators over a denominator, rounded down.
use Rattle.std.specs.Prelude.{◌≡◌, ℕ, zero, suc, pos, negsuc, ◌*◌, ◌^◌, ◌<◌, ◌≤◌, ℤ, ◌*ℤ◌, ◌≤ℤ◌, neg_ℤ, unsigned_abs}
use Rattle.std.specs.Prelude.{List, [], ◌∷◌, length, slice_index_or}
use Rattle.std.proofs.Common.{refl, ap, sym, ◌∙◌, arith, inl, inr}
use Rattle.std.proofs.lemmas.Bool.{cases_lt}
use Rattle.std.proofs.lemmas.Int.{ints}
use Rattle.frac_laws.specs.Fraction.{Fraction, whole, over, size, ◌-ℚ◌, ◌≤ℚ◌}
use Rattle.frac_laws.specs.Lists.{number_at}
use Rattle.frac_laws.specs.Polynomials.{all_over}
use Rattle.frac_laws.specs.Rounding.{floor_of}
use Rattle.frac_laws.proofs.FractionTerms.{ring, terms}
use Rattle.frac_laws.proofs.Linear.{linear, claims, natural}
use Rattle.frac_laws.proofs.Order.{le_trans, le_of_equal}
use Rattle.frac_laws.proofs.Norms.{size_zero}
use Rattle.frac_laws.proofs.Quotients.{cross_of_over_le, over-opposite}
use Rattle.frac_laws.proofs.Sizes.{le_of_size_le, opposite_le_size}
use Rattle.frac_laws.proofs.QuotientFacts.{over-zero}
use Rattle.linear_system.specs.StandsFor.{units}
use Rattle.cell_coeffs.specs.Near.{IsNear, IsWithinUnit}
use Rattle.cell_coeffs.proofs.Near.{floor_near}
use Rattle.whole_laws.proofs.Members.{past_end}

-- the number at a place of whole numbers over one denominator
pub at-all_over : (d : ℕ) (ns : List ℤ) (m : ℕ) → number_at (all_over d ns) m ≡ over (slice_index_or ns m (pos 0)) d
at-all_over d [] m = sym (over-zero d)
at-all_over d (n ∷ ns) zero = refl
at-all_over d (n ∷ ns) (suc m) = at-all_over d ns m

-- what is at most 1/64, or 1, has a numerator within the denominator
within : (z : ℤ) (d k : ℕ) → 1 ≤ d → 1 ≤ k → size (over z d) ≤ℚ over (pos 1) k → (z *ℤ pos k) ≤ℤ (pos 1 *ℤ pos d)
within z d k some many small = cross_of_over_le z (pos 1) d k some many (le_of_size_le small)

both : (z : ℤ) (d k : ℕ) → 1 ≤ d → 1 ≤ k → size (over z d) ≤ℚ over (pos 1) k → (neg_ℤ z *ℤ pos k) ≤ℤ (pos 1 *ℤ pos d)
both z d k some many small = cross_of_over_le (neg_ℤ z) (pos 1) d k some many
    (le_trans (le_of_equal (over-opposite z d)) (le_trans (opposite_le_size (over z d)) small))

sixty_four : (z : ℤ) (d : ℕ) → (z *ℤ pos 64) ≤ℤ (pos 1 *ℤ pos d) → (neg_ℤ z *ℤ pos 64) ≤ℤ (pos 1 *ℤ pos d)
    → pos (64 * unsigned_abs z) ≤ℤ pos d
sixty_four (pos n) d high low = omega (arith, ints, high)
sixty_four (negsuc n) d high low = omega (arith, ints, low)

one : (z : ℤ) (d : ℕ) → (z *ℤ pos 1) ≤ℤ (pos 1 *ℤ pos d) → (neg_ℤ z *ℤ pos 1) ≤ℤ (pos 1 *ℤ pos d)
    → pos (unsigned_abs z) ≤ℤ pos d
one (pos n) d high low = omega (arith, ints, high)
one (negsuc n) d high low = omega (arith, ints, low)

module _ (x : ℕ → Fraction) (n numbers : List ℤ) (d : ℕ) (some : 1 ≤ d)
    (are : (m : ℕ) → x m ≡ over (slice_index_or n m (pos 0)) d) where
  pub fine_within : ((m : ℕ) → size (x m) ≤ℚ over (pos 1) 64) → (m : ℕ)
      → pos (64 * unsigned_abs (slice_index_or n m (pos 0))) ≤ℤ pos d
  fine_within small m =
      let z = slice_index_or n m (pos 0) in
      let small_here : size (over z d) ≤ℚ over (pos 1) 64 = le_trans (le_of_equal (ap size (sym (are m)))) (small m) in
      sixty_four z d (within z d 64 some (omega arith) small_here) (both z d 64 some (omega arith) small_here)

  pub coarse_within : ((m : ℕ) → size (x m) ≤ℚ whole (pos 1)) → (m : ℕ)
      → pos (unsigned_abs (slice_index_or n m (pos 0))) ≤ℤ pos d
  coarse_within small m =
      let z = slice_index_or n m (pos 0) in
      let small_here : size (over z d) ≤ℚ over (pos 1) 1 =
      le_trans (le_of_equal (ap size (sym (are m))))
      (le_trans (small m) (linear [] (natural 0 1) (hlevel claims) refl)) in
      one z d (within z d 1 some (omega arith) small_here) (both z d 1 some (omega arith) small_here)

  past_zero : (units : ℕ) (m : ℕ) → length n ≤ m → slice_index_or numbers m (pos 0) ≡ pos 0
      → size (x m -ℚ over (slice_index_or numbers m (pos 0)) units) ≤ℚ over (pos 1) units
  past_zero units m past none =
      let gone : slice_index_or n m (pos 0) ≡ pos 0 = past_end n m past in
      let nothing : x m -ℚ over (slice_index_or numbers m (pos 0)) units ≡ whole (pos 0) =
      ap (λ y. y -ℚ over (slice_index_or numbers m (pos 0)) units) (are m ∙ ap (λ z. over z d) gone ∙ over-zero d)
      ∙ ap (λ z. whole (pos 0) -ℚ over z units) none ∙ ap (λ y. whole (pos 0) -ℚ y) (over-zero units)
      ∙ ring [] (hlevel terms) refl in
      le_trans (le_of_equal (ap size nothing ∙ size_zero)) (natural 1 units)

  near_at : (units : ℕ) → 1 ≤ units
      → ((m : ℕ) → m < length n → slice_index_or numbers m (pos 0)
      ≡ floor_of (slice_index_or n m (pos 0) *ℤ pos units) (pos d))
      → ((m : ℕ) → length n ≤ m → slice_index_or numbers m (pos 0) ≡ pos 0)
      → (m : ℕ) → size (x m -ℚ over (slice_index_or numbers m (pos 0)) units) ≤ℚ over (pos 1) units
  near_at units many value none m = elim (cases_lt m (length n)) [
    | inl below ↦ rw (are m, value m below) (floor_near units (slice_index_or n m (pos 0)) d many some)
    | inr past ↦ past_zero units m past (none m past)
  ]

  pub fine_near :
      ((m : ℕ) → m < length n → slice_index_or numbers m (pos 0)
      ≡ floor_of (slice_index_or n m (pos 0) *ℤ pos (2 ^ 70)) (pos d))
      → ((m : ℕ) → length n ≤ m → slice_index_or numbers m (pos 0) ≡ pos 0)
      → (m : ℕ) → IsNear 2 (x m) (slice_index_or numbers m (pos 0))
  fine_near value none m =
      le_trans (near_at (2 ^ 70) (omega arith) value none m) (linear [] (natural 0 1) (hlevel claims) refl)

  pub coarse_near :
      ((m : ℕ) → m < length n → slice_index_or numbers m (pos 0)
      ≡ floor_of (slice_index_or n m (pos 0) *ℤ pos (2 ^ 64)) (pos d))
      → ((m : ℕ) → length n ≤ m → slice_index_or numbers m (pos 0) ≡ pos 0)
      → (m : ℕ) → IsWithinUnit (x m) (slice_index_or numbers m (pos 0))
  coarse_near value none m = near_at (2 ^ 64) (omega arith) value none m
