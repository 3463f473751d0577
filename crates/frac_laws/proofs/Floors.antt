-- The floor and the ceiling of a quotient of whole numbers, as fractions.
use Rattle.std.specs.Prelude.{ℕ, pos, ℤ, ◌+ℤ◌, neg_ℤ, ◌≤ℤ◌, ◌<ℤ◌, ◌≤◌}
use Rattle.std.specs.Prelude.{[], ◌∷◌}
use Rattle.std.proofs.Common.{refl, arith, ◌≡◌, ◌-◌, ◌^◌, negsuc}
use Rattle.std.proofs.lemmas.Int.{ints}
use Rattle.std.specs.Int.{int_shr}
use Rattle.frac_laws.specs.Fraction.{over, whole, ◌+ℚ◌, ◌-ℚ◌, ◌≤ℚ◌, ◌<ℚ◌}
use Rattle.frac_laws.specs.Rounding.{floor_of, ceiling_of}
use Rattle.frac_laws.proofs.Linear.{linear, linear_lt, claims}
use Rattle.frac_laws.proofs.RoundingLaws.{floor_low, floor_high}
use Rattle.frac_laws.proofs.WholeProducts.{next-product}
use Rattle.frac_laws.proofs.Quotients.{over_le_of_cross, over_lt_of_cross, over-opposite}
use Rattle.frac_laws.proofs.Quotients.{whole_add}
use Rattle.frac_laws.proofs.Quotients.{whole-opposite, lt_of_whole}
use Rattle.frac_laws.proofs.Order.{le_lt_trans}
use Rattle.frac_base.proofs.WholeRing.{mul_one}

positive : (d : ℕ) → 1 ≤ d → pos 0 <ℤ pos d
positive d a = omega (arith, ints)

-- floor(n / d) is at most n / d
pub floor_le : (n : ℤ) (d : ℕ) → 1 ≤ d → whole (floor_of n (pos d)) ≤ℚ over n d
floor_le n d a = over_le_of_cross (floor_of n (pos d)) n 1 d (omega arith) a
    (rw (mul_one n) (floor_low n (pos d) (positive d a)))

-- n / d is below floor(n / d) + 1
pub lt_next : (n : ℤ) (d : ℕ) → 1 ≤ d → over n d <ℚ whole (floor_of n (pos d)) +ℚ whole (pos 1)
lt_next n d a = rw (← whole_add (floor_of n (pos d)) (pos 1))
    (over_lt_of_cross n (floor_of n (pos d) +ℤ pos 1) d 1 a (omega arith)
    (rw (mul_one n, next-product (floor_of n (pos d)) d) (floor_high n (pos d) (positive d a))))

-- n / d is at most ceiling(n / d)
pub le_ceiling : (n : ℤ) (d : ℕ) → 1 ≤ d → over n d ≤ℚ whole (ceiling_of n (pos d))
le_ceiling n d a = rw (whole-opposite (floor_of (neg_ℤ n) (pos d)))
    (linear (over n d ∷ whole (floor_of (neg_ℤ n) (pos d)) ∷ [])
    (rw (over-opposite n d) at (floor_le (neg_ℤ n) d a)) (hlevel claims) refl)

-- ceiling(n / d) - 1 is below n / d
pub previous_lt : (n : ℤ) (d : ℕ) → 1 ≤ d → whole (ceiling_of n (pos d)) -ℚ whole (pos 1) <ℚ over n d
previous_lt n d a = rw (whole-opposite (floor_of (neg_ℤ n) (pos d)))
    (linear_lt (over n d ∷ whole (floor_of (neg_ℤ n) (pos d)) ∷ [])
    (rw (over-opposite n d) at (lt_next (neg_ℤ n) d a)) (hlevel claims) refl)

-- the floor is the greatest whole number at or below n / d, and the ceiling the least at or above it
pub floor_greatest : (n m : ℤ) (d : ℕ) → 1 ≤ d → whole m ≤ℚ over n d → m ≤ℤ floor_of n (pos d)
floor_greatest n m d a h = at_most_floor m (floor_of n (pos d))
    (lt_of_whole (rw (whole_add (floor_of n (pos d)) (pos 1)) (le_lt_trans h (lt_next n d a))))
  where
    at_most_floor : (m f : ℤ) → m <ℤ (f +ℤ pos 1) → m ≤ℤ f
    at_most_floor m f h = omega (arith, ints)

pub ceiling_least : (n m : ℤ) (d : ℕ) → 1 ≤ d → over n d ≤ℚ whole m → ceiling_of n (pos d) ≤ℤ m
ceiling_least n m d a h = opposite_order (floor_of (neg_ℤ n) (pos d)) m
    (floor_greatest (neg_ℤ n) (neg_ℤ m) d a
    (rw (over-opposite n d, whole-opposite m) (linear (over n d ∷ whole m ∷ []) h (hlevel claims) refl)))
  where
    opposite_order : (f m : ℤ) → neg_ℤ m ≤ℤ f → neg_ℤ f ≤ℤ m
    opposite_order f m h = omega (arith, ints)

-- a shift to the right is the floor of the quotient
pub shift-floor : (z : ℤ) (k : ℕ) → int_shr z k ≡ floor_of z (pos (2 ^ k))
shift-floor (pos n) k = refl
shift-floor (negsuc n) k = refl
