-- The greatest and the least of numbers that rule 11 bounds, and the load of them.
use Rattle.std.proofs.Common.{◌≡◌, ℕ, ◌+◌, ◌*◌, ◌≤◌, ℤ, pos, negsuc, ◌-ℤ◌, ◌≤ℤ◌, List, [], ◌∷◌}
use Rattle.std.proofs.Common.{Fits, FitsSigned, arith}
use Rattle.std.specs.Prelude.{All, map, unsigned_abs}
use Rattle.std.specs.Int.{div_ceil, int_max, int_min}
use lib.Dec.{T}
use lib.Signed.{non_neg}
use Rattle.std.specs.Int.{w128}
use Rattle.std.proofs.lemmas.Int.{ints, fits_signed_from_abs}
use Rattle.std.proofs.lemmas.List.Elements.{All-head, All-tail}
use Rattle.named_numbers.specs.Numbers.{most_amount, bernstein_unit}
use Rattle.whole_laws.specs.Whole.{greatest_natural, greatest_whole, least_whole, natural_part}
use Rattle.whole_laws.proofs.Numbers.{natural_part_is}
use Rattle.payment_plan.specs.Loads.{AreWithin, load_of_numerators}

size_of_max : (a b : ℤ) (l : ℕ) → unsigned_abs a ≤ l → unsigned_abs b ≤ l → unsigned_abs (int_max a b) ≤ l
size_of_max a b l h k = grind (arith, ints)

size_of_min : (a b : ℤ) (l : ℕ) → unsigned_abs a ≤ l → unsigned_abs b ≤ l → unsigned_abs (int_min a b) ≤ l
size_of_min a b l h k = grind (arith, ints)

greatest_within : (xs : List ℤ) (l : ℕ) → All (λ n. unsigned_abs n ≤ l) xs → unsigned_abs (greatest_whole xs) ≤ l
greatest_within [] l h = omega arith
greatest_within (x ∷ []) l h = All-head (λ n. unsigned_abs n ≤ l) x [] h
greatest_within (x ∷ y ∷ xs) l h =
    size_of_max x (greatest_whole (y ∷ xs)) l (All-head (λ n. unsigned_abs n ≤ l) x (y ∷ xs) h)
    (greatest_within (y ∷ xs) l (All-tail (λ n. unsigned_abs n ≤ l) x (y ∷ xs) h))

least_within : (xs : List ℤ) (l : ℕ) → All (λ n. unsigned_abs n ≤ l) xs → unsigned_abs (least_whole xs) ≤ l
least_within [] l h = omega arith
least_within (x ∷ []) l h = All-head (λ n. unsigned_abs n ≤ l) x [] h
least_within (x ∷ y ∷ xs) l h =
    size_of_min x (least_whole (y ∷ xs)) l (All-head (λ n. unsigned_abs n ≤ l) x (y ∷ xs) h)
    (least_within (y ∷ xs) l (All-tail (λ n. unsigned_abs n ≤ l) x (y ∷ xs) h))

greatest_size_within : (xs : List ℤ) (l : ℕ) → All (λ n. unsigned_abs n ≤ l) xs
    → greatest_natural (map unsigned_abs xs) ≤ l
greatest_size_within [] l h = omega arith
greatest_size_within (x ∷ xs) l h =
    omega (
      arith,
      All-head (λ n. unsigned_abs n ≤ l) x xs h,
      greatest_size_within xs l (All-tail (λ n. unsigned_abs n ≤ l) x xs h),
    )

between : (a l g : ℤ) → l ≤ℤ g → int_min a l ≤ℤ int_max a g
between a l g h = grind (arith, ints)

least_below_greatest : (xs : List ℤ) → least_whole xs ≤ℤ greatest_whole xs
least_below_greatest [] = omega (arith, ints)
least_below_greatest (x ∷ []) = omega (arith, ints)
least_below_greatest (x ∷ y ∷ xs) =
    between x (least_whole (y ∷ xs)) (greatest_whole (y ∷ xs)) (least_below_greatest (y ∷ xs))

-- the numbers g and l are the greatest and the least of bounded numbers
pub record AreExtremes (xs : List ℤ) (g l : ℤ) : Type 0 where
  pub within : AreWithin xs
  pub greatest : g ≡ greatest_whole xs
  pub least : l ≡ least_whole xs

difference_within : (g l : ℤ) (most : ℕ) → unsigned_abs g ≤ most → unsigned_abs l ≤ most
    → unsigned_abs (g -ℤ l) ≤ 2 * most
difference_within g l most h k = grind (arith, ints)

difference_positive : (g l : ℤ) → l ≤ℤ g → pos 0 ≤ℤ (g -ℤ l)
difference_positive g l h = omega (arith, ints)

natural_part_within : (z : ℤ) → natural_part z ≤ unsigned_abs z
natural_part_within (pos n) = omega arith
natural_part_within (negsuc n) = omega arith

non_negative : (z : ℤ) → pos 0 ≤ℤ z → T (non_neg z)
non_negative (pos n) h = tt
non_negative (negsuc n) h = absurd (omega (arith, ints))

extremes_apart : (xs : List ℤ) (g l : ℤ) → AreExtremes xs g l
    → (pos 0 ≤ℤ (g -ℤ l)) × (unsigned_abs (g -ℤ l) ≤ 2 * (most_amount * bernstein_unit))
extremes_apart xs g l e =
    rw (e.greatest, e.least) (
      difference_positive (greatest_whole xs) (least_whole xs) (least_below_greatest xs),
      difference_within (greatest_whole xs) (least_whole xs) (most_amount * bernstein_unit)
          (greatest_within xs (most_amount * bernstein_unit) e.within)
          (least_within xs (most_amount * bernstein_unit) e.within),
    )

pub extremes_differ : (xs : List ℤ) (g l : ℤ) → AreExtremes xs g l
    → unsigned_abs (g -ℤ l) ≡ natural_part (greatest_whole xs -ℤ least_whole xs)
extremes_differ xs g l e =
    rw (e.greatest, e.least)
    (natural_part_is (greatest_whole xs -ℤ least_whole xs)
    (difference_positive (greatest_whole xs) (least_whole xs) (least_below_greatest xs)))

-- their difference fits
pub difference_fits : (xs : List ℤ) (g l : ℤ) → AreExtremes xs g l → FitsSigned w128 (g -ℤ l)
difference_fits xs g l e = fits_signed_from_abs w128 (g -ℤ l) (omega (arith, (extremes_apart xs g l e).1))

-- and is a number without a sign
pub cast_fits : (xs : List ℤ) (g l : ℤ) → AreExtremes xs g l
    → T (non_neg (g -ℤ l)) × Fits w128 (unsigned_abs (g -ℤ l))
cast_fits xs g l e = (
  non_negative (g -ℤ l) (extremes_apart xs g l e).0,
  omega (arith, (extremes_apart xs g l e).1),
)

-- the parts of a load
pub parts_within : (xs : List ℤ) → AreWithin xs
    → (greatest_natural (map unsigned_abs xs) ≤ most_amount * bernstein_unit)
    × (natural_part (greatest_whole xs -ℤ least_whole xs) ≤ 2 * (most_amount * bernstein_unit))
parts_within xs within = (
  greatest_size_within xs (most_amount * bernstein_unit) within,
  omega (
    arith,
    natural_part_within (greatest_whole xs -ℤ least_whole xs),
    difference_within (greatest_whole xs) (least_whole xs) (most_amount * bernstein_unit)
        (greatest_within xs (most_amount * bernstein_unit) within)
        (least_within xs (most_amount * bernstein_unit) within),
  ),
)

ceiling_within : (a b : ℕ) → a ≤ most_amount * bernstein_unit → b ≤ 2 * (most_amount * bernstein_unit)
    → div_ceil (a + 4 * b) bernstein_unit ≤ 9 * most_amount
ceiling_within a b h k = omega arith

pub load_within : (xs : List ℤ) → AreWithin xs → load_of_numerators xs ≤ 9 * most_amount
load_within xs within =
    ceiling_within (greatest_natural (map unsigned_abs xs)) (natural_part (greatest_whole xs -ℤ least_whole xs))
    (parts_within xs within).0 (parts_within xs within).1
