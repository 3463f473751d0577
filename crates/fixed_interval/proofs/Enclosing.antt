-- Sums, products and meetings of what intervals hold. A unit is 2^-64, a small unit 2^-128.
use Rattle.std.proofs.Common.{◌≡◌, ℕ, ◌*◌, ◌^◌, ◌≤◌, FitsSigned, ℤ, pos, ◌+ℤ◌, ◌-ℤ◌, ◌*ℤ◌, ◌≤ℤ◌, ◌<ℤ◌, arith}
use Rattle.std.specs.Prelude.{unsigned_abs}
use Rattle.std.specs.Int.{int_min, int_max, w128}
use Rattle.std.proofs.lemmas.Int.{ints, clamps}
use Rattle.frac_laws.specs.Fraction.{Fraction, over, ◌+ℚ◌, ◌*ℚ◌, ◌≤ℚ◌}
use Rattle.frac_laws.specs.Rounding.{floor_of, ceiling_of}
use Rattle.frac_laws.proofs.Extremes.{greater_le, le_lesser, product_le, le_product}
use Rattle.frac_laws.proofs.Linear.{◌⊞◌}
use Rattle.frac_laws.proofs.Order.{le_refl, le_trans}
use Rattle.frac_laws.proofs.Quotients.{over_add, over_mul, over_le_of_cross, cross_of_over_le, units_le}
use Rattle.frac_laws.proofs.RoundingLaws.{floor_low, ceiling_high}
use Rattle.frac_laws.proofs.WholeProducts as whole
use Rattle.fixed_interval.specs.declared.interval.Interval.{Interval}
use Rattle.fixed_interval.specs.Intervals.{LiesIn, LiesInside}
use Rattle.fixed_interval.specs.Products.{least_product, greatest_product}
use Rattle.whole_laws.proofs.Extremes.{lesser_whole-has, greater_whole-has, least_le_left, least_le_right}
use Rattle.whole_laws.proofs.Extremes.{left_le_greatest, right_le_greatest}

abbrev pub units : ℤ → Fraction
units n = over n (2 ^ 64)

abbrev pub small_units : ℤ → Fraction
small_units n = over n (2 ^ 64 * 2 ^ 64)

pub units_mul : (n m : ℤ) → units n *ℚ units m ≡ small_units (n *ℤ m)
units_mul n m = over_mul n m (2 ^ 64) (2 ^ 64) (omega arith) (omega arith)

small_units_le : (n m : ℤ) → n ≤ℤ m → small_units n ≤ℚ small_units m
small_units_le n m h =
    over_le_of_cross n m (2 ^ 64 * 2 ^ 64) (2 ^ 64 * 2 ^ 64) (omega arith) (omega arith)
    (whole.product_le n m (2 ^ 64 * 2 ^ 64) h)

-- ends in order
pub le_of_units : (n m : ℤ) → over n (2 ^ 64) ≤ℚ over m (2 ^ 64) → n ≤ℤ m
le_of_units n m h =
    whole.product_le_cancel n m (2 ^ 64) (omega arith)
    (cross_of_over_le n m (2 ^ 64) (2 ^ 64) (omega arith) (omega arith) h)

-- what lies some units inside both ends of an interval lies in it
pub inside_lies_in : (spare : ℕ) (x : Fraction) (i : Interval) → LiesInside spare x i → LiesIn x i
inside_lies_in spare x i inside = record {
  at_least = le_trans (units_le i.lo (i.lo +ℤ pos spare) (omega (arith, ints))) inside.at_least;
  at_most = le_trans inside.at_most (units_le (i.hi -ℤ pos spare) i.hi (omega (arith, ints)));
}

-- ---- products

pub floor_is_below : (n : ℤ) → units (floor_of n (pos (2 ^ 64))) ≤ℚ small_units n
floor_is_below n =
    let some : pos 0 <ℤ pos (2 ^ 64) = omega (arith, ints) in
    let low = floor_low n (pos (2 ^ 64)) some in
    over_le_of_cross (floor_of n (pos (2 ^ 64))) n (2 ^ 64) (2 ^ 64 * 2 ^ 64) (omega arith) (omega arith)
    (omega (arith, ints))

pub ceiling_is_above : (n : ℤ) → small_units n ≤ℚ units (ceiling_of n (pos (2 ^ 64)))
ceiling_is_above n =
    let some : pos 0 <ℤ pos (2 ^ 64) = omega (arith, ints) in
    let high = ceiling_high n (pos (2 ^ 64)) some in
    over_le_of_cross n (ceiling_of n (pos (2 ^ 64))) (2 ^ 64 * 2 ^ 64) (2 ^ 64) (omega arith) (omega arith)
    (omega (arith, ints))

least_of_four : (p q r s : ℤ) → (int_min (int_min p q) (int_min r s) ≤ℤ p)
    × (int_min (int_min p q) (int_min r s) ≤ℤ q) × (int_min (int_min p q) (int_min r s) ≤ℤ r)
    × (int_min (int_min p q) (int_min r s) ≤ℤ s)
least_of_four p q r s = (
  omega (arith, ints, clamps),
  omega (arith, ints, clamps),
  omega (arith, ints, clamps),
  omega (arith, ints, clamps),
)

greatest_of_four : (p q r s : ℤ) → (p ≤ℤ int_max (int_max p q) (int_max r s))
    × (q ≤ℤ int_max (int_max p q) (int_max r s)) × (r ≤ℤ int_max (int_max p q) (int_max r s))
    × (s ≤ℤ int_max (int_max p q) (int_max r s))
greatest_of_four p q r s = (
  omega (arith, ints, clamps),
  omega (arith, ints, clamps),
  omega (arith, ints, clamps),
  omega (arith, ints, clamps),
)

pub below_product : (z n m : ℤ) → z ≤ℤ (n *ℤ m) → small_units z ≤ℚ units n *ℚ units m
below_product z n m h = rw (units_mul n m) (small_units_le z (n *ℤ m) h)

pub above_product : (z n m : ℤ) → (n *ℤ m) ≤ℤ z → units n *ℚ units m ≤ℚ small_units z
above_product z n m h = rw (units_mul n m) (small_units_le (n *ℤ m) z h)

pub low_product : (a b : Interval) (x y : Fraction) → LiesIn x a → LiesIn y b
    → over (floor_of (least_product a b) (pos (2 ^ 64))) (2 ^ 64) ≤ℚ x *ℚ y
low_product a b x y in_a in_b =
    let least = least_product a b in
    let each = least_of_four (a.lo *ℤ b.lo) (a.lo *ℤ b.hi) (a.hi *ℤ b.lo) (a.hi *ℤ b.hi) in
    le_trans (floor_is_below least)
    (le_trans
    (le_lesser _ _
    (le_lesser _ _ (below_product least a.lo b.lo each.0) (below_product least a.lo b.hi each.1))
    (le_lesser _ _ (below_product least a.hi b.lo each.2) (below_product least a.hi b.hi each.3)))
    (le_product in_a.at_least in_a.at_most in_b.at_least in_b.at_most))

pub high_product : (a b : Interval) (x y : Fraction) → LiesIn x a → LiesIn y b
    → x *ℚ y ≤ℚ over (ceiling_of (greatest_product a b) (pos (2 ^ 64))) (2 ^ 64)
high_product a b x y in_a in_b =
    let most = greatest_product a b in
    let each = greatest_of_four (a.lo *ℤ b.lo) (a.lo *ℤ b.hi) (a.hi *ℤ b.lo) (a.hi *ℤ b.hi) in
    le_trans
    (le_trans (product_le in_a.at_least in_a.at_most in_b.at_least in_b.at_most)
    (greater_le _ _
    (greater_le _ _ (above_product most a.lo b.lo each.0) (above_product most a.lo b.hi each.1))
    (greater_le _ _ (above_product most a.hi b.lo each.2) (above_product most a.hi b.hi each.3))))
    (ceiling_is_above most)

-- ---- sums

pub sum_fits : (n m : ℤ) → unsigned_abs n ≤ 2 ^ 125 → unsigned_abs m ≤ 2 ^ 125 → FitsSigned w128 (n +ℤ m)
sum_fits n m first second = omega (arith, ints)

pub low_sum : (n m : ℤ) (x y : Fraction) → over n (2 ^ 64) ≤ℚ x → over m (2 ^ 64) ≤ℚ y
    → over (n +ℤ m) (2 ^ 64) ≤ℚ x +ℚ y
low_sum n m x y h k = rw (over_add n m (2 ^ 64)) (h ⊞ k)

pub high_sum : (n m : ℤ) (x y : Fraction) → x ≤ℚ over n (2 ^ 64) → y ≤ℚ over m (2 ^ 64)
    → x +ℚ y ≤ℚ over (n +ℤ m) (2 ^ 64)
high_sum n m x y h k = rw (over_add n m (2 ^ 64)) (h ⊞ k)

-- ---- meetings

pub above_both : (n m : ℤ) (x : Fraction) → over n (2 ^ 64) ≤ℚ x → over m (2 ^ 64) ≤ℚ x
    → over (int_max n m) (2 ^ 64) ≤ℚ x
above_both n m x first second = greater_whole-has (λ z. over z (2 ^ 64) ≤ℚ x) n m first second

pub below_both : (n m : ℤ) (x : Fraction) → x ≤ℚ over n (2 ^ 64) → x ≤ℚ over m (2 ^ 64)
    → x ≤ℚ over (int_min n m) (2 ^ 64)
below_both n m x first second = lesser_whole-has (λ z. x ≤ℚ over z (2 ^ 64)) n m first second

-- two intervals share a number where the greater of their lower ends is at most the lesser of their upper ones
pub ends_meet : (a b : Interval) (x : Fraction) → LiesIn x a → LiesIn x b → int_max a.lo b.lo ≤ℤ int_min a.hi b.hi
ends_meet a b x in_a in_b =
    le_of_units (int_max a.lo b.lo) (int_min a.hi b.hi)
    (le_trans (above_both a.lo b.lo x in_a.at_least in_b.at_least)
    (below_both a.hi b.hi x in_a.at_most in_b.at_most))

-- what lies between those two ends lies in both
pub lies_in_both : (a b : Interval) (x : Fraction) → over (int_max a.lo b.lo) (2 ^ 64) ≤ℚ x
    → x ≤ℚ over (int_min a.hi b.hi) (2 ^ 64) → LiesIn x a × LiesIn x b
lies_in_both a b x low high = (
  record {
    at_least = le_trans (units_le a.lo (int_max a.lo b.lo) (left_le_greatest a.lo b.lo)) low;
    at_most = le_trans high (units_le (int_min a.hi b.hi) a.hi (least_le_left a.hi b.hi));
  },
  record {
    at_least = le_trans (units_le b.lo (int_max a.lo b.lo) (right_le_greatest a.lo b.lo)) low;
    at_most = le_trans high (units_le (int_min a.hi b.hi) b.hi (least_le_right a.hi b.hi));
  },
)

-- where these ends are in order, the lower one lies in both
pub end_lies_in_both : (a b : Interval) → int_max a.lo b.lo ≤ℤ int_min a.hi b.hi
    → LiesIn (over (int_max a.lo b.lo) (2 ^ 64)) a × LiesIn (over (int_max a.lo b.lo) (2 ^ 64)) b
end_lies_in_both a b order =
    lies_in_both a b (over (int_max a.lo b.lo) (2 ^ 64)) (le_refl _)
    (units_le (int_max a.lo b.lo) (int_min a.hi b.hi) order)
