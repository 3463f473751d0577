-- The quotients of two intervals, the second of which is at or above 1/32.
use Rattle.std.proofs.Common.{◌≡◌, ◌^◌, ◌≤◌, ℤ, pos, ◌*ℤ◌, ◌≤ℤ◌, refl, sym, subst, arith}
use Rattle.std.specs.Prelude.{unsigned_abs}
use Rattle.std.proofs.lemmas.Int.{ints}
use Rattle.frac_laws.specs.Fraction.{Fraction, whole, over, ◌*ℚ◌, ◌≤ℚ◌, ◌<ℚ◌}
use Rattle.frac_laws.specs.Rounding.{floor_of, ceiling_of}
use Rattle.frac_laws.proofs.Order.{lt_le_trans}
use Rattle.frac_laws.proofs.Quotients.{over_lt_of_cross}
use Rattle.frac_laws.proofs.RoundingLaws.{floor-le-ceiling, ceiling_monotone}
use Rattle.frac_laws.proofs.WholeProducts.{product_le}
use Rattle.fixed_interval.specs.declared.interval.Interval.{Interval}
use Rattle.fixed_interval.specs.declared.printed.Printed.{Printed}
use Rattle.fixed_interval.specs.Intervals.{LiesIn}
use Rattle.model_specs.specs.Rows.{IsPremium}
use Rattle.premium_solver.specs.Quotients.{least_divisor, low_quotient, high_quotient, largest_size}
use Rattle.premium_solver.specs.Quotients.{AreQuotientsCloseFor}
use Rattle.premium_solver.proofs.QuotientEnds.{low_encloses, high_encloses, rounded_apart, IsBetweenDivisors}
use Rattle.whole_laws.proofs.Extremes.{lesser_whole-has, greater_whole-has, least_le_left, least_le_right}
use Rattle.whole_laws.proofs.Extremes.{left_le_greatest, right_le_greatest}

abbrev million : ℤ
million = pos (10 ^ 6)

-- the ends of a divisor as natural numbers
low_natural : (p : Interval) → pos least_divisor ≤ℤ p.lo → p.lo ≡ pos (unsigned_abs p.lo)
low_natural p least = omega (arith, ints)

high_natural : (p : Interval) → pos least_divisor ≤ℤ p.lo → p.hi ≡ pos (unsigned_abs p.hi)
high_natural p least = omega (arith, ints, p.ordered)

low_some : (p : Interval) → pos least_divisor ≤ℤ p.lo → 1 ≤ unsigned_abs p.lo
low_some p least = omega (arith, ints)

high_some : (p : Interval) → pos least_divisor ≤ℤ p.lo → 1 ≤ unsigned_abs p.hi
high_some p least = omega (arith, ints, p.ordered)

-- a divisor is above 0
divisor_pays : (p : Interval) (y : Fraction) → pos least_divisor ≤ℤ p.lo → LiesIn y p → whole (pos 0) <ℚ y
divisor_pays p y least inside =
    lt_le_trans (over_lt_of_cross (pos 0) p.lo 1 (2 ^ 64) (omega arith) (omega arith) (omega (arith, ints)))
    inside.at_least

pub encloses : (b p : Interval) (lo hi : ℤ) (x y : Fraction) → pos least_divisor ≤ℤ p.lo → lo ≡ low_quotient b p
    → hi ≡ high_quotient b p → LiesIn x b → LiesIn y p → IsPremium lo hi x y
encloses b p lo hi x y least lo_is hi_is in_b in_p =
    let low_p = low_natural p least in
    let high_p = high_natural p least in
    let first = subst (λ d. over d (2 ^ 64) ≤ℚ y) low_p in_p.at_least in
    let last = subst (λ d. y ≤ℚ over d (2 ^ 64)) high_p in_p.at_most in
    record {
      pays = divisor_pays p y least in_p;
      at_least = subst (λ z. whole z *ℚ y ≤ℚ whole million *ℚ x) (sym lo_is)
          (low_encloses (low_quotient b p) b.lo (10 ^ 6) (unsigned_abs p.lo) (unsigned_abs p.hi) x y
          (low_some p least) (high_some p least)
          (subst (λ d. low_quotient b p ≤ℤ floor_of (b.lo *ℤ million) d) low_p (least_le_left _ _))
          (subst (λ d. low_quotient b p ≤ℤ floor_of (b.lo *ℤ million) d) high_p (least_le_right _ _))
          in_b.at_least first last);
      at_most = subst (λ z. whole million *ℚ x ≤ℚ whole z *ℚ y) (sym hi_is)
          (high_encloses (high_quotient b p) b.hi (10 ^ 6) (unsigned_abs p.lo) (unsigned_abs p.hi) x y
          (low_some p least) (high_some p least)
          (subst (λ d. ceiling_of (b.hi *ℤ million) d ≤ℤ high_quotient b p) low_p (left_le_greatest _ _))
          (subst (λ d. ceiling_of (b.hi *ℤ million) d ≤ℤ high_quotient b p) high_p (right_le_greatest _ _))
          in_b.at_most first last);
    }

ordered : (b p : Interval) → pos least_divisor ≤ℤ p.lo → low_quotient b p ≤ℤ high_quotient b p
ordered b p least =
    let below = least_le_left (floor_of (b.lo *ℤ million) p.lo) (floor_of (b.lo *ℤ million) p.hi) in
    let above = left_le_greatest (ceiling_of (b.hi *ℤ million) p.lo) (ceiling_of (b.hi *ℤ million) p.hi) in
    let rounded = floor-le-ceiling (b.lo *ℤ million) p.lo (omega (arith, ints)) in
    let order = ceiling_monotone (b.lo *ℤ million) (b.hi *ℤ million) p.lo (omega (arith, ints))
    (product_le b.lo b.hi (10 ^ 6) b.ordered) in
    omega (arith, ints)

-- the divisor of each end
low_divisor : (b p : Interval) → pos least_divisor ≤ℤ p.lo
    → IsBetweenDivisors (unsigned_abs p.lo) (unsigned_abs p.hi)
    (λ d. (low_quotient b p ≡ floor_of (b.lo *ℤ million) (pos d))
    × (ceiling_of (b.hi *ℤ million) (pos d) ≤ℤ high_quotient b p))
low_divisor b p least =
    lesser_whole-has
    (λ z. IsBetweenDivisors (unsigned_abs p.lo) (unsigned_abs p.hi)
    (λ d. (z ≡ floor_of (b.lo *ℤ million) (pos d)) × (ceiling_of (b.hi *ℤ million) (pos d) ≤ℤ high_quotient b p)))
    (floor_of (b.lo *ℤ million) p.lo) (floor_of (b.lo *ℤ million) p.hi)
    (record {
      divisor = unsigned_abs p.lo;
      least = omega arith;
      most = omega (arith, ints, p.ordered);
      says = (
        subst (λ d. floor_of (b.lo *ℤ million) p.lo ≡ floor_of (b.lo *ℤ million) d) (low_natural p least) refl,
        subst (λ d. ceiling_of (b.hi *ℤ million) d ≤ℤ high_quotient b p) (low_natural p least) (left_le_greatest _ _),
      );
    })
    (record {
      divisor = unsigned_abs p.hi;
      least = omega (arith, ints, p.ordered);
      most = omega arith;
      says = (
        subst (λ d. floor_of (b.lo *ℤ million) p.hi ≡ floor_of (b.lo *ℤ million) d) (high_natural p least) refl,
        subst (λ d. ceiling_of (b.hi *ℤ million) d ≤ℤ high_quotient b p) (high_natural p least) (right_le_greatest _ _),
      );
    })

high_divisor : (b p : Interval) → pos least_divisor ≤ℤ p.lo
    → IsBetweenDivisors (unsigned_abs p.lo) (unsigned_abs p.hi)
    (λ d. (high_quotient b p ≡ ceiling_of (b.hi *ℤ million) (pos d))
    × (low_quotient b p ≤ℤ floor_of (b.lo *ℤ million) (pos d)))
high_divisor b p least =
    greater_whole-has
    (λ z. IsBetweenDivisors (unsigned_abs p.lo) (unsigned_abs p.hi)
    (λ d. (z ≡ ceiling_of (b.hi *ℤ million) (pos d)) × (low_quotient b p ≤ℤ floor_of (b.lo *ℤ million) (pos d))))
    (ceiling_of (b.hi *ℤ million) p.lo) (ceiling_of (b.hi *ℤ million) p.hi)
    (record {
      divisor = unsigned_abs p.lo;
      least = omega arith;
      most = omega (arith, ints, p.ordered);
      says = (
        subst (λ d. ceiling_of (b.hi *ℤ million) p.lo ≡ ceiling_of (b.hi *ℤ million) d) (low_natural p least) refl,
        subst (λ d. low_quotient b p ≤ℤ floor_of (b.lo *ℤ million) d) (low_natural p least) (least_le_left _ _),
      );
    })
    (record {
      divisor = unsigned_abs p.hi;
      least = omega (arith, ints, p.ordered);
      most = omega arith;
      says = (
        subst (λ d. ceiling_of (b.hi *ℤ million) p.hi ≡ ceiling_of (b.hi *ℤ million) d) (high_natural p least) refl,
        subst (λ d. low_quotient b p ≤ℤ floor_of (b.lo *ℤ million) d) (high_natural p least) (least_le_right _ _),
      );
    })

pub close : (b p : Interval) (ends : Printed) → pos least_divisor ≤ℤ p.lo → ends.lo ≡ low_quotient b p
    → ends.hi ≡ high_quotient b p → AreQuotientsCloseFor b p ends
close b p ends least lo_is hi_is width_b width_p y narrow_b narrow_p in_p =
    let low = low_natural p least in
    let high = high_natural p least in
    rounded_apart b.lo b.hi ends.lo ends.hi (10 ^ 6) (unsigned_abs p.lo) (unsigned_abs p.hi) width_b width_p
    (largest_size ends) y (low_some p least) b.ordered
    (subst (λ h. IsBetweenDivisors (unsigned_abs p.lo) (unsigned_abs p.hi)
    (λ d. (ends.lo ≡ floor_of (b.lo *ℤ million) (pos d)) × (ceiling_of (b.hi *ℤ million) (pos d) ≤ℤ h))) (sym hi_is)
    (subst (λ l. IsBetweenDivisors (unsigned_abs p.lo) (unsigned_abs p.hi)
    (λ d. (l ≡ floor_of (b.lo *ℤ million) (pos d)) × (ceiling_of (b.hi *ℤ million) (pos d) ≤ℤ high_quotient b p)))
    (sym lo_is) (low_divisor b p least)))
    (subst (λ h. IsBetweenDivisors (unsigned_abs p.lo) (unsigned_abs p.hi)
    (λ d. (h ≡ ceiling_of (b.hi *ℤ million) (pos d)) × (ends.lo ≤ℤ floor_of (b.lo *ℤ million) (pos d)))) (sym hi_is)
    (subst (λ l. IsBetweenDivisors (unsigned_abs p.lo) (unsigned_abs p.hi)
    (λ d. (high_quotient b p ≡ ceiling_of (b.hi *ℤ million) (pos d)) × (l ≤ℤ floor_of (b.lo *ℤ million) (pos d))))
    (sym lo_is) (high_divisor b p least)))
    (omega arith) (omega arith) narrow_b (omega (arith, ints, narrow_p, p.ordered))
    (subst (λ d. over d (2 ^ 64) ≤ℚ y) low in_p.at_least) (subst (λ d. y ≤ℚ over d (2 ^ 64)) high in_p.at_most)

-- in the order and of the size of what they are
pub ordered_ends : (b p : Interval) (lo hi : ℤ) → pos least_divisor ≤ℤ p.lo → lo ≡ low_quotient b p
    → hi ≡ high_quotient b p → lo ≤ℤ hi
ordered_ends b p lo hi least lo_is hi_is = rw (lo_is, hi_is) (ordered b p least)
