-- The quotients of two intervals: their least and their greatest one, and how far these lie apart.
use Rattle.std.specs.Prelude.{ℕ, ◌+◌, ◌*◌, ◌^◌, max, ℤ, pos, ◌+ℤ◌, ◌-ℤ◌, ◌*ℤ◌, ◌≤ℤ◌, unsigned_abs}
use Rattle.std.specs.Int.{int_min, int_max}
use Rattle.frac_laws.specs.Fraction.{Fraction, whole, over, ◌+ℚ◌, ◌*ℚ◌, ◌≤ℚ◌}
use Rattle.frac_laws.specs.Rounding.{floor_of, ceiling_of}
use Rattle.fixed_interval.specs.declared.interval.Interval.{Interval}
use Rattle.fixed_interval.specs.declared.printed.Printed.{Printed}
use Rattle.fixed_interval.specs.Intervals.{LiesIn}

-- the least lower end of a divisor: 1/32, in units of 2^-64
abbrev pub least_divisor : ℕ
least_divisor = 2 ^ 59

-- the greatest end of a divisor, in units of 2^-64
abbrev pub most_divisor : ℕ
most_divisor = 2 ^ 100

-- no quotient is larger in size than this, in millionths
abbrev pub most_quotient : ℕ
most_quotient = 2 ^ 84

-- the least quotient of a number of b by a number of p, in millionths, rounded down: that of b's lower end by one of
-- p's ends
abbrev pub low_quotient : Interval → Interval → ℤ
low_quotient b p = int_min (floor_of (b.lo *ℤ pos (10 ^ 6)) p.lo) (floor_of (b.lo *ℤ pos (10 ^ 6)) p.hi)

-- and the greatest one, rounded up
abbrev pub high_quotient : Interval → Interval → ℤ
high_quotient b p = int_max (ceiling_of (b.hi *ℤ pos (10 ^ 6)) p.lo) (ceiling_of (b.hi *ℤ pos (10 ^ 6)) p.hi)

-- the greater one of the sizes of two ends
abbrev pub largest_size : Printed → ℕ
largest_size ends = max (unsigned_abs ends.lo) (unsigned_abs ends.hi)

-- times a divisor y, the ends of quotients lie no further apart than this: what the numbers' width gives, what the
-- divisors' width gives, and two millionths for the two roundings; both widths are in units of 2^-64
abbrev pub AreQuotientsClose : (width_b width_p : ℕ) → Printed → Fraction → Type 0
AreQuotientsClose width_b width_p ends y =
    whole (ends.hi -ℤ ends.lo) *ℚ y
    ≤ℚ over (pos (10 ^ 6 * width_b + 2 * largest_size ends * width_p)) (2 ^ 64) +ℚ whole (pos 2) *ℚ y

-- the ends of the quotients of two intervals are close for each of their divisors
abbrev pub AreQuotientsCloseFor : Interval → Interval → Printed → Type 0
AreQuotientsCloseFor b p ends = (width_b width_p : ℕ) (y : Fraction) → b.hi ≤ℤ (b.lo +ℤ pos width_b)
    → p.hi ≤ℤ (p.lo +ℤ pos width_p) → LiesIn y p → AreQuotientsClose width_b width_p ends y
