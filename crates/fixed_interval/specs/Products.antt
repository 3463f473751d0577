-- The ends of a product of two intervals.
use Rattle.std.specs.Prelude.{◌^◌, ℤ, pos, ◌*ℤ◌}
use Rattle.std.specs.Int.{int_min, int_max}
use Rattle.frac_laws.specs.Rounding.{floor_of, ceiling_of}
use Rattle.fixed_interval.specs.declared.interval.Interval.{Interval}

-- the least product of a number of each, in units of 2^-128, which is one of the four products of ends
abbrev pub least_product : Interval → Interval → ℤ
least_product a b =
    int_min (int_min (a.lo *ℤ b.lo) (a.lo *ℤ b.hi)) (int_min (a.hi *ℤ b.lo) (a.hi *ℤ b.hi))

-- the greatest one, in units of 2^-128
abbrev pub greatest_product : Interval → Interval → ℤ
greatest_product a b =
    int_max (int_max (a.lo *ℤ b.lo) (a.lo *ℤ b.hi)) (int_max (a.hi *ℤ b.lo) (a.hi *ℤ b.hi))

-- the least product of one number and a number of an interval, rounded down to a unit of 2^-64
abbrev pub low_end : ℤ → Interval → ℤ
low_end number i = floor_of (int_min (number *ℤ i.lo) (number *ℤ i.hi)) (pos (2 ^ 64))

-- and the greatest one, rounded up
abbrev pub high_end : ℤ → Interval → ℤ
high_end number i = ceiling_of (int_max (number *ℤ i.lo) (number *ℤ i.hi)) (pos (2 ^ 64))
