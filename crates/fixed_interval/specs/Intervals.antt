-- What an interval holds: the numbers between its ends, which are in units of 2^-64.
use Rattle.std.specs.Prelude.{ℕ, ◌^◌, ◌≤◌, pos, ◌+ℤ◌, ◌-ℤ◌, unsigned_abs}
use Rattle.frac_laws.specs.Fraction.{Fraction, over, ◌≤ℚ◌}
use Rattle.fixed_interval.specs.declared.interval.Interval.{Interval}

-- a number lies in an interval: neither below its lower end nor above its upper one
pub record LiesIn (x : Fraction) (i : Interval) : Type 0 where
  pub at_least : over i.lo (2 ^ 64) ≤ℚ x
  pub at_most : x ≤ℚ over i.hi (2 ^ 64)

-- and some units away from both ends
pub record LiesInside (spare : ℕ) (x : Fraction) (i : Interval) : Type 0 where
  pub at_least : over (i.lo +ℤ pos spare) (2 ^ 64) ≤ℚ x
  pub at_most : x ≤ℚ over (i.hi -ℤ pos spare) (2 ^ 64)

-- no end is larger in size than so many units
pub record HasEndsUpTo (most : ℕ) (i : Interval) : Type 0 where
  pub lo : unsigned_abs i.lo ≤ most
  pub hi : unsigned_abs i.hi ≤ most
