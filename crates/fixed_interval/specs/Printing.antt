-- What printed ends hold, and how far they lie apart.
use Rattle.std.specs.Prelude.{ℕ, ◌+◌, ◌*◌, ◌^◌, ◌≤◌, pos, unsigned_abs}
use Rattle.std.specs.Int.{div_ceil}
use Rattle.frac_laws.specs.Fraction.{Fraction, whole, ◌*ℚ◌, ◌≤ℚ◌}
use Rattle.fixed_interval.specs.declared.printed.Printed.{Printed}

-- a number lies between printed ends, which are in units of 1 / unit
pub record LiesBetweenIn (unit : ℕ) (ends : Printed) (x : Fraction) : Type 0 where
  pub at_least : whole ends.lo ≤ℚ whole (pos unit) *ℚ x
  pub at_most : whole (pos unit) *ℚ x ≤ℚ whole ends.hi

-- the ends are in millionths
abbrev pub LiesBetween : Printed → Fraction → Type 0
LiesBetween = LiesBetweenIn (10 ^ 6)

-- the greatest end that is printed, in units of 2^-64
abbrev pub most_end : ℕ
most_end = 2 ^ 123

-- no printed end is larger in size than this
pub record AreEndsUpTo (most : ℕ) (ends : Printed) : Type 0 where
  pub lo : unsigned_abs ends.lo ≤ most
  pub hi : unsigned_abs ends.hi ≤ most

-- ends in millionths are at most 2^79 in size
abbrev pub AreSmallEnds : Printed → Type 0
AreSmallEnds = AreEndsUpTo (2 ^ 79)

-- how far the printed ends of an interval may lie apart, by its width in units of 2^-64
abbrev pub printed_width : ℕ → ℕ
printed_width width = div_ceil (width * 10 ^ 6) (2 ^ 64) + 1

-- and of an interval at the scale 4^g that is printed whole
abbrev pub whole_width : ℕ → ℕ → ℕ
whole_width width g = div_ceil (width * 4 ^ g) (2 ^ 64) + 1
