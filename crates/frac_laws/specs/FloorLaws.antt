-- What the floor and the ceiling of a quotient of whole numbers are, for a positive divisor.
use Rattle.std.specs.Prelude.{ℕ, pos, ℤ, ◌≤ℤ◌, ◌≤◌}
use Rattle.frac_laws.specs.Fraction.{over, whole, ◌+ℚ◌, ◌-ℚ◌, ◌≤ℚ◌, ◌<ℚ◌}
use Rattle.frac_laws.specs.Rounding.{floor_of, ceiling_of}

-- the floor is at most the quotient
abbrev pub FloorIsAtMost : Type 0
FloorIsAtMost = (n : ℤ) (d : ℕ) → 1 ≤ d → whole (floor_of n (pos d)) ≤ℚ over n d

-- the quotient is below the floor plus one
abbrev pub FloorPlusOneIsAbove : Type 0
FloorPlusOneIsAbove = (n : ℤ) (d : ℕ) → 1 ≤ d → over n d <ℚ whole (floor_of n (pos d)) +ℚ whole (pos 1)

-- a whole number that is at most the quotient is at most the floor
abbrev pub FloorIsGreatest : Type 0
FloorIsGreatest = (n m : ℤ) (d : ℕ) → 1 ≤ d → whole m ≤ℚ over n d → m ≤ℤ floor_of n (pos d)

-- the ceiling is at least the quotient
abbrev pub CeilingIsAtLeast : Type 0
CeilingIsAtLeast = (n : ℤ) (d : ℕ) → 1 ≤ d → over n d ≤ℚ whole (ceiling_of n (pos d))

-- the ceiling minus one is below the quotient
abbrev pub CeilingMinusOneIsBelow : Type 0
CeilingMinusOneIsBelow = (n : ℤ) (d : ℕ) → 1 ≤ d → whole (ceiling_of n (pos d)) -ℚ whole (pos 1) <ℚ over n d

-- a whole number that is at least the quotient is at least the ceiling
abbrev pub CeilingIsLeast : Type 0
CeilingIsLeast = (n m : ℤ) (d : ℕ) → 1 ≤ d → over n d ≤ℚ whole m → ceiling_of n (pos d) ≤ℤ m
