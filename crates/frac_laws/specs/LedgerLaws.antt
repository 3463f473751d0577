-- What the roundings and the scale of the ledgers are.
use Rattle.std.specs.Prelude.{◌≡◌, ℕ, pos, ◌≤◌}
use Rattle.std.specs.Int.{div_ceil}
use Rattle.frac_laws.specs.Fraction.{over, whole, ◌+ℚ◌, ◌≤ℚ◌, ◌<ℚ◌}
use Rattle.frac_laws.specs.Ledger.{IsScale, scale_of_bound}

-- a quotient that is rounded up is at least the quotient
abbrev pub RoundedUpIsAtLeast : Type 0
RoundedUpIsAtLeast = (n d : ℕ) → 1 ≤ d → over (pos n) d ≤ℚ whole (pos (div_ceil n d))

-- and less than one above it
abbrev pub RoundedUpIsWithinOne : Type 0
RoundedUpIsWithinOne = (n d : ℕ) → 1 ≤ d → whole (pos (div_ceil n d)) <ℚ over (pos n) d +ℚ whole (pos 1)

-- the scale of a bound is its scale
abbrev pub BoundHasScale : Type 0
BoundHasScale = (bound1024 : ℕ) → IsScale bound1024 (scale_of_bound bound1024)

-- a bound has one scale
abbrev pub ScaleIsUnique : Type 0
ScaleIsUnique = (bound1024 g h : ℕ) → IsScale bound1024 g → IsScale bound1024 h → g ≡ h
