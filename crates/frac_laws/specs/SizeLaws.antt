-- The size of a fraction.
use Rattle.std.specs.Prelude.{◌≡◌, ◌↔◌, pos}
use Rattle.frac_laws.specs.Fraction.{Fraction, whole, opposite, size, ◌+ℚ◌, ◌*ℚ◌, ◌≤ℚ◌}

-- 0 <= |x|
abbrev pub SizeIsNotNegative : Type 0
SizeIsNotNegative = (x : Fraction) → whole (pos 0) ≤ℚ size x

-- |x| <= r exactly where -r <= x <= r
abbrev pub SizeIsWithin : Type 0
SizeIsWithin = (x r : Fraction) → (size x ≤ℚ r) ↔ ((opposite r ≤ℚ x) × (x ≤ℚ r))

-- |x + y| <= |x| + |y|
abbrev pub SizeOfSum : Type 0
SizeOfSum = (x y : Fraction) → size (x +ℚ y) ≤ℚ size x +ℚ size y

-- |x y| = |x| |y|
abbrev pub SizeOfProduct : Type 0
SizeOfProduct = (x y : Fraction) → size (x *ℚ y) ≡ size x *ℚ size y

-- |-x| = |x|
abbrev pub SizeOfOpposite : Type 0
SizeOfOpposite = (x : Fraction) → size (opposite x) ≡ size x
