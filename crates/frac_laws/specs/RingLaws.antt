-- Fractions are a commutative ring, in which one divides by positive whole numbers.
use Rattle.std.specs.Prelude.{◌≡◌, ℕ, pos, ◌≤◌}
use Rattle.frac_laws.specs.Fraction.{Fraction, whole, opposite, divided_by, ◌+ℚ◌, ◌-ℚ◌, ◌*ℚ◌}

-- x + y = y + x
abbrev pub SumsCommute : Type 0
SumsCommute = (x y : Fraction) → x +ℚ y ≡ y +ℚ x

-- (x + y) + z = x + (y + z)
abbrev pub SumsAssociate : Type 0
SumsAssociate = (x y z : Fraction) → (x +ℚ y) +ℚ z ≡ x +ℚ (y +ℚ z)

-- x + 0 = x
abbrev pub ZeroAddsNothing : Type 0
ZeroAddsNothing = (x : Fraction) → x +ℚ whole (pos 0) ≡ x

-- x + (-x) = 0
abbrev pub OppositesCancel : Type 0
OppositesCancel = (x : Fraction) → x +ℚ opposite x ≡ whole (pos 0)

-- x y = y x
abbrev pub ProductsCommute : Type 0
ProductsCommute = (x y : Fraction) → x *ℚ y ≡ y *ℚ x

-- (x y) z = x (y z)
abbrev pub ProductsAssociate : Type 0
ProductsAssociate = (x y z : Fraction) → (x *ℚ y) *ℚ z ≡ x *ℚ (y *ℚ z)

-- x * 1 = x
abbrev pub OneTimesIsSame : Type 0
OneTimesIsSame = (x : Fraction) → x *ℚ whole (pos 1) ≡ x

-- x (y + z) = x y + x z
abbrev pub ProductsDistribute : Type 0
ProductsDistribute = (x y z : Fraction) → x *ℚ (y +ℚ z) ≡ x *ℚ y +ℚ x *ℚ z

-- x - y = x + (-y)
abbrev pub DifferenceIsSum : Type 0
DifferenceIsSum = (x y : Fraction) → x -ℚ y ≡ x +ℚ opposite y

-- d (x / d) = x
abbrev pub DivisionUndoesProduct : Type 0
DivisionUndoesProduct = (x : Fraction) (d : ℕ) → 1 ≤ d → whole (pos d) *ℚ divided_by x d ≡ x
