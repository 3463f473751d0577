-- The order of fractions is total and goes along with sums and products.
use Rattle.std.specs.Prelude.{◌≡◌, ◌↔◌, ◌⊎◌, pos}
use Rattle.frac_laws.specs.Fraction.{Fraction, whole, greater, lesser, ◌+ℚ◌, ◌*ℚ◌, ◌≤ℚ◌, ◌<ℚ◌}

-- x <= x
abbrev pub OrderIsReflexive : Type 0
OrderIsReflexive = (x : Fraction) → x ≤ℚ x

-- x <= y and y <= z give x <= z
abbrev pub OrderIsTransitive : Type 0
OrderIsTransitive = (x y z : Fraction) → x ≤ℚ y → y ≤ℚ z → x ≤ℚ z

-- x <= y and y <= x give x = y
abbrev pub OrderIsAntisymmetric : Type 0
OrderIsAntisymmetric = (x y : Fraction) → x ≤ℚ y → y ≤ℚ x → x ≡ y

-- x <= y or y <= x
abbrev pub OrderIsTotal : Type 0
OrderIsTotal = (x y : Fraction) → (x ≤ℚ y) ⊎ (y ≤ℚ x)

-- x < y exactly where y <= x does not hold
abbrev pub BelowIsNotAtLeast : Type 0
BelowIsNotAtLeast = (x y : Fraction) → (x <ℚ y) ↔ (¬ (y ≤ℚ x))

-- x <= y and z <= w give x + z <= y + w
abbrev pub SumsKeepOrder : Type 0
SumsKeepOrder = (x y z w : Fraction) → x ≤ℚ y → z ≤ℚ w → x +ℚ z ≤ℚ y +ℚ w

-- x < y and z <= w give x + z < y + w
abbrev pub SumsKeepStrictOrder : Type 0
SumsKeepStrictOrder = (x y z w : Fraction) → x <ℚ y → z ≤ℚ w → x +ℚ z <ℚ y +ℚ w

-- 0 <= c and x <= y give c x <= c y
abbrev pub ProductsKeepOrder : Type 0
ProductsKeepOrder = (c x y : Fraction) → whole (pos 0) ≤ℚ c → x ≤ℚ y → c *ℚ x ≤ℚ c *ℚ y

-- 0 < c and x < y give c x < c y
abbrev pub ProductsKeepStrictOrder : Type 0
ProductsKeepStrictOrder = (c x y : Fraction) → whole (pos 0) <ℚ c → x <ℚ y → c *ℚ x <ℚ c *ℚ y

-- 0 < c and c x <= c y give x <= y
abbrev pub PositiveFactorsCancel : Type 0
PositiveFactorsCancel = (c x y : Fraction) → whole (pos 0) <ℚ c → c *ℚ x ≤ℚ c *ℚ y → x ≤ℚ y

-- the greater of x and y is at most r exactly where both are
abbrev pub GreaterIsLeastUpperBound : Type 0
GreaterIsLeastUpperBound = (x y r : Fraction) → (greater x y ≤ℚ r) ↔ ((x ≤ℚ r) × (y ≤ℚ r))

-- the lesser of x and y is at least r exactly where both are
abbrev pub LesserIsGreatestLowerBound : Type 0
LesserIsGreatestLowerBound = (x y r : Fraction) → (r ≤ℚ lesser x y) ↔ ((r ≤ℚ x) × (r ≤ℚ y))
