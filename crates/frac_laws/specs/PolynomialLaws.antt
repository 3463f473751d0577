-- What shifts, stretches and multiples of polynomials are, and how they follow on one another.
use Rattle.std.specs.Prelude.{◌≡◌, ℕ, ℤ, pos, List, length}
use Rattle.frac_laws.specs.Fraction.{Fraction, over, opposite, ◌+ℚ◌, ◌*ℚ◌}
use Rattle.frac_laws.specs.Lists.{add_lists, scale_list}
use Rattle.frac_laws.specs.Polynomials.{value_at, shifted, stretched, reflected, all_over}

-- the sum takes at x the sum of the values at x
abbrev pub SumsTakeValues : Type 0
SumsTakeValues = (p q : List Fraction) (x : Fraction)
    → value_at (add_lists p q) x ≡ value_at p x +ℚ value_at q x

-- c p takes at x c times the value at x
abbrev pub MultiplesTakeValues : Type 0
MultiplesTakeValues = (c : Fraction) (p : List Fraction) (x : Fraction)
    → value_at (scale_list c p) x ≡ c *ℚ value_at p x

-- the shift by b takes at x the value at b + x
abbrev pub ShiftsTakeValues : Type 0
ShiftsTakeValues = (b : Fraction) (p : List Fraction) (x : Fraction)
    → value_at (shifted b p) x ≡ value_at p (b +ℚ x)

-- the stretch by h takes at x the value at h x
abbrev pub StretchesTakeValues : Type 0
StretchesTakeValues = (h : Fraction) (p : List Fraction) (x : Fraction)
    → value_at (stretched h p) x ≡ value_at p (h *ℚ x)

-- the reflection takes at x the value at -x
abbrev pub ReflectionsTakeValues : Type 0
ReflectionsTakeValues = (p : List Fraction) (x : Fraction)
    → value_at (reflected p) x ≡ value_at p (opposite x)

-- a shift by b and then by a is the shift by b + a
abbrev pub ShiftsAdd : Type 0
ShiftsAdd = (a b : Fraction) (p : List Fraction) → shifted a (shifted b p) ≡ shifted (b +ℚ a) p

-- a stretch by h and then by g is the stretch by g h
abbrev pub StretchesMultiply : Type 0
StretchesMultiply = (g h : Fraction) (p : List Fraction)
    → stretched g (stretched h p) ≡ stretched (g *ℚ h) p

-- a stretch by h and then a shift by s is the shift by h s and then the stretch
abbrev pub ShiftsPassStretches : Type 0
ShiftsPassStretches = (s h : Fraction) (p : List Fraction)
    → shifted s (stretched h p) ≡ stretched h (shifted (h *ℚ s) p)

-- the shift of a multiple is the multiple of the shift
abbrev pub ShiftsPassMultiples : Type 0
ShiftsPassMultiples = (b c : Fraction) (p : List Fraction)
    → shifted b (scale_list c p) ≡ scale_list c (shifted b p)

-- the stretch of a multiple is the multiple of the stretch
abbrev pub StretchesPassMultiples : Type 0
StretchesPassMultiples = (h c : Fraction) (p : List Fraction)
    → stretched h (scale_list c p) ≡ scale_list c (stretched h p)

-- a shift has as many coefficients
abbrev pub ShiftsKeepLength : Type 0
ShiftsKeepLength = (b : Fraction) (p : List Fraction) → length (shifted b p) ≡ length p

-- a stretch has as many coefficients
abbrev pub StretchesKeepLength : Type 0
StretchesKeepLength = (h : Fraction) (p : List Fraction) → length (stretched h p) ≡ length p

-- whole numbers over d are 1/d times themselves
abbrev pub DenominatorIsFactor : Type 0
DenominatorIsFactor = (d : ℕ) (ns : List ℤ) → all_over d ns ≡ scale_list (over (pos 1) d) (all_over 1 ns)
