-- The statements that CALLING.md proves, one for each form of call.
use Rattle.std.specs.Prelude.{◌≡◌, ℕ, suc, pos, ℤ, ◌≤◌}
use Rattle.frac_laws.specs.Fraction.{Fraction, over, whole, size, ◌+ℚ◌, ◌-ℚ◌, ◌*ℚ◌, ◌≤ℚ◌, ◌<ℚ◌}
use Rattle.frac_laws.specs.Sums.{sum_to, power}
use Rattle.frac_laws.specs.Rounding.{floor_of}

-- (a + b)(a - b) = a a - b b
abbrev pub DifferenceOfSquares : Type 0
DifferenceOfSquares = (a b : Fraction) → (a +ℚ b) *ℚ (a -ℚ b) ≡ a *ℚ a -ℚ b *ℚ b

-- (a + b)/2 - a = (b - a)/2
abbrev pub MiddleIsHalfWay : Type 0
MiddleIsHalfWay = (a b : Fraction) → (a +ℚ b) *ℚ over (pos 1) 2 -ℚ a ≡ (b -ℚ a) *ℚ over (pos 1) 2

-- the sum of a (b + c) is the sum of a b plus the sum of a c
abbrev pub ProductsDistributeOverSum : Type 0
ProductsDistributeOverSum = (n : ℕ) (a b c : ℕ → Fraction)
    → sum_to n (λ k. a k *ℚ (b k +ℚ c k)) ≡ sum_to n (λ k. a k *ℚ b k) +ℚ sum_to n (λ k. a k *ℚ c k)

-- x <= 2/16 and y <= 1/8 give x + y <= 1/4
abbrev pub EighthsMakeAQuarter : Type 0
EighthsMakeAQuarter = (x y : Fraction) → x ≤ℚ over (pos 2) 16 → y ≤ℚ over (pos 1) 8 → x +ℚ y ≤ℚ over (pos 1) 4

-- a <= b and 0 <= c give a c + d <= b c + d
abbrev pub GrowthKeepsOrder : Type 0
GrowthKeepsOrder = (a b c d : Fraction) → a ≤ℚ b → whole (pos 0) ≤ℚ c → a *ℚ c +ℚ d ≤ℚ b *ℚ c +ℚ d

-- w v = 1, 0 <= v and w x <= r give x <= v r
abbrev pub BoundIsDivided : Type 0
BoundIsDivided = (w v x r : Fraction) → w *ℚ v ≡ whole (pos 1) → whole (pos 0) ≤ℚ v → w *ℚ x ≤ℚ r
    → x ≤ℚ v *ℚ r

-- a < b and c <= d give a + c < b + d + 1/3
abbrev pub ThirdsMakeItStrict : Type 0
ThirdsMakeItStrict = (a b c d : Fraction) → a <ℚ b → c ≤ℚ d → a +ℚ c <ℚ b +ℚ d +ℚ over (pos 1) 3

-- a b = c and c + d = e give a b e = e e - d e
abbrev pub EquationsAreUsed : Type 0
EquationsAreUsed = (a b c d e : Fraction) → a *ℚ b ≡ c → c +ℚ d ≡ e → a *ℚ b *ℚ e ≡ e *ℚ e -ℚ d *ℚ e

-- 0 <= a gives 0 <= |x| + 3/2 a^n (|v0| |v1| + |v1| |v2| + ..)
abbrev pub SumOfSizesIsNotNegative : Type 0
SumOfSizesIsNotNegative = (n : ℕ) (a x : Fraction) (v : ℕ → Fraction) → whole (pos 0) ≤ℚ a
    → whole (pos 0) ≤ℚ size x +ℚ over (pos 3) 2 *ℚ power a n *ℚ sum_to n (λ k. size (v k) *ℚ size (v (suc k)))

-- n/d and floor(n/d), in any unit, are less than one unit apart
abbrev pub FloorInUnitsIsWithinOne : Type 0
FloorInUnitsIsWithinOne = (n : ℤ) (d : ℕ) (unit : Fraction) → 1 ≤ d → whole (pos 0) <ℚ unit
    → over n d *ℚ unit -ℚ whole (floor_of n (pos d)) *ℚ unit <ℚ unit
