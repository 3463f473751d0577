-- Affine maps, exact and with intervals for their numbers, and what a doubling makes of them.
use Rattle.std.specs.Prelude.{◌≡◌, ℕ, zero, suc, ◌^◌, ◌<◌, ℤ, pos, ◌+ℤ◌}
use Rattle.frac_laws.specs.Fraction.{Fraction, ◌+ℚ◌, ◌*ℚ◌}
use Rattle.frac_laws.specs.Rounding.{floor_of, ceiling_of}
use Rattle.frac_laws.specs.Sums.{sum_to}
use Rattle.fixed_interval.specs.declared.interval.Interval.{Interval}
use Rattle.fixed_interval.specs.Intervals.{LiesIn}
use Rattle.fixed_interval.specs.Products.{least_product, greatest_product}

-- an affine map: its matrix by row and column, and its free numbers by row
pub record AffineMap : Type 0 where
  pub at : ℕ → ℕ → Fraction
  pub free : ℕ → Fraction

-- the same with an interval for each number
pub record IntervalMap : Type 0 where
  pub at : ℕ → ℕ → Interval
  pub free : ℕ → Interval

-- each interval holds the number at its place
pub record HoldsMap (d : ℕ) (m : IntervalMap) (a : AffineMap) : Type 0 where
  pub at : (row col : ℕ) → row < d → col < d → LiesIn (a.at row col) (m.at row col)
  pub free : (row : ℕ) → row < d → LiesIn (a.free row) (m.free row)

-- A (A y + b) + b
abbrev pub twice : ℕ → AffineMap → AffineMap
twice d a = record {
  at = λ row col. sum_to d (λ l. a.at row l *ℚ a.at l col);
  free = λ row. a.free row +ℚ sum_to d (λ l. a.at row l *ℚ a.free l);
}

-- f 0 + .. + f (n - 1)
abbrev pub total : ℕ → (ℕ → ℤ) → ℤ
total zero f = pos 0
total (suc n) f = total n f +ℤ f n

-- the ends of a product of intervals, rounded outward once
abbrev pub product_lo : Interval → Interval → ℤ
product_lo a b = floor_of (least_product a b) (pos (2 ^ 64))

-- and the upper end
abbrev pub product_hi : Interval → Interval → ℤ
product_hi a b = ceiling_of (greatest_product a b) (pos (2 ^ 64))

-- a map with the numbers of `twice`, formed by interval products and exact sums
pub record IsSquareOf (d : ℕ) (m square : IntervalMap) : Type 0 where
  pub at_lo : (row col : ℕ) → row < d → col < d
      → (square.at row col).lo ≡ total d (λ l. product_lo (m.at row l) (m.at l col))
  pub at_hi : (row col : ℕ) → row < d → col < d
      → (square.at row col).hi ≡ total d (λ l. product_hi (m.at row l) (m.at l col))
  pub free_lo : (row : ℕ) → row < d
      → (square.free row).lo ≡ (m.free row).lo +ℤ total d (λ l. product_lo (m.at row l) (m.free l))
  pub free_hi : (row : ℕ) → row < d
      → (square.free row).hi ≡ (m.free row).hi +ℤ total d (λ l. product_hi (m.at row l) (m.free l))
