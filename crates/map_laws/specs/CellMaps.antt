-- From the map of a cell to the map of a month.
use Rattle.std.specs.Prelude.{◌≡◌, ℕ, zero, suc, pos, ◌^◌, ◌<◌, ◌≤◌}
use Rattle.frac_laws.specs.Fraction.{Fraction, over, whole, size, ◌+ℚ◌, ◌*ℚ◌, ◌≤ℚ◌}
use Rattle.frac_laws.specs.Sums.{sum_to, power}
use Rattle.linear_system.specs.StandsFor.{units}
use Rattle.map_laws.specs.Maps.{AffineMap, IntervalMap, HoldsMap, twice}
use Rattle.map_laws.specs.Widths.{width}
use Rattle.map_laws.specs.MapLaws.{IsNarrowAfter}
use Rattle.map_laws.specs.Applied.{value_at}

-- in each row the sizes of the matrix add up to at most `most`
abbrev pub RowsWithin : ℕ → Fraction → AffineMap → Type 0
RowsWithin d most a = (row : ℕ) → row < d → sum_to d (λ col. size (a.at row col)) ≤ℚ most

-- a map doubled some times
abbrev pub doubled : ℕ → ℕ → AffineMap → AffineMap
doubled d zero a = a
doubled d (suc n) a = twice d (doubled d n a)

-- `twice` is the map applied to what the map gives
abbrev pub TwiceIsAppliedTwice : Type 0
TwiceIsAppliedTwice = (d : ℕ) (a : AffineMap) (y : ℕ → Fraction) (row : ℕ)
    → value_at d (twice d a) y row ≡ value_at d a (value_at d a y) row

-- five doublings of a map whose rows add up to at most p have rows of at most p^32
abbrev pub DoubledMapsGrow : Type 0
DoubledMapsGrow = (d : ℕ) (p : Fraction) (a : AffineMap) → whole (pos 0) ≤ℚ p → RowsWithin d p a
    → RowsWithin d (power p 32) (doubled d 5 a)

-- intervals of at most 64 units for the matrix and 32 for the free numbers, which hold an exact map of a cell:
-- rows of at most 1 + 2^-10, free numbers of at most (1/32 + 3 units) 128/127
pub record HoldsCellMap (d : ℕ) (m : IntervalMap) (a : AffineMap) : Type 0 where
  pub holds : HoldsMap d m a
  pub narrow : (row col : ℕ) → row < d → col < d → width (m.at row col) ≤ℚ units (pos 64)
  pub free_narrow : (row : ℕ) → row < d → width (m.free row) ≤ℚ units (pos 32)
  pub rows : RowsWithin d (over (pos 1025) (2 ^ 10)) a
  pub free_small : (row : ℕ) → row < d → size (a.free row) ≤ℚ (over (pos 1) 32 +ℚ units (pos 3)) *ℚ over (pos 128) 127

-- such a map is narrow enough for five doublings
abbrev pub CellMapsAreNarrow : Type 0
CellMapsAreNarrow = (d : ℕ) (m : IntervalMap) (a : AffineMap) → d ≤ 12 → HoldsCellMap d m a → IsNarrowAfter 0 d m
