-- The laws of doublings.
use Rattle.std.specs.Prelude.{ℕ, zero, suc, pos, ◌^◌, ◌<◌, ◌≤◌}
use Rattle.frac_laws.specs.Fraction.{Fraction, over, whole, ◌+ℚ◌, ◌*ℚ◌, ◌≤ℚ◌}
use Rattle.fixed_interval.specs.Intervals.{HasEndsUpTo}
use Rattle.linear_system.specs.StandsFor.{units}
use Rattle.map_laws.specs.Maps.{AffineMap, IntervalMap, HoldsMap, IsSquareOf, twice}
use Rattle.map_laws.specs.Widths.{IsNarrow}

-- a doubled map holds the exact map applied twice
abbrev pub DoublingsEnclose : Type 0
DoublingsEnclose = (d : ℕ) (m square : IntervalMap) (a : AffineMap) → IsSquareOf d m square → HoldsMap d m a
    → HoldsMap d square (twice d a)

-- the bounds after a doubling, with at most 12 products a number, each rounded by a unit at both ends
abbrev pub DoublingsStayNarrow : Type 0
DoublingsStayNarrow =
    (d : ℕ) (sizes widths free_size free_width : Fraction) (m square : IntervalMap) → d ≤ 12
    → IsSquareOf d m square → IsNarrow d sizes widths free_size free_width m → whole (pos 0) ≤ℚ sizes
    → whole (pos 0) ≤ℚ widths → whole (pos 0) ≤ℚ free_size → whole (pos 0) ≤ℚ free_width
    → IsNarrow d (sizes *ℚ sizes +ℚ units (pos 144))
    (whole (pos 2) *ℚ sizes *ℚ widths +ℚ units (pos 288))
    (free_size +ℚ sizes *ℚ free_size +ℚ units (pos 12))
    (free_width +ℚ sizes *ℚ free_width +ℚ free_size *ℚ widths +ℚ units (pos 24)) square

-- bounds after some doublings, from those of the map of a cell on, whose numbers come from steps that are within 16
-- units. Rows of sizes, in units of 2^-40: at first 1 + 2^-10 and 768 units of 2^-64
abbrev pub row_sizes : ℕ → ℕ
row_sizes zero = 1100585369601
row_sizes (suc zero) = 1101660160003
row_sizes (suc (suc zero)) = 1103812890632
row_sizes (suc (suc (suc zero))) = 1108130979925
row_sizes (suc (suc (suc (suc zero)))) = 1116817901375
row_sizes (suc (suc (suc (suc (suc doublings))))) = 1134396575100

-- rows of widths, in units of 2^-64
abbrev pub row_widths : ℕ → ℕ
row_widths zero = 768
row_widths (suc zero) = 1826
row_widths (suc (suc zero)) = 3948
row_widths (suc (suc (suc zero))) = 8215
row_widths (suc (suc (suc (suc zero)))) = 16847
row_widths (suc (suc (suc (suc (suc doublings))))) = 34513

-- free sizes, in units of 2^-20
abbrev pub free_sizes : ℕ → ℕ
free_sizes zero = 33027
free_sizes (suc zero) = 66087
free_sizes (suc (suc zero)) = 132304
free_sizes (suc (suc (suc zero))) = 265126
free_sizes (suc (suc (suc (suc zero)))) = 532331
free_sizes (suc (suc (suc (suc (suc doublings))))) = 1073041

-- free widths, in units of 2^-64
abbrev pub free_widths : ℕ → ℕ
free_widths zero = 32
free_widths (suc zero) = 113
free_widths (suc (suc zero)) = 366
free_widths (suc (suc (suc zero))) = 1256
free_widths (suc (suc (suc (suc zero)))) = 4623
free_widths (suc (suc (suc (suc (suc doublings))))) = 17896

-- a map of 2^doublings cells: a row of a month's map, after five doublings, is at most 34513 units wide, and a free
-- number 17896
abbrev pub IsNarrowAfter : (doublings d : ℕ) → IntervalMap → Type 0
IsNarrowAfter doublings d m = IsNarrow d (over (pos (row_sizes doublings)) (2 ^ 40))
    (units (pos (row_widths doublings))) (over (pos (free_sizes doublings)) (2 ^ 20))
    (units (pos (free_widths doublings))) m

-- each of the five doublings keeps its bounds, with at most 12 numbers a row
abbrev pub DoublingsKeepTheirBounds : Type 0
DoublingsKeepTheirBounds = (doublings d : ℕ) (m square : IntervalMap) → d ≤ 12 → doublings < 5 → IsSquareOf d m square
    → IsNarrowAfter doublings d m → IsNarrowAfter (suc doublings) d square

-- and no end of these maps is more than 2 in size
abbrev pub EndsStaySmall : Type 0
EndsStaySmall = (doublings d : ℕ) (m : IntervalMap) → IsNarrowAfter doublings d m
    → ((row col : ℕ) → row < d → col < d → HasEndsUpTo (2 ^ 65) (m.at row col))
    × ((row : ℕ) → row < d → HasEndsUpTo (2 ^ 65) (m.free row))
