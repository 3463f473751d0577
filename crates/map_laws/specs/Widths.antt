-- How wide and how large the intervals of a map are.
use Rattle.std.specs.Prelude.{ℕ, ◌<◌}
use Rattle.frac_laws.specs.Fraction.{Fraction, ◌-ℚ◌, ◌≤ℚ◌, size, greater}
use Rattle.frac_laws.specs.Sums.{sum_to}
use Rattle.fixed_interval.specs.declared.interval.Interval.{Interval}
use Rattle.linear_system.specs.StandsFor.{units}
use Rattle.map_laws.specs.Maps.{IntervalMap}

-- from end to end
abbrev pub width : Interval → Fraction
width a = units a.hi -ℚ units a.lo

-- the greatest size of a number in it
abbrev pub extent : Interval → Fraction
extent a = greater (size (units a.lo)) (size (units a.hi))

-- in each row the extents of the matrix add up to at most `sizes` and the widths to at most `widths`, and the
-- free number has at most an extent and a width of its own
pub record IsNarrow (d : ℕ) (sizes widths free_size free_width : Fraction) (m : IntervalMap) : Type 0 where
  pub rows_fit : (row : ℕ) → row < d → sum_to d (λ col. extent (m.at row col)) ≤ℚ sizes
  pub rows_narrow : (row : ℕ) → row < d → sum_to d (λ col. width (m.at row col)) ≤ℚ widths
  pub free_fits : (row : ℕ) → row < d → extent (m.free row) ≤ℚ free_size
  pub free_narrow : (row : ℕ) → row < d → width (m.free row) ≤ℚ free_width
