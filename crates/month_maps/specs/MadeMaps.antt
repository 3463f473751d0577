-- Maps that are made of a cell that is constant in x.
use Rattle.std.specs.Prelude.{◌≡◌, ℕ, ◌+◌, ◌*◌, ◌^◌, ◌<◌, ◌≤◌, ℤ, pos, ◌+ℤ◌, ◌-ℤ◌, unsigned_abs, List, slice_index_or}
use Rattle.std.specs.Prelude.{cond, nat_eq, nat_lt}
use Rattle.frac_laws.specs.Fraction.{Fraction, size, ◌+ℚ◌, ◌-ℚ◌, ◌≤ℚ◌}
use Rattle.cell_laws.specs.Systems.{System}
use Rattle.fixed_interval.specs.declared.interval.Interval.{Interval}
use Rattle.fixed_interval.specs.Intervals.{LiesIn}
use Rattle.linear_system.specs.DegreeLimit.{IsConstant}
use Rattle.linear_system.specs.StandsFor.{units}
use Rattle.linear_system.specs.StoredSystem.{StoredSystem, IsSystem, dim_of}
use Rattle.taylor_step.specs.ConstantSteps.{constant_rounding}
use Rattle.map_laws.specs.CellMaps.{doubled}
use Rattle.map_laws.specs.CellOfSystem.{cell_map}
use Rattle.map_laws.specs.MapLaws.{IsNarrowAfter}
use Rattle.map_laws.specs.Maps.{AffineMap, HoldsMap}
use Rattle.map_laws.specs.MonthOfCells.{IsConstantCell}
use Rattle.map_laws.specs.Widths.{width}
use Rattle.month_maps.specs.StoredMap.{StoredMap, IsFull, HaveEndsUpTo, interval_at, map_of}

-- nothing is stored above power 0, and the stored system stands for a constant cell
pub data CanMake (s : StoredSystem) : Type 0 where
  can_make : (kappa40 : ℕ) (e : System) → IsConstant s → IsConstantCell s kappa40 e → CanMake s

-- the number of a start: 1, in units of 2^-64, at a place, and 0 elsewhere
abbrev pub unit_number : ℕ → ℕ → ℤ
unit_number place i = cond (nat_eq i place) (pos (2 ^ 64)) (pos 0)

-- the value of a map of d numbers at such a start; past the last place the start is 0
abbrev pub unit_value : ℕ → AffineMap → (place row : ℕ) → Fraction
unit_value d a place row = cond (nat_lt place d) (a.free row +ℚ a.at row place) (a.free row)

-- what a step from there gives: numbers of at most 2^65, each within 16 units of that value of the cell's map
pub record IsStepFrom (s : StoredSystem) (place : ℕ) (mid : List ℤ) : Type 0 where
  pub small : (row : ℕ) → row < dim_of s → unsigned_abs (slice_index_or mid row (pos 0)) ≤ 2 ^ 65
  pub near : (kappa40 n : ℕ) (e : System) (row : ℕ) → IsConstantCell s kappa40 e → 8 ≤ n → row < dim_of s
      → size (unit_value (dim_of s) (cell_map e n) place row -ℚ units (slice_index_or mid row (pos 0)))
      ≤ℚ units (pos constant_rounding)

-- an interval that reaches some units to both sides of a number
pub record IsAround (spare : ℕ) (mid : ℤ) (i : Interval) : Type 0 where
  pub lo : i.lo ≡ mid -ℤ pos spare
  pub hi : i.hi ≡ mid +ℤ pos spare

-- an interval of at most so many units that holds a number of the map of each constant cell
pub record HoldsNumber (s : StoredSystem) (most : ℕ) (number : AffineMap → Fraction) (i : Interval) : Type 0 where
  pub narrow : width i ≤ℚ units (pos most)
  pub holds : (kappa40 n : ℕ) (e : System) → IsConstantCell s kappa40 e → 8 ≤ n
      → LiesIn (number (cell_map e n)) i

-- the matrix's numbers of some columns
abbrev pub HoldsColumns : StoredSystem → ℕ → List Interval → Type 0
HoldsColumns s columns numbers = (row col : ℕ) → row < dim_of s → col < columns
    → HoldsNumber s 64 (λ a. a.at row col) (interval_at numbers (row * dim_of s + col))

-- all free numbers
abbrev pub HoldsFree : StoredSystem → List Interval → Type 0
HoldsFree s free = (row : ℕ) → row < dim_of s → HoldsNumber s 32 (λ a. a.free row) (interval_at free row)

-- after some doublings: the map holds the exact map of so many cells, for each constant cell that the stored system
-- stands for and each degree from its own on, and its intervals are narrow
pub record IsMadeAfter (doublings : ℕ) (s : StoredSystem) (m : StoredMap) : Type 0 where
  pub system : IsSystem s
  pub dim : m.dim ≡ dim_of s
  pub degree : m.degree ≡ 8
  pub full : IsFull m
  pub narrow : IsNarrowAfter doublings m.dim (map_of m)
  pub holds : (kappa40 n : ℕ) (e : System) → IsConstantCell s kappa40 e → 8 ≤ n
      → HoldsMap m.dim (map_of m) (doubled m.dim doublings (cell_map e n))

-- the map of a month, of 32 cells
pub record IsMadeFor (s : StoredSystem) (m : StoredMap) : Type 0 where
  pub made : IsMadeAfter 5 s m
  pub small : HaveEndsUpTo (2 ^ 65) m.numbers
  pub free_small : HaveEndsUpTo (2 ^ 65) m.free
