-- Cells that are constant in x, and a month of 32 of them.
use Rattle.std.specs.Prelude.{◌≡◌, ℕ, zero, suc, pos, ℤ, length, ◌^◌, ◌<◌, ◌≤◌}
use Rattle.frac_laws.specs.Fraction.{over, whole, size, ◌+ℚ◌, ◌-ℚ◌, ◌≤ℚ◌}
use Rattle.frac_laws.specs.Lists.{Vector, number_at}
use Rattle.frac_laws.specs.Norms.{Sup, norm_of_vector}
use Rattle.cell_laws.specs.GrowthLaws.{later_powers}
use Rattle.cell_laws.specs.Systems.{System, taylor_value, KeepsDimension}
use Rattle.cell_laws.specs.Tame.{IsTame, vector_norm_at}
use Rattle.linear_system.specs.StandsFor.{units, StandsFor}
use Rattle.linear_system.specs.StoredSystem.{StoredSystem, IsSystem}
use Rattle.taylor_step.specs.ConstantSteps.{IsConstantInX}
use Rattle.map_laws.specs.Applied.{GrowsAs32Cells, IsApplied, grow_turns}
use Rattle.map_laws.specs.CellMaps.{doubled}
use Rattle.map_laws.specs.CellOfSystem.{cell_map}
use Rattle.map_laws.specs.MapLaws.{IsNarrowAfter}
use Rattle.map_laws.specs.Maps.{IntervalMap, HoldsMap}
use Rattle.map_laws.specs.Widths.{width}

-- an exact system of at most 12 numbers that a stored one stands for: tame, constant in x and with a growth of at most
-- 2^-10
pub record IsConstantCell (s : StoredSystem) (kappa40 : ℕ) (e : System) : Type 0 where
  pub few : e.dimension ≤ 12
  pub stands : StandsFor s e
  pub tame : IsTame Sup kappa40 e
  pub constant : IsConstantInX e
  pub growth : kappa40 ≤ 2 ^ 30

-- what the laws on maps need of it: it keeps its dimension, above power 0 its norms are 0, and its free numbers are
-- small
pub record HasSmallNumbers (e : System) : Type 0 where
  pub keeps : KeepsDimension e
  pub no_later : (n : ℕ) → 1 ≤ n → later_powers Sup e.matrices n ≤ℚ whole (pos 0)
  pub free_alone : (k : ℕ) → vector_norm_at Sup e.free (suc k) ≡ whole (pos 0)
  pub free_small : vector_norm_at Sup e.free 0 ≤ℚ over (pos 1) 32 +ℚ units (pos 3)

-- a constant cell has all that
abbrev pub ConstantCellsHaveSmallNumbers : Type 0
ConstantCellsHaveSmallNumbers = (s : StoredSystem) (kappa40 : ℕ) (e : System) → IsSystem s → IsConstantCell s kappa40 e
    → HasSmallNumbers e

-- intervals of at most 64 units, and 32 for the free numbers, that hold the map of a constant cell
pub record HoldsConstantCell (s : StoredSystem) (kappa40 n : ℕ) (e : System) (m : IntervalMap) : Type 0 where
  pub cell : IsConstantCell s kappa40 e
  pub holds : HoldsMap e.dimension m (cell_map e n)
  pub narrow : (row col : ℕ) → row < e.dimension → col < e.dimension → width (m.at row col) ≤ℚ units (pos 64)
  pub free_narrow : (row : ℕ) → row < e.dimension → width (m.free row) ≤ℚ units (pos 32)

-- and these intervals are narrow enough for five doublings
abbrev pub ConstantCellsAreNarrow : Type 0
ConstantCellsAreNarrow = (s : StoredSystem) (kappa40 n : ℕ) (e : System) (m : IntervalMap) → IsSystem s → 1 ≤ n
    → HoldsConstantCell s kappa40 n e m → IsNarrowAfter 0 e.dimension m

-- five doublings of its map grow as 32 cells
abbrev pub ConstantCellsGrow : Type 0
ConstantCellsGrow = (s : StoredSystem) (kappa40 n : ℕ) (e : System) → IsSystem s → IsConstantCell s kappa40 e → 1 ≤ n
    → GrowsAs32Cells e.dimension kappa40 (doubled e.dimension 5 (cell_map e n))

-- the Taylor value of a degree, of what that gives, and so on
abbrev pub taylor_turns : ℕ → System → Vector → ℕ → Vector
taylor_turns zero e y n = y
taylor_turns (suc turns) e y n = taylor_value e (taylor_turns turns e y n) n

-- a start of norm at most 1, within a radius of whole numbers
pub record IsStartOf (d radius : ℕ) (y : Vector) (mid : ℕ → ℤ) : Type 0 where
  pub fits : length y ≤ d
  pub small : norm_of_vector Sup y ≤ℚ whole (pos 1)
  pub near : (col : ℕ) → col < d → size (number_at y col -ℚ units (mid col)) ≤ℚ units (pos radius)
  pub at_most : radius ≤ 2 ^ 45

-- the 32-fold Taylor value of a start is within 32 turns of the ledger of the new numbers
abbrev pub StaysNearFor32Cells : System → (kappa40 radius n : ℕ) → Vector → (ℕ → ℤ) → Type 0
StaysNearFor32Cells e kappa40 radius n y new = (row : ℕ) → row < e.dimension
    → size (number_at (taylor_turns 32 e y n) row -ℚ units (new row)) ≤ℚ units (pos (grow_turns 32 radius kappa40))

-- so the map of a month, applied once, is as 32 steps
abbrev pub MonthsStayWithinTheirRadius : Type 0
MonthsStayWithinTheirRadius = (s : StoredSystem) (kappa40 radius n : ℕ) (e : System) (m : IntervalMap) (y : Vector)
    (mid new : ℕ → ℤ) → IsSystem s → IsConstantCell s kappa40 e → 1 ≤ n → IsNarrowAfter 5 e.dimension m
    → HoldsMap e.dimension m (doubled e.dimension 5 (cell_map e n)) → IsApplied e.dimension m mid new
    → IsStartOf e.dimension radius y mid → StaysNearFor32Cells e kappa40 radius n y new
