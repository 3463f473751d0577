-- Each number of the scaled systems is at most 1/32 in size, so that it can be stored as a whole number of units of
-- 2^-64 that is at most 2^59.
use Rattle.std.specs.Prelude.{◌≢◌, ℕ, pos, ◌<◌, length}
use Rattle.frac_laws.specs.Fraction.{over, size, ◌*ℚ◌, ◌≤ℚ◌}
use Rattle.frac_laws.specs.Norms.{Sup}
use Rattle.cell_laws.specs.Tame.{vector_norm_at}
use Rattle.model_specs.specs.Product.{Product}
use Rattle.model_specs.specs.Payments.{Plan}
use Rattle.model_specs.specs.Systems.{thiele_system, second_moment_system, coupling_entry}
use Rattle.cell_bounds.specs.ScaledSystems.{scaled_system}
use Rattle.product_cells.specs.EachCell.{InEachCell, backward_cell, plan_scaling}

-- (the numbers of the matrices are at most 1/64 since the sum of the norms is) free numbers have room for three units,
-- and numbers of the coupling off the diagonal too; those on it may be 1/32
pub record HasFittingNumbers (product : Product) (plan : Plan) (month cell : ℕ) : Type 0 where
  pub first : (m : ℕ) → m < 9
      → vector_norm_at Sup (scaled_system (plan_scaling product plan)
      (thiele_system (backward_cell product plan month cell))).free m ≤ℚ over (pos 5) 256
  pub second : (m : ℕ) → m < 12
      → vector_norm_at Sup (scaled_system (plan_scaling product plan *ℚ plan_scaling product plan)
      (second_moment_system (backward_cell product plan month cell))).free m ≤ℚ over (pos 1) 256
  pub links : (m i j : ℕ) → m < 9 → i < length product.states → j < length product.states → i ≢ j
      → size (plan_scaling product plan *ℚ coupling_entry (backward_cell product plan month cell) m i j)
      ≤ℚ over (pos 5) 512
  pub diagonal : (m i : ℕ) → m < 9 → i < length product.states
      → size (plan_scaling product plan *ℚ coupling_entry (backward_cell product plan month cell) m i i)
      ≤ℚ over (pos 1) 32

-- so it is in each cell of an admissible product
abbrev pub NumbersFit : Type 0
NumbersFit = InEachCell HasFittingNumbers
