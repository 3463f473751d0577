-- The radii in the cells of a month.
use Rattle.std.specs.Prelude.{ℕ, ◌^◌, ◌≤◌}
use Rattle.model_specs.specs.Ledgers.{grow_cells, second_grow_cells}

-- the first radius, from w, and the second one, from start, stay small over some cells
pub record SecondFits (kappa pay1024 G w start cells : ℕ) : Type 0 where
  pub first : (k : ℕ) → k ≤ cells → grow_cells kappa 1024 w k ≤ 2 ^ 40
  pub second : (k : ℕ) → k ≤ cells → second_grow_cells kappa pay1024 G w start k ≤ 2 ^ 80
