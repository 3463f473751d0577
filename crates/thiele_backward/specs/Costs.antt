-- The steps that a sweep takes before its first month, and over its months.
use Rattle.std.specs.Prelude.{ℕ}
use Rattle.model_specs.specs.Product.{Product}
use Rattle.model_specs.specs.Payments.{Plan}
use Rattle.constant_months.specs.Costs.{map_steps, cell_steps, steps_to}

-- those that make the maps of all stretches
abbrev pub maps_cost : Product → Plan → ℕ
maps_cost product plan = steps_to (map_steps product plan) product.months

-- those over the first months
abbrev pub cells_cost : Product → Plan → (months : ℕ) → ℕ
cells_cost product plan months = steps_to (cell_steps product plan) months
