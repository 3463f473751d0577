-- The steps of a backward valuation: those that make the maps of its stretches, and those of the months that vary.
use Rattle.std.specs.Prelude.{◌≡◌, ℕ, zero, suc, ◌+◌, ◌*◌, ◌≤◌, if◌then◌else◌, length}
use Rattle.named_numbers.specs.Numbers.{cells_of_month, most_states}
use Rattle.model_specs.specs.Product.{Product}
use Rattle.model_specs.specs.Payments.{Plan}
use Rattle.model_specs.specs.Stretches.{is_constant_month, continues_stretch, month_cost, cost}

-- the steps that make the map of a month: as many as there are states and one for the first month of a constant
-- stretch, and none for its others and where something varies
abbrev pub map_steps : Product → Plan → ℕ → ℕ
map_steps product plan month =
    if is_constant_month product plan month
    then (if continues_stretch product plan month then 0 else length product.states + 1)
    else 0

-- the steps over the cells of a month: 32 where something varies
abbrev pub cell_steps : Product → Plan → ℕ → ℕ
cell_steps product plan month = if is_constant_month product plan month then 0 else cells_of_month

-- the steps of the first months together
abbrev pub steps_to : (ℕ → ℕ) → ℕ → ℕ
steps_to steps zero = 0
steps_to steps (suc month) = steps_to steps month + steps month

-- the cost is what the maps and what the cells take
abbrev pub CostsSplit : Type 0
CostsSplit = (product : Product) (plan : Plan)
    → cost product plan ≡ steps_to (map_steps product plan) product.months
    + steps_to (cell_steps product plan) product.months

-- both are at most 32 a month, over the first months
abbrev pub StepsAreFew : Type 0
StepsAreFew = (product : Product) (plan : Plan) (months : ℕ) → length product.states ≤ most_states
    → steps_to (map_steps product plan) months + steps_to (cell_steps product plan) months ≤ cells_of_month * months

-- so the cost of a month is, and the whole cost
pub record CostsAtMost (product : Product) (plan : Plan) : Type 0 where
  pub month : (month : ℕ) → month_cost product plan month ≤ cells_of_month
  pub whole : cost product plan ≤ cells_of_month * product.months

-- of each product of at most twelve states
abbrev pub CostsAreSmall : Type 0
CostsAreSmall = (product : Product) (plan : Plan) → length product.states ≤ most_states → CostsAtMost product plan
