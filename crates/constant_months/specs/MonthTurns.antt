-- A constant month backward is so many turns of one system, and what the ledger of radii counts for them.
use Rattle.std.specs.Prelude.{◌≡◌, ℕ, ◌+◌, ◌≤◌, IsTrue}
use Rattle.frac_laws.specs.Lists.{Vector, scale_list}
use Rattle.named_numbers.specs.Numbers.{cells_of_month, cell_rounding}
use Rattle.model_specs.specs.Product.{Product}
use Rattle.model_specs.specs.Payments.{Plan}
use Rattle.model_specs.specs.Ledgers.{grow_cells}
use Rattle.model_specs.specs.Stretches.{is_constant_month}
use Rattle.model_specs.specs.Systems.{thiele_system}
use Rattle.product_cells.specs.EachCell.{backward_cell, plan_scaling}
use Rattle.moment_laws.specs.CellRuns.{cells_back}
use Rattle.map_laws.specs.Applied.{grow_turns}
use Rattle.map_laws.specs.MonthOfCells.{taylor_turns}
use Rattle.constant_months.specs.MonthSystems.{month_system}

-- the values after some cells of a month, divided by G, from v at the month's end
abbrev pub scaled_back : Product → Plan → (n month : ℕ) → Vector → ℕ → Vector
scaled_back product plan n month v done = scale_list (plan_scaling product plan)
    (cells_back (λ cell. thiele_system (backward_cell product plan month cell)) n cells_of_month v done)

-- in a constant month they are as many Taylor values of the month's system, one of the other
abbrev pub MonthsAreTurns : Type 0
MonthsAreTurns = (product : Product) (plan : Plan) (n month done : ℕ) (v : Vector)
    → IsTrue (is_constant_month product plan month)
    → scaled_back product plan n month v done
    ≡ taylor_turns done (month_system product plan month) (scale_list (plan_scaling product plan) v) n

-- the ledger of radii grows by a unit a cell more than that of a map's cells
abbrev pub LedgersLeaveSpare : Type 0
LedgersLeaveSpare = (cells radius kappa40 : ℕ)
    → grow_turns cells radius kappa40 + cells ≤ grow_cells kappa40 cell_rounding radius cells
