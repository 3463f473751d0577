-- What a table of reserves holds of the run that takes each month as one cell.
use Rattle.std.specs.Prelude.{ℕ, ◌*◌, ◌/◌, ◌<◌, ◌≤◌, length}
use Rattle.fixed_interval.specs.declared.tables.Table.{Table}
use Rattle.fixed_interval.specs.Printing.{LiesBetween}
use Rattle.fixed_interval.specs.Tables.{ends_at}
use Rattle.model_specs.specs.Product.{Product}
use Rattle.model_specs.specs.Payments.{payment_plan}
use Rattle.model_specs.specs.Runs.{month_grid_reserve}
use Rattle.month_grid.specs.MonthGridLaws.{month_grid_degree}

-- the ends of each date and state hold the reserve by whole months, of each degree in which these will do as cells
abbrev pub HoldMonthGrid : Product → (every : ℕ) → Table → Type 0
HoldMonthGrid product every table = (k state n : ℕ) → k ≤ product.months / every → state < length product.states
    → month_grid_degree ≤ n
    → LiesBetween (ends_at table k state) (month_grid_reserve product (payment_plan product) n (k * every) state)
