-- What the rows of reserves hold of the run that takes each month as one cell.
use Rattle.std.specs.Prelude.{ℕ, ◌≤◌, All}
use Rattle.fixed_interval.specs.Printing.{LiesBetween}
use Rattle.model_specs.specs.Product.{Product}
use Rattle.model_specs.specs.Payments.{payment_plan}
use Rattle.model_specs.specs.Runs.{month_grid_reserve}
use Rattle.month_grid.specs.MonthGridLaws.{month_grid_degree}
use Rattle.report_columns.specs.declared.note.Note.{Note}
use Rattle.reserve_report.specs.declared.report.Kind.TheVariants as kind
use Rattle.reserve_report.specs.declared.report.Report.{Report}
use Rattle.thiele_cli.specs.Premiums.{ends_of}
use Rattle.thiele_cli.specs.Valuations.{IsValuation}

-- the row's ends hold the reserve by whole months of its date and state, of each degree in which these will do as cells
abbrev pub HoldsByMonths : Product → Note → Type 0
HoldsByMonths product row = (n : ℕ) → month_grid_degree ≤ n
    → LiesBetween (ends_of row) (month_grid_reserve product (payment_plan product) n row.month row.state)

-- a report of reserves, by 32 cells a month and by whole months
pub record IsReserveReport (product : Product) (every : ℕ) (report : Report) : Type 0 where
  pub valuation : IsValuation product kind.Reserves every report
  pub by_months : All (HoldsByMonths product) report.rows.items
