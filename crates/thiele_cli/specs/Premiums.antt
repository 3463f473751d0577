-- How close the ends of a premium lie.
use Rattle.std.specs.Prelude.{ℕ, ◌≤◌}
use Rattle.fixed_interval.specs.declared.printed.Printed.{Printed}
use Rattle.model_specs.specs.Product.{Product}
use Rattle.model_specs.specs.Payments.{payment_plan, pattern_plan}
use Rattle.model_specs.specs.Runs.{pattern_value}
use Rattle.premium_solver.specs.Premiums.{ArePremiumsClose, tolerance_at_issue}
use Rattle.report_columns.specs.declared.note.Note.{Note}
use Rattle.reserve_report.specs.declared.report.Report.{Report}
use Rattle.reserve_report.specs.Results.{premium_row}

-- the ends of a row
abbrev pub ends_of : Note → Printed
ends_of row = record { lo = row.lo; hi = row.hi }

-- times the pattern's value of each degree from the report's on, the premium's ends lie no further apart than the
-- tolerances of the benefits and of the pattern say
abbrev pub HasClosePremium : Product → Report → Type 0
HasClosePremium product report = (n : ℕ) → report.degree ≤ n
    → ArePremiumsClose (tolerance_at_issue product (payment_plan product))
    (tolerance_at_issue product (pattern_plan product)) (ends_of (premium_row report)) (pattern_value product n)
