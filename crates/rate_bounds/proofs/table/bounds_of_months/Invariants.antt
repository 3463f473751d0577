use Rattle.rate_bounds.specs.MonthTables.{AreBoundsUpTo}
use Rattle.rate_bounds.proofs.table.bounds_of_months.Given as goal

-- the bounds of the months so far
abbrev pub invariant-loop-month : goal.invariant-loop-month
invariant-loop-month l = AreBoundsUpTo l.product l.month l.bounds.items
