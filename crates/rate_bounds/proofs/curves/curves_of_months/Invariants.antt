use Rattle.rate_bounds.specs.MonthTables.{AreCurvesUpTo}
use Rattle.rate_bounds.proofs.curves.curves_of_months.Given as goal

-- the numbers of the months so far
abbrev pub invariant-loop-month : goal.invariant-loop-month
invariant-loop-month l = AreCurvesUpTo l.product l.month l.curves.items
