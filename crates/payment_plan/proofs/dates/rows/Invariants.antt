use Rattle.std.proofs.Common.{◌≡◌}
use Rattle.whole_laws.specs.Whole.{list_of}
use Rattle.payment_plan.specs.Tables.{lists_of, row_at}
use Rattle.payment_plan.proofs.dates.rows.Given as goal

-- the dates so far
abbrev pub invariant-loop-date : goal.invariant-loop-date
invariant-loop-date l = lists_of l.dated.items ≡ list_of l.date (row_at l.table l.states)
