use Rattle.std.proofs.Common.{◌≡◌}
use Rattle.payment_plan.specs.Tables.{row_upto}
use Rattle.payment_plan.proofs.dates.row.Given as goal

-- the lumps of the states so far
abbrev pub invariant-loop-state : goal.invariant-loop-state
invariant-loop-state l = l.lumps.items ≡ row_upto l.amounts l.state
