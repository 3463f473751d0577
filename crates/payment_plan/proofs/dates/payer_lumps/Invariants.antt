use Rattle.std.proofs.Common.{◌≡◌}
use Rattle.payment_plan.specs.Tables.{payers_in_order}
use Rattle.payment_plan.proofs.dates.payer_lumps.Given as goal

-- the payers among the states so far
abbrev pub invariant-loop-state : goal.invariant-loop-state
invariant-loop-state l = l.lumps.items ≡ payers_in_order l.state-counter l.payers
