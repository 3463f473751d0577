use Rattle.std.proofs.Common.{◌≡◌, drop}
use Rattle.payment_plan.specs.Records.{sojourns_of}
use Rattle.payment_plan.specs.Steps.{steps_in_state}
use Rattle.payment_plan.proofs.plan.steps_of_state.Given as goal

-- the sojourn of the state is none of those so far
abbrev pub invariant-loop-at : goal.invariant-loop-at
invariant-loop-at l =
    steps_in_state (sojourns_of l.sojourns) l.state ≡ steps_in_state (sojourns_of (drop l.at-index l.sojourns)) l.state
