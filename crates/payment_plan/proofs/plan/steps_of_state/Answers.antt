use Rattle.std.proofs.Common.{ap, ◌∙◌, sym}
use Rattle.payment_plan.specs.Records.{steps_of}
use Rattle.payment_plan.proofs.GoodSteps.{StandsAt, steps_at, steps_past}
use Rattle.payment_plan.proofs.plan.steps_of_state.Goals as goal

pub returns-then-at-state : goal.returns-then-at-state
returns-then-at-state c =
    let at : StandsAt c.args.sojourns.now c.loop-at.at-index c.loop-at-item.result =
    record { inside = c.loop-at-test.true; sojourn_is = c.loop-at-item.is } in
    ap steps_of c.deref.ensures.value ∙ steps_at _ _ c.args.state _ at c.if-at-state.true ∙ sym c.loop-at.invariant

pub loop-at-preserved : goal.loop-at-preserved
loop-at-preserved c =
    let at : StandsAt c.args.sojourns.now c.loop-at.at-index c.loop-at-item.result =
    record { inside = c.loop-at-test.true; sojourn_is = c.loop-at-item.is } in
    c.loop-at.invariant ∙ steps_past _ _ c.args.state _ at c.if-at-state.false
