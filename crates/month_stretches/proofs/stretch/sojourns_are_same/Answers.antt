use Rattle.std.proofs.Common.{rules, arith, ◌≡◌, suc, length}
use Rattle.std.specs.Prelude.{false}
use Rattle.payment_plan.specs.Payments.{plan_of}
use Rattle.product_model.specs.Views.{payments_of}
use Rattle.month_stretches.specs.Parts.{is_same, sojourn_in}
use Rattle.month_stretches.proofs.ListTests.{one_fails, more_pass}
use Rattle.month_stretches.proofs.InParts.{all_same}
use Rattle.month_stretches.proofs.stretch.sojourns_are_same.Goals as goal

pub loop-state-preserved : goal.loop-state-preserved
loop-state-preserved c =
    let plan = plan_of c.args.which (payments_of c.args.product.now) in
    more_pass is_same c.loop-state.state
    (λ k. (sojourn_in plan c.args.month k, sojourn_in plan (suc c.args.month) k))
    c.loop-state.invariant (search rules)

pub returns-then-not-is_same : goal.returns-then-not-is_same
returns-then-not-is_same c =
    let plan = plan_of c.args.which (payments_of c.args.product.now) in
    let count : c.states-state-end.result
    ≡ length c.args.product.now.states = search rules in
    let fails : is_same (
      sojourn_in plan c.args.month c.loop-state.state,
      sojourn_in plan (suc c.args.month) c.loop-state.state,
    ) ≡ false = search rules in
    one_fails is_same (length c.args.product.now.states)
    (λ k. (sojourn_in plan c.args.month k, sojourn_in plan (suc c.args.month) k))
    c.loop-state.state (omega (arith, c.loop-state-test.true, count)) fails

pub returns : goal.returns
returns c =
    let plan = plan_of c.args.which (payments_of c.args.product.now) in
    let count : c.states-state-end.result
    ≡ length c.args.product.now.states = search rules in
    all_same (length c.args.product.now.states) (sojourn_in plan c.args.month)
    (sojourn_in plan (suc c.args.month))
    (λ k below. c.loop-state.invariant k (omega (arith, below, c.loop-state-test.false, count)))
