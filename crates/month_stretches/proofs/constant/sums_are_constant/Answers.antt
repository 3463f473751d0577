use Rattle.std.proofs.Common.{rules, arith, ◌≡◌, length}
use Rattle.std.specs.Prelude.{false}
use Rattle.model_specs.specs.Stretches.{is_constant}
use Rattle.payment_plan.specs.Payments.{plan_of}
use Rattle.product_model.specs.Views.{payments_of}
use Rattle.month_stretches.specs.Parts.{sum_in}
use Rattle.month_stretches.proofs.ListTests.{one_fails, more_pass}
use Rattle.month_stretches.proofs.InParts.{all_constant}
use Rattle.month_stretches.proofs.constant.sums_are_constant.Goals as goal

pub loop-transition-preserved : goal.loop-transition-preserved
loop-transition-preserved c =
    let plan = plan_of c.args.which (payments_of c.args.product.now) in
    more_pass is_constant c.loop-transition.transition (sum_in plan c.args.month)
    c.loop-transition.invariant (search rules)

pub returns-then-not-sum_first : goal.returns-then-not-sum_first
returns-then-not-sum_first c =
    let plan = plan_of c.args.which (payments_of c.args.product.now) in
    let count : c.transitions-transition-end.result
    ≡ length c.args.product.now.transitions = c.transitions-transition-end.ensures.count in
    let fails : is_constant (sum_in plan c.args.month c.loop-transition.transition) ≡ false =
    search rules in
    one_fails is_constant (length c.args.product.now.transitions) (sum_in plan c.args.month)
    c.loop-transition.transition (omega (arith, c.loop-transition-test.true, count)) fails

pub returns : goal.returns
returns c =
    let plan = plan_of c.args.which (payments_of c.args.product.now) in
    let count : c.transitions-transition-end.result
    ≡ length c.args.product.now.transitions = c.transitions-transition-end.ensures.count in
    all_constant (length c.args.product.now.transitions) (sum_in plan c.args.month)
    (λ k below. c.loop-transition.invariant k (omega (arith, below, c.loop-transition-test.false, count)))
