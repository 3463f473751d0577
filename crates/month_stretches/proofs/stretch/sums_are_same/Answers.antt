use Rattle.std.proofs.Common.{rules, arith, ◌≡◌, suc, length}
use Rattle.std.specs.Prelude.{false}
use Rattle.payment_plan.specs.Payments.{plan_of}
use Rattle.product_model.specs.Views.{payments_of}
use Rattle.month_stretches.specs.Parts.{is_same, sum_in}
use Rattle.month_stretches.proofs.ListTests.{one_fails, more_pass}
use Rattle.month_stretches.proofs.InParts.{all_same}
use Rattle.month_stretches.proofs.stretch.sums_are_same.Goals as goal

pub loop-transition-preserved : goal.loop-transition-preserved
loop-transition-preserved c =
    let plan = plan_of c.args.which (payments_of c.args.product.now) in
    more_pass is_same c.loop-transition.transition
    (λ k. (sum_in plan c.args.month k, sum_in plan (suc c.args.month) k))
    c.loop-transition.invariant (search rules)

pub returns-then-not-is_same : goal.returns-then-not-is_same
returns-then-not-is_same c =
    let plan = plan_of c.args.which (payments_of c.args.product.now) in
    let count : c.transitions-transition-end.result
    ≡ length c.args.product.now.transitions = c.transitions-transition-end.ensures.count in
    let fails : is_same (
      sum_in plan c.args.month c.loop-transition.transition,
      sum_in plan (suc c.args.month) c.loop-transition.transition,
    ) ≡ false = search rules in
    one_fails is_same (length c.args.product.now.transitions)
    (λ k. (sum_in plan c.args.month k, sum_in plan (suc c.args.month) k))
    c.loop-transition.transition (omega (arith, c.loop-transition-test.true, count)) fails

pub returns : goal.returns
returns c =
    let plan = plan_of c.args.which (payments_of c.args.product.now) in
    let count : c.transitions-transition-end.result
    ≡ length c.args.product.now.transitions = c.transitions-transition-end.ensures.count in
    all_same (length c.args.product.now.transitions) (sum_in plan c.args.month)
    (sum_in plan (suc c.args.month))
    (λ k below. c.loop-transition.invariant k (omega (arith, below, c.loop-transition-test.false, count)))
