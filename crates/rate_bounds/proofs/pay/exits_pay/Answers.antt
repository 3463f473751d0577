use Rattle.std.proofs.Common.{◌+◌, ◌^◌, ◌<◌, arith, refl}
use Rattle.rate_bounds.specs.MonthPay.{plan_named, exits_pay}
use Rattle.rate_bounds.proofs.PaySteps.{exits_pay_step, exits_pay_fits, one_exit_fits}
use Rattle.rate_bounds.proofs.pay.exits_pay.Goals as goal

pub loop-exit-init : goal.loop-exit-init
unfolding exits_pay
loop-exit-init c = refl

pub exit_pay-sum-requires-clause-fits : goal.exit_pay-sum-requires-clause-fits
exit_pay-sum-requires-clause-fits c =
    one_exit_fits c.args.product.now (plan_named c.args.which c.args.product.now) c.args.month c.args.exits.now
    c.loop-exit.exit-index _ c.loop-exit-test.true c.requires.fits

pub overflow_add-sum : goal.overflow_add-sum
overflow_add-sum c =
    let fits : c.loop-exit.sum + c.exit_pay-sum.result < 2 ^ 127 =
    exits_pay_fits c.args.product.now (plan_named c.args.which c.args.product.now) c.args.month c.args.exits.now
    c.loop-exit.exit-index _ _ _ c.loop-exit-test.true c.loop-exit.invariant c.exit_pay-sum.ensures c.requires.fits in
    omega arith

pub loop-exit-preserved : goal.loop-exit-preserved
loop-exit-preserved c =
    exits_pay_step c.args.product.now (plan_named c.args.which c.args.product.now) c.args.month c.args.exits.now
    c.loop-exit.exit-index _ _ _ c.loop-exit-test.true c.loop-exit.invariant c.exit_pay-sum.ensures
