use Rattle.std.proofs.Common.{arith}
use Rattle.rate_bounds.specs.MonthPay.{plan_named}
use Rattle.rate_bounds.proofs.PaySteps.{exit_pay_is, no_load_no_pay}
use Rattle.rate_bounds.proofs.pay.exit_pay.Goals as goal

pub overflow_mul-result : goal.overflow_mul-result
overflow_mul-result c =
    let paid = exit_pay_is c.args.product.now (plan_named c.args.which c.args.product.now) c.args.month
    c.args.transition
    c.rate_part.result c.sum_load-load.result c.rate_part.ensures.value c.sum_load-load.ensures.value in
    omega (arith, paid, c.requires.fits)

pub returns-then-load-eq0 : goal.returns-then-load-eq0
returns-then-load-eq0 c =
    no_load_no_pay c.args.product.now (plan_named c.args.which c.args.product.now) c.args.month c.args.transition
    c.sum_load-load.result c.sum_load-load.ensures.value c.if-load-eq0.true

pub returns-else-load-eq0 : goal.returns-else-load-eq0
returns-else-load-eq0 c =
    exit_pay_is c.args.product.now (plan_named c.args.which c.args.product.now) c.args.month c.args.transition
    c.rate_part.result c.sum_load-load.result c.rate_part.ensures.value c.sum_load-load.ensures.value
