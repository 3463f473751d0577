use Rattle.std.proofs.Common.{◌≤◌, ◌+◌, ◌*◌, ◌^◌, arith, ◌∙◌}
use Rattle.rate_bounds.specs.MonthPay.{plan_named}
use Rattle.rate_bounds.proofs.BoundSteps.{step_is, step_fits}
use Rattle.rate_bounds.proofs.plan_bound.month_back.Goals as goal

pub overflow_add-bound : goal.overflow_add-bound
overflow_add-bound c =
    let fits : c.args.bound + 1024 * c.from-lump.result ≤ 2 ^ 80 =
    step_fits c.args.product.now (plan_named c.args.which c.args.product.now) c.args.month c.args.bound 32 (2 ^ 80)
    c.kappa_at-kappa40.result c.pay_at-pay.result c.from-lump.result c.kappa_at-kappa40.ensures.value
    c.pay_at-pay.ensures.value
    (c.from-lump.ensures ∙ c.greatest_lump.ensures) c.requires.fits 0 (omega arith) in
    omega (arith, fits)

pub grow_cells-requires-clause-fits : goal.grow_cells-requires-clause-fits
grow_cells-requires-clause-fits c =
    step_fits c.args.product.now (plan_named c.args.which c.args.product.now) c.args.month c.args.bound 32 (2 ^ 80)
    c.kappa_at-kappa40.result c.pay_at-pay.result c.from-lump.result c.kappa_at-kappa40.ensures.value
    c.pay_at-pay.ensures.value
    (c.from-lump.ensures ∙ c.greatest_lump.ensures) c.requires.fits

pub returns : goal.returns
returns c =
    c.grow_cells.ensures
    ∙ step_is c.args.product.now (plan_named c.args.which c.args.product.now) c.args.month c.args.bound 32
    c.kappa_at-kappa40.result c.pay_at-pay.result c.from-lump.result c.kappa_at-kappa40.ensures.value
    c.pay_at-pay.ensures.value
    (c.from-lump.ensures ∙ c.greatest_lump.ensures)
