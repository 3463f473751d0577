use Rattle.std.proofs.Common.{arith, ap, ◌∙◌}
use Rattle.rate_bounds.specs.MonthPay.{plan_named, exits_pay}
use Rattle.rate_bounds.proofs.PaySteps.{paid_in_parts, exits_pay_less}
use Rattle.rate_bounds.proofs.pay.paid_in_state.Goals as goal

pub exits_pay-requires-clause-fits : goal.exits_pay-requires-clause-fits
exits_pay-requires-clause-fits c =
    let less = exits_pay_less c.args.product.now (plan_named c.args.which c.args.product.now) c.args.month
    c.args.state in
    rw c.exits_of.ensures.transitions (omega (arith, c.requires.fits, less))

pub overflow_add-result : goal.overflow_add-result
overflow_add-result c =
    let plan = plan_named c.args.which c.args.product.now in
    omega (
      arith,
      c.requires.fits,
      paid_in_parts c.args.product.now plan c.args.month c.args.state c.sojourn_load.result c.month_unit.result
          c.exits_pay.result c.sojourn_load.ensures.value c.month_unit.ensures.value
          (c.exits_pay.ensures ∙ ap (exits_pay c.args.product.now plan c.args.month) c.exits_of.ensures.transitions),
    )

pub returns : goal.returns
returns c =
    let plan = plan_named c.args.which c.args.product.now in
    paid_in_parts c.args.product.now plan c.args.month c.args.state c.sojourn_load.result c.month_unit.result
    c.exits_pay.result c.sojourn_load.ensures.value c.month_unit.ensures.value
    (c.exits_pay.ensures ∙ ap (exits_pay c.args.product.now plan c.args.month) c.exits_of.ensures.transitions)
