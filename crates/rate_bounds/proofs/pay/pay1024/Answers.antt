use Rattle.std.proofs.Common.{◌*◌, ◌^◌, ◌<◌, arith, ap, sym, ◌∙◌}
use Rattle.std.specs.Int.{div_ceil}
use Rattle.model_specs.specs.MonthNumbers.{month_unit}
use Rattle.rate_bounds.specs.MonthPay.{plan_named, greatest_paid}
use Rattle.rate_bounds.proofs.PaySteps.{pay_is, little_is_paid}
use Rattle.rate_bounds.proofs.pay.pay1024.Goals as goal

pub greatest_paid-requires-clause-fits : goal.greatest_paid-requires-clause-fits
greatest_paid-requires-clause-fits c =
    let unit : month_unit c.args.product.now < 2 ^ 62 = omega (
      arith,
      c.month_unit-unit.ensures.value,
      c.month_unit-unit.ensures.most,
    ) in
    little_is_paid c.pay_is_small.ensures.payments c.pay_is_small.ensures.pattern c.args.which c.args.product.now
    c.args.month
    c.month_unit-unit.ensures.lawful c.requires.rules c.requires.month unit

pub returns : goal.returns
returns c =
    c.div_ceil.ensures
    ∙ ap (λ n. div_ceil (1024 * n) (192 * c.month_unit-unit.result)) c.greatest_paid.ensures.value
    ∙ ap (λ n. div_ceil (1024 * greatest_paid c.args.product.now (plan_named c.args.which c.args.product.now)
    c.args.month)
    (192 * n))
    c.month_unit-unit.ensures.value
    ∙ sym (pay_is c.args.product.now (plan_named c.args.which c.args.product.now) c.args.month)
