use Rattle.std.proofs.Common.{sym, ◌∙◌}
use Rattle.std.specs.Prelude.{◌&&◌}
use mathlib.Core.Path.{ap₂}
use Rattle.payment_plan.specs.Payments.{plan_of}
use Rattle.product_model.specs.Views.{payments_of}
use Rattle.month_stretches.proofs.InParts.{month_in_parts}
use Rattle.month_stretches.proofs.constant.is_constant_month.Goals as goal

pub returns : goal.returns
returns c =
    ap₂ ◌&&◌ (ap₂ ◌&&◌ (ap₂ ◌&&◌ c.interest_first.ensures.alone c.rates_are_constant.ensures)
    c.sojourns_are_constant.ensures) c.sums_are_constant.ensures
    ∙ sym (month_in_parts c.args.product.now (plan_of c.args.which (payments_of c.args.product.now)) c.args.month)
