use Rattle.std.proofs.Common.{◌∙◌, ap}
use Rattle.model_specs.specs.Stretches.{is_constant_month}
use Rattle.payment_plan.specs.Payments.{plan_of}
use Rattle.product_model.specs.Views.{payments_of}
use Rattle.rate_bounds.proofs.PaySteps.{plan_is}
use Rattle.thiele_backward.proofs.stretch_maps.is_constant.Goals as goal

pub returns : goal.returns
returns c =
    c.is_constant_month.ensures
    ∙ ap (λ p. is_constant_month p (plan_of c.args.which (payments_of p)) c.args.month) c.product.ensures.product
    ∙ ap (λ plan. is_constant_month c.args.adm.now plan c.args.month) (plan_is c.args.which c.args.adm.now)
