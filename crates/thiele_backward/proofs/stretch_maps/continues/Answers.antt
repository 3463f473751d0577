use Rattle.std.proofs.Common.{◌∙◌, ap}
use Rattle.model_specs.specs.Stretches.{continues_stretch}
use Rattle.payment_plan.specs.Payments.{plan_of}
use Rattle.product_model.specs.Views.{payments_of}
use Rattle.rate_bounds.proofs.PaySteps.{plan_is}
use Rattle.thiele_backward.proofs.stretch_maps.continues.Goals as goal

pub returns : goal.returns
returns c =
    c.continues_stretch.ensures
    ∙ ap (λ p. continues_stretch p (plan_of c.args.which (payments_of p)) c.args.month) c.product.ensures.product
    ∙ ap (λ plan. continues_stretch c.args.adm.now plan c.args.month) (plan_is c.args.which c.args.adm.now)
