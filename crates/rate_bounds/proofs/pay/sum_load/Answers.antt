use Rattle.std.proofs.Common.{FitsSigned, rules, ap, ◌∙◌}
use Rattle.std.specs.Prelude.{unsigned_abs}
use Rattle.std.specs.Int.{w128}
use Rattle.std.proofs.lemmas.Int.{to_z-of_z}
use Rattle.model_specs.specs.Payments.{sum_at}
use Rattle.model_specs.specs.Growth.{load}
use Rattle.payment_plan.specs.Payments.{plan_of}
use Rattle.rate_bounds.specs.MonthPay.{sum_load}
use Rattle.rate_bounds.proofs.PaySteps.{plan_is}
use Rattle.rate_bounds.proofs.pay.sum_load.Goals as goal

pub returns-clause-value : goal.returns-clause-value
unfolding sum_load
returns-clause-value c =
    let wide : FitsSigned w128 c.amount_load.result = search rules in
    simp to_z-of_z
    (ap unsigned_abs c.amount_load.ensures.value ∙ ap (λ s. load s c.args.month) c.sum_at-step.ensures.step
    ∙ ap (λ p. load (sum_at (plan_of c.args.which p) c.args.transition c.args.month) c.args.month)
    c.plan.ensures.payments
    ∙ ap (λ plan. load (sum_at plan c.args.transition c.args.month) c.args.month)
    (plan_is c.args.which c.args.product.now))
