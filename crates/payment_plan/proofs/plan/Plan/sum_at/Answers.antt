use Rattle.std.proofs.Common.{get_or, [], ap, ◌∙◌, sym, subst, false, ◌-◌, ◌+◌}
use Rattle.model_specs.specs.Product.{Step}
use Rattle.model_specs.specs.Payments.{step_at}
use Rattle.model_specs.specs.RecordRules.{IsBoundedStep}
use Rattle.payment_plan.specs.Records.{steps_of}
use Rattle.payment_plan.specs.Steps.{HasGoodSteps}
use Rattle.payment_plan.proofs.GoodSteps.{good_sums, first_start}
use Rattle.payment_plan.proofs.Patterns.{unit_bounded}
use Rattle.payment_plan.proofs.plan.Plan.sum_at.Goals as goal

pub step_at-requires : goal.step_at-requires
step_at-requires c =
    let good = good_sums c.args.self.now c.args.transition c.sums.ensures.allowed.payments c.requires.transition in
    rw c.sums.ensures.steps
    (first_start c.args.self.now.months c.args.month (get_or c.args.self.now.sums c.args.transition []) good)

pub returns-in-Benefits : goal.returns-in-Benefits
returns-in-Benefits c =
    let good : HasGoodSteps c.args.self.now.months (steps_of c.sums.result.now) =
    rw c.sums.ensures.steps
    (good_sums c.args.self.now c.args.transition c.sums.ensures.allowed.payments c.requires.transition) in
    let covers = c.step_at.ensures c.args.self.now.months good c.requires.month in
    let step_is = covers.step_is ∙ ap (λ steps. step_at steps c.args.month) c.sums.ensures.steps in
    rw c.in-Benefits.is
    (record {
      step = step_is;
      pattern = λ other. cc;
      started = covers.started;
      bounded = covers.bounded;
    })

pub returns-in-Pattern-clause-bounded : goal.returns-in-Pattern-clause-bounded
returns-in-Pattern-clause-bounded c =
    let P : Step → Type 0 = λ s. IsBoundedStep s.c (c.args.month - c.constant.result.from + 1) in
    subst P (sym c.constant.ensures) (unit_bounded false (c.args.month - c.constant.result.from + 1))
