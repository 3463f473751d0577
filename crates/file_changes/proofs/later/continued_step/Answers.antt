use Rattle.std.proofs.Common.{◌-◌, subst}
use Rattle.model_specs.specs.Product.{Step}
use Rattle.file_changes.specs.ContinuousAsks.{AreWords}
use Rattle.file_changes.specs.ContinuousCharges.{coefficients_later}
use Rattle.file_changes.proofs.later.continued_step.Goals as goal

pub returns-in_err-c-clause-too_large : goal.returns-in_err-c-clause-too_large
returns-in_err-c-clause-too_large c =
    rw c.from_residual.ensures
    (subst (λ (s : Step). ¬ AreWords (coefficients_later (c.args.month - s.from) s.c)) c.held_step-step.ensures.step_is
    c.in_err-c.ensures.too_large)
