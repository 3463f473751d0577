use Rattle.sweep_laws.proofs.ScaledSteps.{first_moments_step}
use Rattle.sweep_laws.proofs.ScaledSteps.{both_moments_step}
use Rattle.sweep_laws.proofs.ScaledSteps.{probabilities_step}
use Rattle.sweep_laws.proofs.scaled_steps.runs_are_tame_steps.Goals as goal

pub returns-clause-first : goal.returns-clause-first
returns-clause-first c = first_moments_step

pub returns-clause-both : goal.returns-clause-both
returns-clause-both c = both_moments_step

pub returns-clause-probabilities : goal.returns-clause-probabilities
returns-clause-probabilities c = probabilities_step
