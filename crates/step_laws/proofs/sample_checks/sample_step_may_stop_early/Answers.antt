use Rattle.step_laws.proofs.Samples.{sample_may_stop, sample_may_not_stop_at_nine, sample_is_rounded_early}
use Rattle.step_laws.proofs.Samples.{sample_stays_near_early}
use Rattle.step_laws.proofs.sample_checks.sample_step_may_stop_early.Goals as goal

pub returns-clause-stops : goal.returns-clause-stops
returns-clause-stops c = sample_may_stop

pub returns-clause-not_before : goal.returns-clause-not_before
returns-clause-not_before c = sample_may_not_stop_at_nine

pub returns-clause-rounded : goal.returns-clause-rounded
returns-clause-rounded c = sample_is_rounded_early

pub returns-clause-stays_near : goal.returns-clause-stays_near
returns-clause-stays_near c = sample_stays_near_early
