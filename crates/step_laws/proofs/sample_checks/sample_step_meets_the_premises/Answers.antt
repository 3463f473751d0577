use Rattle.step_laws.proofs.Samples.{sample_stands_for, sample_is_tame, sample_is_rounded}
use Rattle.step_laws.proofs.Samples.{sample_start_is_near, sample_stays_near}
use Rattle.step_laws.proofs.sample_checks.sample_step_meets_the_premises.Goals as goal

pub returns-clause-stands : goal.returns-clause-stands
returns-clause-stands c = sample_stands_for

pub returns-clause-tame : goal.returns-clause-tame
returns-clause-tame c = sample_is_tame

pub returns-clause-rounded : goal.returns-clause-rounded
returns-clause-rounded c = sample_is_rounded

pub returns-clause-near : goal.returns-clause-near
returns-clause-near c = sample_start_is_near

pub returns-clause-stays_near : goal.returns-clause-stays_near
returns-clause-stays_near c = sample_stays_near
