use Rattle.charge_laws.proofs.ContinuousRuns.{charged_steps_are, file_reserves_are, pattern_reserves_are}
use Rattle.charge_laws.proofs.ContinuousRuns.{charged_reserves_are}
use Rattle.charge_laws.proofs.instances.continuous_product_is_charged.Goals as goal

pub returns-clause-steps : goal.returns-clause-steps
returns-clause-steps c = charged_steps_are

pub returns-clause-file : goal.returns-clause-file
returns-clause-file c = file_reserves_are

pub returns-clause-pattern : goal.returns-clause-pattern
returns-clause-pattern c = pattern_reserves_are

pub returns-clause-charged : goal.returns-clause-charged
returns-clause-charged c = charged_reserves_are
