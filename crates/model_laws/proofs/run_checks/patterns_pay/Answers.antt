use Rattle.model_laws.proofs.RunInstances.{pattern_pays_at_dates, pattern_pays_rate}
use Rattle.model_laws.proofs.run_checks.patterns_pay.Goals as goal

pub returns-clause-at_dates : goal.returns-clause-at_dates
returns-clause-at_dates c = pattern_pays_at_dates

pub returns-clause-as_a_rate : goal.returns-clause-as_a_rate
returns-clause-as_a_rate c = pattern_pays_rate
