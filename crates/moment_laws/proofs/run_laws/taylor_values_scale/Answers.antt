use Rattle.moment_laws.proofs.ScaledRuns.{taylor_values_scale}
use Rattle.moment_laws.proofs.ScaledRuns.{second_taylor_values_scale}
use Rattle.moment_laws.proofs.run_laws.taylor_values_scale.Goals as goal

pub returns-clause-single : goal.returns-clause-single
returns-clause-single c = taylor_values_scale

pub returns-clause-second : goal.returns-clause-second
returns-clause-second c = second_taylor_values_scale
