use Rattle.polynomial_runs.proofs.FarDecay.{far_coefficients_decay}
use Rattle.polynomial_runs.proofs.Misses.{runs_miss_little}
use Rattle.polynomial_runs.proofs.polynomial_laws.runs_miss_little.Goals as goal

pub returns-clause-decay : goal.returns-clause-decay
returns-clause-decay c = far_coefficients_decay

pub returns-clause-missed : goal.returns-clause-missed
returns-clause-missed c = runs_miss_little
