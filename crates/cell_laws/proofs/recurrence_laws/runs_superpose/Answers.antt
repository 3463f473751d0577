use Rattle.cell_laws.proofs.Superposition.{coefficients_superpose, taylor_values_superpose}
use Rattle.cell_laws.proofs.Superposition.{second_taylor_values_superpose}
use Rattle.cell_laws.proofs.recurrence_laws.runs_superpose.Goals as goal

pub returns-clause-coefficients : goal.returns-clause-coefficients
returns-clause-coefficients c = coefficients_superpose

pub returns-clause-values : goal.returns-clause-values
returns-clause-values c = taylor_values_superpose

pub returns-clause-second_values : goal.returns-clause-second_values
returns-clause-second_values c = second_taylor_values_superpose
