use Rattle.cell_laws.proofs.Recurrences.{coefficients_recur, second_coefficients_recur}
use Rattle.cell_laws.proofs.recurrence_laws.coefficients_recur.Goals as goal

pub returns-clause-single : goal.returns-clause-single
returns-clause-single c = coefficients_recur

pub returns-clause-second : goal.returns-clause-second
returns-clause-second c = second_coefficients_recur
