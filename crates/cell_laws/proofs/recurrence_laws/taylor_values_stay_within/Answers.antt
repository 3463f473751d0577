use Rattle.cell_laws.proofs.Recurrences.{taylor_values_stay_within, second_taylor_values_stay_within}
use Rattle.cell_laws.proofs.recurrence_laws.taylor_values_stay_within.Goals as goal

pub returns-clause-single : goal.returns-clause-single
returns-clause-single c = taylor_values_stay_within

pub returns-clause-second : goal.returns-clause-second
returns-clause-second c = second_taylor_values_stay_within
