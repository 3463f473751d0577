use Rattle.cell_laws.proofs.Recurrences.{taylor_value_sums, second_taylor_value_sums}
use Rattle.cell_laws.proofs.recurrence_laws.taylor_value_sums.Goals as goal

pub returns-clause-single : goal.returns-clause-single
returns-clause-single c = taylor_value_sums

pub returns-clause-second : goal.returns-clause-second
returns-clause-second c = second_taylor_value_sums
