use Rattle.cell_laws.proofs.Dimensions.{taylor_values_keep_dimension, second_taylor_values_keep_dimension}
use Rattle.cell_laws.proofs.recurrence_laws.taylor_values_keep_dimension.Goals as goal

pub returns-clause-single : goal.returns-clause-single
returns-clause-single c = taylor_values_keep_dimension

pub returns-clause-second : goal.returns-clause-second
returns-clause-second c = second_taylor_values_keep_dimension
