use Rattle.frac_laws.proofs.Norms.{number_below_norm, number_below_matrix_norm}
use Rattle.frac_laws.proofs.norm_laws.number_within_norm.Goals as goal

pub returns-clause-vector : goal.returns-clause-vector
returns-clause-vector c = number_below_norm

pub returns-clause-matrix : goal.returns-clause-matrix
returns-clause-matrix c = number_below_matrix_norm
