use Rattle.frac_laws.proofs.Norms.{norm-add_matrices}
use Rattle.frac_laws.proofs.norm_laws.norm_of_matrix_sum.Goals as goal

pub returns : goal.returns
returns c = norm-add_matrices
