use Rattle.frac_laws.proofs.Norms.{norm-scale_matrix}
use Rattle.frac_laws.proofs.norm_laws.norm_of_matrix_multiple.Goals as goal

pub returns : goal.returns
returns c = norm-scale_matrix
