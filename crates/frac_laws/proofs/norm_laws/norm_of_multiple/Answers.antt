use Rattle.frac_laws.proofs.Norms.{norm-scale_list}
use Rattle.frac_laws.proofs.norm_laws.norm_of_multiple.Goals as goal

pub returns : goal.returns
returns c = norm-scale_list
