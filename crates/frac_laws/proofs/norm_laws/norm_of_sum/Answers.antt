use Rattle.frac_laws.proofs.Norms.{norm-add_lists}
use Rattle.frac_laws.proofs.norm_laws.norm_of_sum.Goals as goal

pub returns : goal.returns
returns c = norm-add_lists
