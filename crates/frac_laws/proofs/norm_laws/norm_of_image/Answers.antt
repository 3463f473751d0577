use Rattle.frac_laws.proofs.Norms.{norm-image}
use Rattle.frac_laws.proofs.norm_laws.norm_of_image.Goals as goal

pub returns : goal.returns
returns c = norm-image
