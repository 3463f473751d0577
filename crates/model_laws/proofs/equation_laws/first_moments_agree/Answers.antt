use Rattle.model_laws.proofs.Moments.{first_moments_agree}
use Rattle.model_laws.proofs.equation_laws.first_moments_agree.Goals as goal

pub returns : goal.returns
returns c = first_moments_agree
