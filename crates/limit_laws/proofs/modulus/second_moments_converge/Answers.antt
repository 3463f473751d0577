use Rattle.limit_laws.proofs.SecondModulus.{all_second_moments_converge}
use Rattle.limit_laws.proofs.modulus.second_moments_converge.Goals as goal

pub returns : goal.returns
returns c = all_second_moments_converge
