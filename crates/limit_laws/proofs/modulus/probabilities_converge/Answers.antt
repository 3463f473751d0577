use Rattle.limit_laws.proofs.ProbabilityModulus.{all_probabilities_converge}
use Rattle.limit_laws.proofs.modulus.probabilities_converge.Goals as goal

pub returns : goal.returns
returns c = all_probabilities_converge
