use Rattle.probability_laws.proofs.ProbabilityRuns.{probabilities_add_up_to_one}
use Rattle.probability_laws.proofs.ProbabilityRuns.{probabilities_stay_small}
use Rattle.probability_laws.proofs.probabilities.probabilities_add_up.Goals as goal

pub returns-clause-one : goal.returns-clause-one
returns-clause-one c = probabilities_add_up_to_one

pub returns-clause-sizes : goal.returns-clause-sizes
returns-clause-sizes c = probabilities_stay_small
