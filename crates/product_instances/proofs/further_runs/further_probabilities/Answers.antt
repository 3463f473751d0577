use Rattle.product_instances.proofs.FurtherProbabilities.{probabilities_at_1, probabilities_at_2}
use Rattle.product_instances.proofs.further_runs.further_probabilities.Goals as goal

pub returns-clause-at_1 : goal.returns-clause-at_1
returns-clause-at_1 c = probabilities_at_1

pub returns-clause-at_2 : goal.returns-clause-at_2
returns-clause-at_2 c = probabilities_at_2
