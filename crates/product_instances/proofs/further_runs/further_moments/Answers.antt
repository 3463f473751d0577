use Rattle.product_instances.proofs.FurtherMoments.{moments_at_2, moments_at_1}
use Rattle.product_instances.proofs.further_runs.further_moments.Goals as goal

pub returns-clause-at_2 : goal.returns-clause-at_2
returns-clause-at_2 c = moments_at_2

pub returns-clause-at_1 : goal.returns-clause-at_1
returns-clause-at_1 c = moments_at_1
