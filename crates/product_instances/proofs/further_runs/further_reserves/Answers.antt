use Rattle.product_instances.proofs.FurtherReserves.{reserves_at_2, reserves_at_1, reserves_at_0}
use Rattle.product_instances.proofs.further_runs.further_reserves.Goals as goal

pub returns-clause-at_2 : goal.returns-clause-at_2
returns-clause-at_2 c = reserves_at_2

pub returns-clause-at_1 : goal.returns-clause-at_1
returns-clause-at_1 c = reserves_at_1

pub returns-clause-at_0 : goal.returns-clause-at_0
returns-clause-at_0 c = reserves_at_0
