use Rattle.constant_months.proofs.StepSums.{costs_split, steps_are_few, costs_are_small}
use Rattle.constant_months.proofs.costs.costs_split.Goals as goal

pub returns-clause-split : goal.returns-clause-split
returns-clause-split c = costs_split

pub returns-clause-few : goal.returns-clause-few
returns-clause-few c = steps_are_few

pub returns-clause-small : goal.returns-clause-small
returns-clause-small c = costs_are_small
