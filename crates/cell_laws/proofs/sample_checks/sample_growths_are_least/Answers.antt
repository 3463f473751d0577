use Rattle.cell_laws.proofs.Samples.{backward_growth_is_least, forward_growth_is_least}
use Rattle.cell_laws.proofs.Samples.{second_growth_is_least}
use Rattle.cell_laws.proofs.sample_checks.sample_growths_are_least.Goals as goal

pub returns-clause-backward : goal.returns-clause-backward
returns-clause-backward c = backward_growth_is_least

pub returns-clause-forward : goal.returns-clause-forward
returns-clause-forward c = forward_growth_is_least

pub returns-clause-second : goal.returns-clause-second
returns-clause-second c = second_growth_is_least
