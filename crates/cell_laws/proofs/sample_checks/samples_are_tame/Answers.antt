use Rattle.cell_laws.proofs.Samples.{backward_system_is_tame, forward_system_is_tame, sample_pair_is_tame}
use Rattle.cell_laws.proofs.sample_checks.samples_are_tame.Goals as goal

pub returns-clause-backward : goal.returns-clause-backward
returns-clause-backward c = backward_system_is_tame

pub returns-clause-forward : goal.returns-clause-forward
returns-clause-forward c = forward_system_is_tame

pub returns-clause-pair : goal.returns-clause-pair
returns-clause-pair c = sample_pair_is_tame
