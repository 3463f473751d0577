use Rattle.cell_laws.proofs.Samples.{halving_value_is_exact, backward_value_is_exact}
use Rattle.cell_laws.proofs.Samples.{forward_value_is_exact, second_value_is_exact}
use Rattle.cell_laws.proofs.sample_checks.sample_values_are_exact.Goals as goal

pub returns-clause-halving : goal.returns-clause-halving
returns-clause-halving c = halving_value_is_exact

pub returns-clause-backward : goal.returns-clause-backward
returns-clause-backward c = backward_value_is_exact

pub returns-clause-forward : goal.returns-clause-forward
returns-clause-forward c = forward_value_is_exact

pub returns-clause-second : goal.returns-clause-second
returns-clause-second c = second_value_is_exact
