use Rattle.limit_laws.proofs.SmallCell.{reserves_of_small_cell, second_moments_of_small_cell}
use Rattle.limit_laws.proofs.SmallCell.{probabilities_of_small_cell}
use Rattle.limit_laws.proofs.small_cell.small_cell_has_runs.Goals as goal

pub returns-clause-reserves : goal.returns-clause-reserves
returns-clause-reserves c = reserves_of_small_cell

pub returns-clause-second : goal.returns-clause-second
returns-clause-second c = second_moments_of_small_cell

pub returns-clause-probabilities : goal.returns-clause-probabilities
returns-clause-probabilities c = probabilities_of_small_cell
