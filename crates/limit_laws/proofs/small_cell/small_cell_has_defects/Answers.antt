use Rattle.limit_laws.proofs.SmallCell.{reserve_defects, second_moment_defects, probability_defects}
use Rattle.limit_laws.proofs.small_cell.small_cell_has_defects.Goals as goal

pub returns-clause-reserves : goal.returns-clause-reserves
returns-clause-reserves c = reserve_defects

pub returns-clause-second : goal.returns-clause-second
returns-clause-second c = second_moment_defects

pub returns-clause-probabilities : goal.returns-clause-probabilities
returns-clause-probabilities c = probability_defects
