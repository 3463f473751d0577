use Rattle.model_laws.proofs.RunInstances.{intensity_in_cells}
use Rattle.model_laws.proofs.RunInstances.{reserve_of_last_cell}
use Rattle.model_laws.proofs.RunInstances.{moment_of_last_cell}
use Rattle.model_laws.proofs.RunInstances.{reserve_by_whole_month}
use Rattle.model_laws.proofs.RunInstances.{occupancy_of_first_cell}
use Rattle.model_laws.proofs.run_checks.cell_runs.Goals as goal

pub returns-clause-intensity : goal.returns-clause-intensity
returns-clause-intensity c = intensity_in_cells

pub returns-clause-reserve : goal.returns-clause-reserve
returns-clause-reserve c = reserve_of_last_cell

pub returns-clause-second_moment : goal.returns-clause-second_moment
returns-clause-second_moment c = moment_of_last_cell

pub returns-clause-whole_month : goal.returns-clause-whole_month
returns-clause-whole_month c = reserve_by_whole_month

pub returns-clause-occupancy : goal.returns-clause-occupancy
returns-clause-occupancy c = occupancy_of_first_cell
