use Rattle.month_grid.proofs.MonthParts.{cells_of_months_move, months_are_longer}
use Rattle.month_grid.proofs.cell_parts.months_have_parts.Goals as goal

pub returns-clause-cells : goal.returns-clause-cells
returns-clause-cells c = cells_of_months_move

pub returns-clause-months : goal.returns-clause-months
returns-clause-months c = months_are_longer
