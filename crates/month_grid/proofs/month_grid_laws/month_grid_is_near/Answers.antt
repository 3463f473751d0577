use Rattle.month_grid.proofs.GridReserves.{month_grid_is_near, month_grid_is_within_a_unit}
use Rattle.month_grid.proofs.GridReserves.{month_grid_meets_at_the_term}
use Rattle.month_grid.proofs.month_grid_laws.month_grid_is_near.Goals as goal

pub returns-clause-radius : goal.returns-clause-radius
returns-clause-radius c = month_grid_is_near

pub returns-clause-unit : goal.returns-clause-unit
returns-clause-unit c = month_grid_is_within_a_unit

pub returns-clause-term : goal.returns-clause-term
returns-clause-term c = month_grid_meets_at_the_term
