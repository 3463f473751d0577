use Rattle.map_laws.proofs.ConstantCells.{constant_cells_have_small_numbers}
use Rattle.map_laws.proofs.MonthOfCells.{constant_cells_are_narrow, constant_cells_grow}
use Rattle.map_laws.proofs.month_laws.constant_cells_make_months.Goals as goal

pub returns-clause-numbers : goal.returns-clause-numbers
returns-clause-numbers c = constant_cells_have_small_numbers

pub returns-clause-narrow : goal.returns-clause-narrow
returns-clause-narrow c = constant_cells_are_narrow

pub returns-clause-growth : goal.returns-clause-growth
returns-clause-growth c = constant_cells_grow
