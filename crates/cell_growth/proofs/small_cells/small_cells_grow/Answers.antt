use Rattle.cell_growth.proofs.SmallCellGrowth.{small_cells_grow, small_pairs_grow}
use Rattle.cell_growth.proofs.small_cells.small_cells_grow.Goals as goal

pub returns-clause-first : goal.returns-clause-first
returns-clause-first c = small_cells_grow

pub returns-clause-second : goal.returns-clause-second
returns-clause-second c = small_pairs_grow
