use Rattle.curve_laws.proofs.CellParts.{cell_means}
use Rattle.curve_laws.proofs.month_cells.cells_keep_means.Goals as goal

pub returns : goal.returns
returns c = cell_means
