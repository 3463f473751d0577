use Rattle.curve_laws.proofs.CellParts.{cells_are_small}
use Rattle.curve_laws.proofs.month_cells.cells_have_small_coefficients.Goals as goal

pub returns : goal.returns
returns c = cells_are_small
