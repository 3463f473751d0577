use Rattle.product_cells.proofs.ProductCells.{months_are_small}
use Rattle.product_cells.proofs.ProductCells.{cells_have_small_curves}
use Rattle.product_cells.proofs.small_cells.cells_have_small_curves.Goals as goal

pub returns-clause-months : goal.returns-clause-months
returns-clause-months c = months_are_small

pub returns-clause-curves : goal.returns-clause-curves
returns-clause-curves c = cells_have_small_curves
