use Rattle.month_grid.proofs.CellPolynomials.{cells_have_polynomials, moved_cells_have_polynomials}
use Rattle.month_grid.proofs.CellPolynomials.{longer_cells_are_magnified}
use Rattle.month_grid.proofs.cell_parts.cells_have_polynomials.Goals as goal

pub returns-clause-cell : goal.returns-clause-cell
returns-clause-cell c = cells_have_polynomials

pub returns-clause-moved : goal.returns-clause-moved
returns-clause-moved c = moved_cells_have_polynomials

pub returns-clause-longer : goal.returns-clause-longer
returns-clause-longer c = longer_cells_are_magnified
