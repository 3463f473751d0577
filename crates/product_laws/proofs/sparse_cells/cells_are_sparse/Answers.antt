use Rattle.product_laws.proofs.SparseCells.{cells_are_sparse, cells_have_job_degrees}
use Rattle.product_laws.proofs.sparse_cells.cells_are_sparse.Goals as goal

pub returns-clause-entries : goal.returns-clause-entries
returns-clause-entries c = cells_are_sparse

pub returns-clause-degrees : goal.returns-clause-degrees
returns-clause-degrees c = cells_have_job_degrees
