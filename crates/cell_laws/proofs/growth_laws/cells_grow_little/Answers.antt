use Rattle.cell_laws.proofs.Growth.{cells_grow_little}
use Rattle.cell_laws.proofs.growth_laws.cells_grow_little.Goals as goal

pub returns : goal.returns
returns c = cells_grow_little
