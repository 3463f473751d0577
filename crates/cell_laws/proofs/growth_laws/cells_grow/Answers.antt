use Rattle.cell_laws.proofs.Growth.{cells_grow}
use Rattle.cell_laws.proofs.growth_laws.cells_grow.Goals as goal

pub returns : goal.returns
returns c = cells_grow
