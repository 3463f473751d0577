use Rattle.model_laws.proofs.CellShapes.{cells_are_quintic}
use Rattle.model_laws.proofs.equation_laws.cells_are_quintic.Goals as goal

pub returns : goal.returns
returns c = cells_are_quintic
