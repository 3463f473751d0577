use Rattle.cell_laws.proofs.Response.{pairs_grow}
use Rattle.cell_laws.proofs.growth_laws.pairs_grow.Goals as goal

pub returns : goal.returns
returns c = pairs_grow
