use Rattle.cell_laws.proofs.Response.{second_halves_respond}
use Rattle.cell_laws.proofs.growth_laws.second_halves_respond.Goals as goal

pub returns : goal.returns
returns c = second_halves_respond
