use Rattle.cell_laws.proofs.Solutions.{defects_respond}
use Rattle.cell_laws.proofs.solution_laws.defects_respond.Goals as goal

pub returns : goal.returns
returns c = defects_respond
