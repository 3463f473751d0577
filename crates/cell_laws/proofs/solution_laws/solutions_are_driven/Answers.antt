use Rattle.cell_laws.proofs.Solutions.{solutions_are_driven}
use Rattle.cell_laws.proofs.solution_laws.solutions_are_driven.Goals as goal

pub returns : goal.returns
returns c = solutions_are_driven
