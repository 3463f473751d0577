use Rattle.cell_laws.proofs.Recurrences.{norms_are_driven}
use Rattle.cell_laws.proofs.recurrence_laws.norms_are_driven.Goals as goal

pub returns : goal.returns
returns c = norms_are_driven
