use Rattle.cell_laws.proofs.Totals.{convolutions_stay_within}
use Rattle.cell_laws.proofs.scalar_laws.convolutions_stay_within.Goals as goal

pub returns : goal.returns
returns c = convolutions_stay_within
