use Rattle.cell_laws.proofs.Decay.{driven_sequences_decay}
use Rattle.cell_laws.proofs.scalar_laws.driven_sequences_decay.Goals as goal

pub returns : goal.returns
returns c = driven_sequences_decay
