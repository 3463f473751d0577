use Rattle.cell_laws.proofs.TameDecay.{first_halves_decay, second_halves_decay, stored_first_halves_decay}
use Rattle.cell_laws.proofs.TameDecay.{stored_second_halves_decay}
use Rattle.cell_laws.proofs.decay_laws.pair_coefficients_decay.Goals as goal

pub returns-clause-first : goal.returns-clause-first
returns-clause-first c = first_halves_decay

pub returns-clause-second : goal.returns-clause-second
returns-clause-second c = second_halves_decay

pub returns-clause-stored_first : goal.returns-clause-stored_first
returns-clause-stored_first c = stored_first_halves_decay

pub returns-clause-stored_second : goal.returns-clause-stored_second
returns-clause-stored_second c = stored_second_halves_decay
