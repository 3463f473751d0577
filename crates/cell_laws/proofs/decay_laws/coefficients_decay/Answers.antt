use Rattle.cell_laws.proofs.TameDecay.{coefficients_decay, stored_coefficients_decay}
use Rattle.cell_laws.proofs.decay_laws.coefficients_decay.Goals as goal

pub returns-clause-start : goal.returns-clause-start
returns-clause-start c = coefficients_decay

pub returns-clause-stored_start : goal.returns-clause-stored_start
returns-clause-stored_start c = stored_coefficients_decay
