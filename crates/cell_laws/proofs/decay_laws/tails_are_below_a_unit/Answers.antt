use Rattle.cell_laws.proofs.TameDecay.{tails_are_below_a_unit, stored_tails_are_below_a_unit}
use Rattle.cell_laws.proofs.TameDecay.{second_tails_are_below_a_unit, stored_second_tails_are_below_a_unit}
use Rattle.cell_laws.proofs.decay_laws.tails_are_below_a_unit.Goals as goal

pub returns-clause-start : goal.returns-clause-start
returns-clause-start c = tails_are_below_a_unit

pub returns-clause-stored_start : goal.returns-clause-stored_start
returns-clause-stored_start c = stored_tails_are_below_a_unit

pub returns-clause-second : goal.returns-clause-second
returns-clause-second c = second_tails_are_below_a_unit

pub returns-clause-stored_second : goal.returns-clause-stored_second
returns-clause-stored_second c = stored_second_tails_are_below_a_unit
