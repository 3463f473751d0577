use Rattle.step_laws.proofs.StoredPairs.{stored_first_halves_stay_within_their_radius}
use Rattle.step_laws.proofs.StoredPairs.{stored_second_halves_stay_within_their_radius}
use Rattle.step_laws.proofs.stored_laws.stored_pair_steps_stay_within_their_radius.Goals as goal

pub returns-clause-first : goal.returns-clause-first
returns-clause-first c = stored_first_halves_stay_within_their_radius

pub returns-clause-second : goal.returns-clause-second
returns-clause-second c = stored_second_halves_stay_within_their_radius
