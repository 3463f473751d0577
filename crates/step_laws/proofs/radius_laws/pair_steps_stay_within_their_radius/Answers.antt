use Rattle.step_laws.proofs.PairRadii.{first_halves_stay_within_their_radius}
use Rattle.step_laws.proofs.PairRadii.{second_halves_stay_within_their_radius}
use Rattle.step_laws.proofs.radius_laws.pair_steps_stay_within_their_radius.Goals as goal

pub returns-clause-first : goal.returns-clause-first
returns-clause-first c = first_halves_stay_within_their_radius

pub returns-clause-second : goal.returns-clause-second
returns-clause-second c = second_halves_stay_within_their_radius
