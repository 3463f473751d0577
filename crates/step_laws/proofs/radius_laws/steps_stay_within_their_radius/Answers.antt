use Rattle.step_laws.proofs.Steps.{steps_stay_within_their_radius}
use Rattle.step_laws.proofs.radius_laws.steps_stay_within_their_radius.Goals as goal

pub returns : goal.returns
returns c = steps_stay_within_their_radius
