use Rattle.step_laws.proofs.StoredSteps.{stored_steps_stay_within_their_radius}
use Rattle.step_laws.proofs.stored_laws.stored_steps_stay_within_their_radius.Goals as goal

pub returns : goal.returns
returns c = stored_steps_stay_within_their_radius
