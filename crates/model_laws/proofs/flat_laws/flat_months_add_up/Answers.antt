use Rattle.model_laws.proofs.FlatRuns.{flat_months_add_up}
use Rattle.model_laws.proofs.flat_laws.flat_months_add_up.Goals as goal

pub returns : goal.returns
returns c = flat_months_add_up
