use Rattle.ledger_laws.proofs.PlanBounds.{pattern_bound}
use Rattle.ledger_laws.proofs.plan_bound_laws.pattern_bound_stays_small.Goals as goal

pub returns : goal.returns
returns c = pattern_bound
