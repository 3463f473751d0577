use Rattle.ledger_laws.proofs.PlanBounds.{plan_bound, payment_bound, admissible_scale}
use Rattle.ledger_laws.proofs.plan_bound_laws.plan_bound_stays_small.Goals as goal

pub returns-clause-plans : goal.returns-clause-plans
returns-clause-plans c = plan_bound

pub returns-clause-payments : goal.returns-clause-payments
returns-clause-payments c = payment_bound

pub returns-clause-admissible : goal.returns-clause-admissible
returns-clause-admissible c = admissible_scale
