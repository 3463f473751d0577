use Rattle.ledger_laws.proofs.BoundFacts.{bound_back, never_falls_by_months, greatest_is_bound}
use Rattle.ledger_laws.proofs.bound_laws.bound_never_falls.Goals as goal

pub returns-clause-goes_back : goal.returns-clause-goes_back
returns-clause-goes_back c = bound_back

pub returns-clause-months : goal.returns-clause-months
returns-clause-months c = never_falls_by_months

pub returns-clause-greatest : goal.returns-clause-greatest
returns-clause-greatest c = greatest_is_bound
