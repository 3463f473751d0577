use Rattle.ledger_laws.proofs.BoundFacts.{scale_bounds_ledger, scale_bounds_parts}
use Rattle.ledger_laws.proofs.bound_laws.scale_bounds_all.Goals as goal

pub returns-clause-ledger : goal.returns-clause-ledger
returns-clause-ledger c = scale_bounds_ledger

pub returns-clause-parts : goal.returns-clause-parts
returns-clause-parts c = scale_bounds_parts
