use Rattle.ledger_laws.proofs.BoundFacts.{has_all_parts}
use Rattle.ledger_laws.proofs.bound_laws.bound_has_all_parts.Goals as goal

pub returns : goal.returns
returns c = has_all_parts
