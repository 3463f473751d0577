use Rattle.ledger_laws.proofs.BeforeTerm.{radius_small, bound_greatest, second_fourfold}
use Rattle.ledger_laws.proofs.before_term_laws.ledgers_before_term.Goals as goal

pub returns-clause-radius : goal.returns-clause-radius
returns-clause-radius c = radius_small

pub returns-clause-bound : goal.returns-clause-bound
returns-clause-bound c = bound_greatest

pub returns-clause-second : goal.returns-clause-second
returns-clause-second c = second_fourfold
