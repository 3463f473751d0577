use Rattle.ledger_laws.proofs.PaymentFacts.{payment_loads, pattern_loads}
use Rattle.ledger_laws.proofs.payment_laws.loads_are_small.Goals as goal

pub returns-clause-payments : goal.returns-clause-payments
returns-clause-payments c = payment_loads

pub returns-clause-pattern : goal.returns-clause-pattern
returns-clause-pattern c = pattern_loads
