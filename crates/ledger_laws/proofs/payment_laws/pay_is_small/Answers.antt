use Rattle.ledger_laws.proofs.PaymentFacts.{payments_pay, pattern_pays}
use Rattle.ledger_laws.proofs.payment_laws.pay_is_small.Goals as goal

pub returns-clause-payments : goal.returns-clause-payments
returns-clause-payments c = payments_pay

pub returns-clause-pattern : goal.returns-clause-pattern
returns-clause-pattern c = pattern_pays
