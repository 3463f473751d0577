use Rattle.model_laws.proofs.LedgerInstances.{flat_ledgers}
use Rattle.model_laws.proofs.LedgerInstances.{flat_pay}
use Rattle.model_laws.proofs.LedgerInstances.{discounted_ledgers}
use Rattle.model_laws.proofs.LedgerInstances.{discounted_growth}
use Rattle.model_laws.proofs.ledger_checks.year_ledgers.Goals as goal

pub returns-clause-flat : goal.returns-clause-flat
returns-clause-flat c = flat_ledgers

pub returns-clause-flat_pay : goal.returns-clause-flat_pay
returns-clause-flat_pay c = flat_pay

pub returns-clause-discounted : goal.returns-clause-discounted
returns-clause-discounted c = discounted_ledgers

pub returns-clause-discounted_growth : goal.returns-clause-discounted_growth
returns-clause-discounted_growth c = discounted_growth
