use Rattle.model_laws.proofs.LedgerInstances.{falling_rates}
use Rattle.model_laws.proofs.ExchangeInstances.{largest_rates}
use Rattle.model_laws.proofs.ExchangeInstances.{largest_exchange}
use Rattle.model_laws.proofs.ExchangeInstances.{too_large_exchange}
use Rattle.model_laws.proofs.ExchangeInstances.{far_too_large_exchange}
use Rattle.model_laws.proofs.ledger_checks.rules_at_their_limits.Goals as goal

pub returns-clause-falling : goal.returns-clause-falling
returns-clause-falling c = falling_rates

pub returns-clause-rates : goal.returns-clause-rates
returns-clause-rates c = largest_rates

pub returns-clause-largest : goal.returns-clause-largest
returns-clause-largest c = largest_exchange

pub returns-clause-too_large : goal.returns-clause-too_large
returns-clause-too_large c = too_large_exchange

pub returns-clause-far_too_large : goal.returns-clause-far_too_large
returns-clause-far_too_large c = far_too_large_exchange
