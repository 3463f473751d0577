use Rattle.model_laws.proofs.LedgerInstances.{falling_numerators, growing_loads}
use Rattle.model_laws.proofs.ledger_checks.loads_and_numerators.Goals as goal

pub returns-clause-numerators : goal.returns-clause-numerators
returns-clause-numerators c = falling_numerators

pub returns-clause-loads : goal.returns-clause-loads
returns-clause-loads c = growing_loads
