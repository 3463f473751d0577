use Rattle.model_laws.proofs.LimitInstances.{limits_check}
use Rattle.model_laws.proofs.ledger_checks.product_at_the_limits.Goals as goal

pub returns : goal.returns
returns c = limits_check
