use Rattle.ledger_laws.proofs.GrowthFacts.{keeps_order, cells_never_fall}
use Rattle.ledger_laws.proofs.growth_laws.ledgers_grow.Goals as goal

pub returns-clause-order : goal.returns-clause-order
returns-clause-order c = keeps_order

pub returns-clause-cells : goal.returns-clause-cells
returns-clause-cells c = cells_never_fall
