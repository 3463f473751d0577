use Rattle.product_instances.proofs.LedgerRows.{cost_of_stretches}
use Rattle.product_instances.proofs.ledger_rows.stretches_cost.Goals as goal

pub returns : goal.returns
returns c = cost_of_stretches
