use Rattle.product_instances.proofs.LedgerRows.{rows_in_the_middle, rows_at_issue, forward_radius}
use Rattle.product_instances.proofs.ledger_rows.rows_have_tolerances.Goals as goal

pub returns-clause-middle : goal.returns-clause-middle
returns-clause-middle c = rows_in_the_middle

pub returns-clause-issue : goal.returns-clause-issue
returns-clause-issue c = rows_at_issue

pub returns-clause-forward : goal.returns-clause-forward
returns-clause-forward c = forward_radius
