use Rattle.model_laws.proofs.RunInstances.{end_rows_hold, lower_occupancy_does_not_hold}
use Rattle.model_laws.proofs.run_checks.rows_hold_or_not.Goals as goal

pub returns-clause-hold : goal.returns-clause-hold
returns-clause-hold c = end_rows_hold

pub returns-clause-do_not_hold : goal.returns-clause-do_not_hold
returns-clause-do_not_hold c = lower_occupancy_does_not_hold
