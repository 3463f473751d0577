use Rattle.moment_laws.proofs.ReserveLedger.{runs_go_on}
use Rattle.moment_laws.proofs.RunsFrom.{ledger_carries_runs, runs_stay_within_scale}
use Rattle.moment_laws.proofs.moments.runs_stay_within_scale.Goals as goal

pub returns-clause-go_on : goal.returns-clause-go_on
returns-clause-go_on c = runs_go_on

pub returns-clause-ledger : goal.returns-clause-ledger
returns-clause-ledger c = ledger_carries_runs

pub returns-clause-scale : goal.returns-clause-scale
returns-clause-scale c = runs_stay_within_scale
