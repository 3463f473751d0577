use Rattle.moment_laws.proofs.ReserveLedger.{ledger_carries_reserves}
use Rattle.moment_laws.proofs.ReserveLedger.{reserves_stay_within_scale}
use Rattle.moment_laws.proofs.moments.reserves_stay_within_scale.Goals as goal

pub returns-clause-ledger : goal.returns-clause-ledger
returns-clause-ledger c = ledger_carries_reserves

pub returns-clause-scale : goal.returns-clause-scale
returns-clause-scale c = reserves_stay_within_scale
