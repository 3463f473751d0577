use Rattle.moment_laws.proofs.SecondMoments.{ledger_carries_moments}
use Rattle.moment_laws.proofs.SecondMoments.{second_moments_stay_within_scale}
use Rattle.moment_laws.proofs.moments.second_moments_stay_within_scale.Goals as goal

pub returns-clause-ledger : goal.returns-clause-ledger
returns-clause-ledger c = ledger_carries_moments

pub returns-clause-scale : goal.returns-clause-scale
returns-clause-scale c = second_moments_stay_within_scale
