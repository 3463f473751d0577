use Rattle.sweep_laws.proofs.Sweeps.{sweeps_stay_near}
use Rattle.sweep_laws.proofs.PairSweeps.{pair_sweeps_stay_near}
use Rattle.sweep_laws.proofs.Sweeps.{forward_sweeps_stay_near}
use Rattle.sweep_laws.proofs.rounded_sweeps.sweeps_stay_near.Goals as goal

pub returns-clause-backward : goal.returns-clause-backward
returns-clause-backward c = sweeps_stay_near

pub returns-clause-both : goal.returns-clause-both
returns-clause-both c = pair_sweeps_stay_near

pub returns-clause-forward : goal.returns-clause-forward
returns-clause-forward c = forward_sweeps_stay_near
