use Rattle.map_laws.proofs.FiveDoublings.{doublings_keep_their_bounds, ends_stay_small}
use Rattle.map_laws.proofs.Narrow.{doublings_stay_narrow}
use Rattle.map_laws.proofs.doubling_laws.doublings_stay_narrow.Goals as goal

pub returns-clause-any : goal.returns-clause-any
returns-clause-any c = doublings_stay_narrow

pub returns-clause-five : goal.returns-clause-five
returns-clause-five c = doublings_keep_their_bounds

pub returns-clause-ends : goal.returns-clause-ends
returns-clause-ends c = ends_stay_small
