use Rattle.map_laws.proofs.Doublings.{doublings_enclose}
use Rattle.map_laws.proofs.doubling_laws.doublings_enclose.Goals as goal

pub returns : goal.returns
returns c = doublings_enclose
