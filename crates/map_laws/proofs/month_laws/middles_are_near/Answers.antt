use Rattle.map_laws.proofs.Middles.{middles_are_near}
use Rattle.map_laws.proofs.month_laws.middles_are_near.Goals as goal

pub returns : goal.returns
returns c = middles_are_near
