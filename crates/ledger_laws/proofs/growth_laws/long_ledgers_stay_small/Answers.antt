use Rattle.ledger_laws.proofs.GrowthFacts.{long_ledgers}
use Rattle.ledger_laws.proofs.growth_laws.long_ledgers_stay_small.Goals as goal

pub returns : goal.returns
returns c = long_ledgers
