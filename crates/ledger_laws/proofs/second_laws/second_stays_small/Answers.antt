use Rattle.ledger_laws.proofs.SecondFacts.{second_small}
use Rattle.ledger_laws.proofs.second_laws.second_stays_small.Goals as goal

pub returns : goal.returns
returns c = second_small
