use Rattle.ledger_laws.proofs.SecondFacts.{second_back, second_fourfold}
use Rattle.ledger_laws.proofs.second_laws.second_is_fourfold.Goals as goal

pub returns-clause-goes_back : goal.returns-clause-goes_back
returns-clause-goes_back c = second_back

pub returns-clause-fourfold : goal.returns-clause-fourfold
returns-clause-fourfold c = second_fourfold
