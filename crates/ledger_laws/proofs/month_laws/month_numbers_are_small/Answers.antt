use Rattle.ledger_laws.proofs.MonthFacts.{month_numbers}
use Rattle.ledger_laws.proofs.month_laws.month_numbers_are_small.Goals as goal

pub returns : goal.returns
returns c = month_numbers
