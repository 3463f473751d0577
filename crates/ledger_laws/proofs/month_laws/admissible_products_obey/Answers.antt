use Rattle.ledger_laws.proofs.MonthFacts.{admissible_obeys}
use Rattle.ledger_laws.proofs.month_laws.admissible_products_obey.Goals as goal

pub returns : goal.returns
returns c = admissible_obeys
