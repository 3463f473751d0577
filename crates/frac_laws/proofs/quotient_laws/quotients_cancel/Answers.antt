use Rattle.frac_laws.proofs.QuotientFacts.{cancel}
use Rattle.frac_laws.proofs.quotient_laws.quotients_cancel.Goals as goal

pub returns : goal.returns
returns c = cancel
