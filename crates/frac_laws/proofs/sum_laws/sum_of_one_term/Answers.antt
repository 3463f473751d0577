use Rattle.frac_laws.proofs.SumFacts.{one_term}
use Rattle.frac_laws.proofs.sum_laws.sum_of_one_term.Goals as goal

pub returns : goal.returns
returns c = one_term
