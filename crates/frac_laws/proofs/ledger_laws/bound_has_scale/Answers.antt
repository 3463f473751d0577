use Rattle.frac_laws.proofs.LedgerFacts.{scale_found}
use Rattle.frac_laws.proofs.ledger_laws.bound_has_scale.Goals as goal

pub returns : goal.returns
returns c = scale_found
