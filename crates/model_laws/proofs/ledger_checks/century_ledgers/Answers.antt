use Rattle.model_laws.proofs.CenturyInstances.{century_scales, costs}
use Rattle.model_laws.proofs.RingInstances.{ring_scale}
use Rattle.model_laws.proofs.ledger_checks.century_ledgers.Goals as goal

pub returns-clause-scales : goal.returns-clause-scales
returns-clause-scales c = century_scales

pub returns-clause-ring : goal.returns-clause-ring
returns-clause-ring c = ring_scale

pub returns-clause-costs : goal.returns-clause-costs
returns-clause-costs c = costs
