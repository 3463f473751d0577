use Rattle.limit_laws.proofs.ReserveModulus.{plan_reserves_converge, pattern_reserves_converge}
use Rattle.limit_laws.proofs.modulus.reserves_converge.Goals as goal

pub returns-clause-payments : goal.returns-clause-payments
returns-clause-payments c = plan_reserves_converge

pub returns-clause-pattern : goal.returns-clause-pattern
returns-clause-pattern c = pattern_reserves_converge
