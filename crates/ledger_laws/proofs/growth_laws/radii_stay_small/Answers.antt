use Rattle.ledger_laws.proofs.GrowthFacts.{radii_small, radius_back, radii_small_inside}
use Rattle.ledger_laws.proofs.growth_laws.radii_stay_small.Goals as goal

pub returns-clause-dates : goal.returns-clause-dates
returns-clause-dates c = radii_small

pub returns-clause-goes_back : goal.returns-clause-goes_back
returns-clause-goes_back c = radius_back

pub returns-clause-inside : goal.returns-clause-inside
returns-clause-inside c = radii_small_inside
