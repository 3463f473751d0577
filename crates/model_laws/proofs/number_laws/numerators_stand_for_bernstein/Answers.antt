use Rattle.model_laws.proofs.MonthCoefficients.{curve_numerators_stand, payment_numerators_stand}
use Rattle.model_laws.proofs.number_laws.numerators_stand_for_bernstein.Goals as goal

pub returns-clause-curve : goal.returns-clause-curve
returns-clause-curve c = curve_numerators_stand

pub returns-clause-payment : goal.returns-clause-payment
returns-clause-payment c = payment_numerators_stand
