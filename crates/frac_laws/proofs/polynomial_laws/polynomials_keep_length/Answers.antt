use Rattle.frac_laws.proofs.Polynomials.{length-shifted, length-stretched}
use Rattle.frac_laws.proofs.polynomial_laws.polynomials_keep_length.Goals as goal

pub returns-clause-shifts : goal.returns-clause-shifts
returns-clause-shifts c = length-shifted

pub returns-clause-stretches : goal.returns-clause-stretches
returns-clause-stretches c = length-stretched
