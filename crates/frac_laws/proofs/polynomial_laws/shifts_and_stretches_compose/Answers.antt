use Rattle.frac_laws.proofs.Polynomials.{shifted-shifted, stretched-stretched, shifted-stretched}
use Rattle.frac_laws.proofs.polynomial_laws.shifts_and_stretches_compose.Goals as goal

pub returns-clause-shifts : goal.returns-clause-shifts
returns-clause-shifts c = shifted-shifted

pub returns-clause-stretches : goal.returns-clause-stretches
returns-clause-stretches c = stretched-stretched

pub returns-clause-passing : goal.returns-clause-passing
returns-clause-passing c = shifted-stretched
