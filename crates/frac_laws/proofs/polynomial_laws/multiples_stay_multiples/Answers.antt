use Rattle.frac_laws.proofs.Polynomials.{shifted-scale_list, stretched-scale_list}
use Rattle.frac_laws.proofs.polynomial_laws.multiples_stay_multiples.Goals as goal

pub returns-clause-shifts : goal.returns-clause-shifts
returns-clause-shifts c = shifted-scale_list

pub returns-clause-stretches : goal.returns-clause-stretches
returns-clause-stretches c = stretched-scale_list
