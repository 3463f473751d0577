use Rattle.frac_laws.proofs.Polynomials.{value_at-add_lists, value_at-scale_list, value_at-shifted}
use Rattle.frac_laws.proofs.Polynomials.{value_at-stretched, value_at-reflected}
use Rattle.frac_laws.proofs.polynomial_laws.polynomials_take_values.Goals as goal

pub returns-clause-sums : goal.returns-clause-sums
returns-clause-sums c = value_at-add_lists

pub returns-clause-multiples : goal.returns-clause-multiples
returns-clause-multiples c = value_at-scale_list

pub returns-clause-shifts : goal.returns-clause-shifts
returns-clause-shifts c = value_at-shifted

pub returns-clause-stretches : goal.returns-clause-stretches
returns-clause-stretches c = value_at-stretched

pub returns-clause-reflections : goal.returns-clause-reflections
returns-clause-reflections c = value_at-reflected
