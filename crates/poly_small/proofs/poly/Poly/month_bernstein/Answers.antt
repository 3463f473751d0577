use Rattle.frac_laws.specs.Polynomials.{all_over}
use Rattle.poly_small.specs.WholePolynomials.{in_units_of}
use Rattle.poly_small.proofs.Months.{month_coefficients, month_sizes, units_within, shift_within, bernstein_within}
use Rattle.poly_small.proofs.poly.Poly.month_bernstein.Goals as goal

pub in_units-requires-clause-fits : goal.in_units-requires-clause-fits
in_units-requires-clause-fits c = units_within (in_units_of 12 c.args.self.now.c) c.args.k c.requires

pub shift-requires : goal.shift-requires
shift-requires c =
    shift_within (in_units_of 12 c.args.self.now.c) c.in_units.result.c c.args.k c.in_units.ensures.coefficients
    c.requires

pub bernstein-requires : goal.bernstein-requires
bernstein-requires c =
    bernstein_within (in_units_of 12 c.args.self.now.c) c.in_units.result.c c.shift.result.c c.args.k
    c.in_units.ensures.coefficients c.shift.ensures.size c.requires

pub returns-clause-polynomial : goal.returns-clause-polynomial
returns-clause-polynomial c =
    month_coefficients c.in_units.result.c c.shift.result.c c.bernstein.result (λ den. all_over den c.args.self.now.c)
    c.args.k c.bernstein.ensures.polynomial c.shift.ensures.polynomial c.in_units.ensures.polynomial

pub returns-clause-size : goal.returns-clause-size
returns-clause-size c =
    month_sizes (in_units_of 12 c.args.self.now.c) c.in_units.result.c c.shift.result.c c.bernstein.result c.args.k
    c.in_units.ensures.coefficients c.shift.ensures.size c.bernstein.ensures.size
