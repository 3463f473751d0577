-- A law of polynomials in the form of its statement.
use Rattle.frac_laws.specs.PolynomialLaws.{DenominatorIsFactor}
use Rattle.frac_laws.proofs.Polynomials.{all_over-factor}

pub denominator : DenominatorIsFactor
denominator d ns = all_over-factor d ns
