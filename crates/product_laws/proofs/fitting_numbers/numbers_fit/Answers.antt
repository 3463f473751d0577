use Rattle.product_laws.proofs.FittingNumbers.{numbers_fit}
use Rattle.product_laws.proofs.fitting_numbers.numbers_fit.Goals as goal

pub returns : goal.returns
returns c = numbers_fit
