use Rattle.shift_laws.proofs.Shifts.{products_shift, derivatives_shift}
use Rattle.shift_laws.proofs.shift_laws.shifts_keep_products.Goals as goal

pub returns-clause-products : goal.returns-clause-products
returns-clause-products c = products_shift

pub returns-clause-derivatives : goal.returns-clause-derivatives
returns-clause-derivatives c = derivatives_shift
