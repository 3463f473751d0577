use Rattle.shift_laws.proofs.Shifts.{first_of_shifted, sums_of_shifted}
use Rattle.shift_laws.proofs.shift_laws.shifts_take_values.Goals as goal

pub returns-clause-first : goal.returns-clause-first
returns-clause-first c = first_of_shifted

pub returns-clause-sums : goal.returns-clause-sums
returns-clause-sums c = sums_of_shifted
