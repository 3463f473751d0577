use Rattle.shift_laws.proofs.Shifts.{shifted_sizes}
use Rattle.shift_laws.proofs.shift_laws.shifts_keep_sizes.Goals as goal

pub returns : goal.returns
returns c = shifted_sizes
