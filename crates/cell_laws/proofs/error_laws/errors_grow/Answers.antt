use Rattle.cell_laws.proofs.Errors.{errors_grow, errors_grow_by_kappa, second_errors_grow}
use Rattle.cell_laws.proofs.error_laws.errors_grow.Goals as goal

pub returns-clause-any_degree : goal.returns-clause-any_degree
returns-clause-any_degree c = errors_grow

pub returns-clause-above_all_powers : goal.returns-clause-above_all_powers
returns-clause-above_all_powers c = errors_grow_by_kappa

pub returns-clause-second : goal.returns-clause-second
returns-clause-second c = second_errors_grow
