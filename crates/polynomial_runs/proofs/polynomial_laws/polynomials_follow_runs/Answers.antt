use Rattle.polynomial_runs.proofs.Following.{polynomials_follow_cells}
use Rattle.polynomial_runs.proofs.MonthSteps.{polynomials_follow_months}
use Rattle.polynomial_runs.proofs.polynomial_laws.polynomials_follow_runs.Goals as goal

pub returns-clause-cell : goal.returns-clause-cell
returns-clause-cell c = polynomials_follow_cells

pub returns-clause-month : goal.returns-clause-month
returns-clause-month c = polynomials_follow_months
