use Rattle.model_laws.proofs.CellEquations.{thiele_system_solves}
use Rattle.model_laws.proofs.CellEquations.{norberg_pair_solves}
use Rattle.model_laws.proofs.CellEquations.{kolmogorov_system_solves}
use Rattle.model_laws.proofs.equation_laws.systems_solve_their_equations.Goals as goal

pub returns-clause-thiele : goal.returns-clause-thiele
returns-clause-thiele c = thiele_system_solves

pub returns-clause-norberg : goal.returns-clause-norberg
returns-clause-norberg c = norberg_pair_solves

pub returns-clause-kolmogorov : goal.returns-clause-kolmogorov
returns-clause-kolmogorov c = kolmogorov_system_solves
