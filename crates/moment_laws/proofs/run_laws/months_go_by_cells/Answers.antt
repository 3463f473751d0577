use Rattle.moment_laws.proofs.MonthCells.{months_go_by_cells}
use Rattle.moment_laws.proofs.SecondMoments.{moments_go_by_cells}
use Rattle.moment_laws.proofs.run_laws.months_go_by_cells.Goals as goal

pub returns-clause-first : goal.returns-clause-first
returns-clause-first c = months_go_by_cells

pub returns-clause-both : goal.returns-clause-both
returns-clause-both c = moments_go_by_cells
