use Rattle.cell_bounds.proofs.SmallCellsTame.{small_thiele_cells_are_tame}
use Rattle.cell_bounds.proofs.SmallCellsTame.{small_kolmogorov_cells_are_tame}
use Rattle.cell_bounds.proofs.SmallCellsTame.{small_norberg_pairs_are_tame}
use Rattle.cell_bounds.proofs.small_cells.small_cells_are_tame.Goals as goal

pub returns-clause-thiele : goal.returns-clause-thiele
returns-clause-thiele c = small_thiele_cells_are_tame

pub returns-clause-kolmogorov : goal.returns-clause-kolmogorov
returns-clause-kolmogorov c = small_kolmogorov_cells_are_tame

pub returns-clause-norberg : goal.returns-clause-norberg
returns-clause-norberg c = small_norberg_pairs_are_tame
