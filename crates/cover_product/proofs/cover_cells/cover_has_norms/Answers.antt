use Rattle.cover_product.proofs.CoverNorms.{thiele_norms, second_norms, coupling_norms, kolmogorov_norms}
use Rattle.cover_product.proofs.cover_cells.cover_has_norms.Goals as goal

pub returns-clause-thiele : goal.returns-clause-thiele
returns-clause-thiele c = thiele_norms

pub returns-clause-second : goal.returns-clause-second
returns-clause-second c = second_norms

pub returns-clause-coupling : goal.returns-clause-coupling
returns-clause-coupling c = coupling_norms

pub returns-clause-kolmogorov : goal.returns-clause-kolmogorov
returns-clause-kolmogorov c = kolmogorov_norms
