use Rattle.product_laws.proofs.ProductTame.{thiele_cells_are_tame}
use Rattle.product_laws.proofs.PowerNorms.{powers_are_small}
use Rattle.product_laws.proofs.ProductTame.{kolmogorov_cells_are_tame}
use Rattle.product_laws.proofs.ProductPairs.{norberg_pairs_are_tame}
use Rattle.product_laws.proofs.tame_cells.product_cells_are_tame.Goals as goal

pub returns-clause-thiele : goal.returns-clause-thiele
returns-clause-thiele c = thiele_cells_are_tame

pub returns-clause-powers : goal.returns-clause-powers
returns-clause-powers c = powers_are_small

pub returns-clause-kolmogorov : goal.returns-clause-kolmogorov
returns-clause-kolmogorov c = kolmogorov_cells_are_tame

pub returns-clause-norberg : goal.returns-clause-norberg
returns-clause-norberg c = norberg_pairs_are_tame
