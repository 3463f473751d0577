use Rattle.probability_laws.proofs.ForwardCells.{forward_cells_are_small}
use Rattle.probability_laws.proofs.HalfSquare.{small_forward_cells_grow_little}
use Rattle.probability_laws.proofs.probabilities.forward_cells_grow_little.Goals as goal

pub returns-clause-cells : goal.returns-clause-cells
returns-clause-cells c = forward_cells_are_small

pub returns-clause-growth : goal.returns-clause-growth
returns-clause-growth c = small_forward_cells_grow_little
