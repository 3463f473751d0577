use Rattle.rate_bounds.proofs.CellSteps.{one_cell_more}
use Rattle.rate_bounds.proofs.cells.grow_cells.Goals as goal

pub loop-cell-preserved : goal.loop-cell-preserved
loop-cell-preserved c =
    one_cell_more c.args.kappa40 c.args.add c.args.start c.loop-cell._cell c.loop-cell.ledger c.grow-ledger.result
    c.loop-cell.invariant c.grow-ledger.ensures
