use Rattle.rate_bounds.proofs.CellSteps.{one_cell_more, second_cell_more}
use Rattle.rate_bounds.proofs.cells.second_grow_cells.Goals as goal

pub loop-cell-preserved : goal.loop-cell-preserved
loop-cell-preserved c = record {
  first = one_cell_more c.args.kappa40 1024 c.args.radius c.loop-cell._cell c.loop-cell.w c.grow-w.result
      c.loop-cell.invariant.first c.grow-w.ensures;
  second = second_cell_more c.args.kappa40 c.args.pay1024 c.args.largest c.args.radius c.args.start c.loop-cell._cell
      c.loop-cell.second c.loop-cell.w c.div_ceil.result c.grow-second.result c.loop-cell.invariant.second
      c.loop-cell.invariant.first c.div_ceil.ensures c.grow-second.ensures;
}
