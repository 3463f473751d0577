use Rattle.std.proofs.Common.{◌≡◌}
use Rattle.model_specs.specs.Ledgers.{grow_cells, second_grow_cells}
use Rattle.rate_bounds.proofs.cells.second_grow_cells.Given as goal

-- the radii after the cells so far
abbrev pub invariant-loop-cell : goal.invariant-loop-cell
invariant-loop-cell l = record {
  first : l.w ≡ grow_cells l.kappa40 1024 l.radius l._cell;
  second : l.second ≡ second_grow_cells l.kappa40 l.pay1024 l.largest l.radius l.start l._cell;
}
