use Rattle.std.proofs.Common.{◌≡◌}
use Rattle.model_specs.specs.Ledgers.{grow_cells}
use Rattle.rate_bounds.proofs.cells.grow_cells.Given as goal

-- the ledger after the cells so far
abbrev pub invariant-loop-cell : goal.invariant-loop-cell
invariant-loop-cell l = l.ledger ≡ grow_cells l.kappa40 l.add l.start l._cell
