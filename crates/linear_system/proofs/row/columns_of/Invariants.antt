use Rattle.linear_system.specs.Setting.{may_hold}
use Rattle.linear_system.proofs.Columns.{AreTaken}
use Rattle.linear_system.proofs.row.columns_of.Given as goal

abbrev pub invariant-loop-col : goal.invariant-loop-col
invariant-loop-col l = AreTaken (may_hold l.links l.row) l.dim l.col l.columns.items
