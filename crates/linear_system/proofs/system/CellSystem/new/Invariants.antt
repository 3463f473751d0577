use Rattle.linear_system.proofs.Rows.{AreRows}
use Rattle.linear_system.proofs.system.CellSystem.new.Given as goal

abbrev pub invariant-loop-row : goal.invariant-loop-row
invariant-loop-row l = AreRows l.links l.dim l.degree l.row l.rows.items
