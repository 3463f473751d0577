use Rattle.linear_system.proofs.Clearing.{AreCleared}
use Rattle.linear_system.proofs.system.clear_rows.Given as goal

abbrev pub invariant-loop-i : goal.invariant-loop-i
invariant-loop-i l = AreCleared l.rows l.initial.rows l.i
