use Rattle.std.proofs.Common.{◌*◌, ◌+◌}
use Rattle.taylor_step.proofs.Rows.{AreStrips}
use Rattle.taylor_step.proofs.work.Work.new.Given as goal

abbrev pub invariant-loop-row : goal.invariant-loop-row
invariant-loop-row l = AreStrips l.strips.items (36 * (l.dim + 1)) l._row
