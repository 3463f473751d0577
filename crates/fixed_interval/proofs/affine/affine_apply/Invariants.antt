use Rattle.fixed_interval.proofs.Rows.{IsPartialRow}
use Rattle.fixed_interval.proofs.affine.affine_apply.Given as goal

abbrev pub invariant-loop-i : goal.invariant-loop-i
invariant-loop-i l = IsPartialRow l.row l.mid l.free l.sum l.i-iterator.a.rest.now l.i-iterator.b.rest.now
