use Rattle.std.proofs.Common.{◌≡◌, ◌*◌}
use Rattle.whole_laws.specs.Whole.{list_of}
use Rattle.basis_compare.specs.Differences.{change_at}
use Rattle.basis_compare.proofs.differences.rows_of.Given as goal

abbrev pub invariant-loop-place : goal.invariant-loop-place
invariant-loop-place l = l.rows.items ≡ list_of (3 * l.place) (change_at l.a l.h l.b)
