use Rattle.std.proofs.Common.{◌≡◌, ◌*◌}
use Rattle.whole_laws.specs.Whole.{list_of}
use Rattle.reserve_report.specs.TableRows.{moment_row_at}
use Rattle.reserve_report.proofs.table_rows.moment_rows.Given as goal

abbrev pub invariant-loop-place : goal.invariant-loop-place
invariant-loop-place l = l.rows.items ≡ list_of (3 * l.place) (moment_row_at l.t)
