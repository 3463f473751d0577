use Rattle.std.proofs.Common.{◌≡◌}
use Rattle.whole_laws.specs.Whole.{list_of}
use Rattle.reserve_report.specs.TableRows.{row_at}
use Rattle.reserve_report.proofs.table_rows.rows_of.Given as goal

abbrev pub invariant-loop-place : goal.invariant-loop-place
invariant-loop-place l = l.rows.items ≡ list_of l.place (row_at l.what l.t)
