use Rattle.std.proofs.Common.{length}
use Rattle.month_maps.proofs.Columns.{HasColumn}
use Rattle.month_maps.proofs.starting.write_column.Given as goal

abbrev pub invariant-loop-row : goal.invariant-loop-row
invariant-loop-row l = HasColumn (length l.origin) l.origin l.column l.col l.initial.numbers l.numbers l.row
