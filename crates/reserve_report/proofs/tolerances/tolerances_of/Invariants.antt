use Rattle.std.proofs.Common.{◌≡◌, map, take}
use Rattle.model_specs.specs.Rows.{tolerance}
use Rattle.reserve_report.specs.Reports.{row_of}
use Rattle.reserve_report.proofs.tolerances.tolerances_of.Given as goal

abbrev pub invariant-loop-row : goal.invariant-loop-row
invariant-loop-row l =
    l.tolerances.items ≡ map (λ row. tolerance l.adm (row_of row)) (take l.row-index l.rows)
