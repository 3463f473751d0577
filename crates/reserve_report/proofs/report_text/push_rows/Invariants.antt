use Rattle.std.proofs.Common.{◌≡◌, ◌++◌, take}
use Rattle.reserve_report.specs.ReportText.{row_lines}
use Rattle.reserve_report.proofs.report_text.push_rows.Given as goal

abbrev pub invariant-loop-i : goal.invariant-loop-i
invariant-loop-i l =
    l.out.items ≡ l.fn.out.items ++ row_lines l.product (take l.i l.rows) (take l.i l.tolerances)
