use Rattle.std.proofs.Common.{◌≡◌, take}
use Rattle.answer_sheets.specs.ReportSheet.{report_head, report_rows}
use Rattle.answer_sheets.proofs.reports.report_sheet.Given as goal

abbrev pub invariant-loop-i : goal.invariant-loop-i
invariant-loop-i l =
    l.sheet ≡ record {
      head = report_head;
      rows = report_rows l.product (take l.i l.report.rows.items) (take l.i l.report.tolerance.items);
    }
