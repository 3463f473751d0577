use Rattle.std.proofs.Common.{◌≡◌, map, take}
use Rattle.answer_sheets.specs.TotalsSheet.{total_row, totals_head}
use Rattle.answer_sheets.proofs.portfolios.totals_sheet.Given as goal

abbrev pub invariant-loop-i : goal.invariant-loop-i
invariant-loop-i l = l.sheet ≡ record { head = totals_head; rows = map total_row (take l.i l.totals.groups.items) }
