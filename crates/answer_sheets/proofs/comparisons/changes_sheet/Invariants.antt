use Rattle.std.proofs.Common.{◌≡◌, map, take}
use Rattle.answer_sheets.specs.ChangesSheet.{change_row, changes_head}
use Rattle.answer_sheets.proofs.comparisons.changes_sheet.Given as goal

abbrev pub invariant-loop-i : goal.invariant-loop-i
invariant-loop-i l =
    l.sheet ≡ record { head = changes_head; rows = map (change_row l.a) (take l.i l.changes.rows.items) }
