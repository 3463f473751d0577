use Rattle.std.proofs.Common.{◌≡◌, take}
use Rattle.serde_json.specs.Data.{no_members}
use Rattle.serde_json.specs.View.{members_view}
use Rattle.row_sheets.specs.JsonText.{with_cells}
use Rattle.row_sheets.specs.Sheets.{cells_of, names_of}
use Rattle.row_sheets.proofs.json_parts.row_value.Given as goal

abbrev pub invariant-loop-i : goal.invariant-loop-i
invariant-loop-i l =
    members_view l.members.entries ≡ with_cells no_members (names_of (take l.i l.head)) (cells_of (take l.i l.row))
