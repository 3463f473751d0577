use Rattle.std.proofs.Common.{◌≡◌, take, map}
use Rattle.serde_json.specs.View.{view}
use Rattle.row_sheets.specs.JsonText.{row_tree}
use Rattle.row_sheets.specs.Sheets.{names_of, rows_of}
use Rattle.row_sheets.proofs.json_parts.rows_value.Given as goal

abbrev pub invariant-loop-i : goal.invariant-loop-i
invariant-loop-i l = map view l.items.items ≡ map (row_tree (names_of l.head)) (rows_of (take l.i l.rows))
