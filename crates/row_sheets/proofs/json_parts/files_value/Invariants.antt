use Rattle.std.proofs.Common.{◌≡◌, take, map}
use Rattle.io_ports.specs.Given.{evidence_of}
use Rattle.serde_json.specs.View.{view}
use Rattle.row_sheets.specs.JsonText.{file_tree}
use Rattle.row_sheets.proofs.json_parts.files_value.Given as goal

abbrev pub invariant-loop-i : goal.invariant-loop-i
invariant-loop-i l = map view l.items.items ≡ map file_tree (evidence_of (take l.i l.files))
