use Rattle.std.proofs.Common.{◌≡◌, take, map, string_bytes}
use Rattle.serde_json.specs.Data.{string}
use Rattle.serde_json.specs.View.{view}
use Rattle.row_sheets.proofs.json_parts.words_value.Given as goal

abbrev pub invariant-loop-i : goal.invariant-loop-i
invariant-loop-i l = map view l.items.items ≡ map string (map string_bytes (take l.i l.words))
