use Rattle.std.proofs.Common.{ap}
use Rattle.std.proofs.lemmas.Str.{IsUtf8-from_ascii}
use Rattle.row_sheets.specs.Sheets.{text}
use Rattle.answer_sheets.proofs.fields.ascii_field.Goals as goal

pub returns : goal.returns
returns c = ap text (c.in_ok-from_utf8_lossy.ensures.ok (IsUtf8-from_ascii _ c.requires))
