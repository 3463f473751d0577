use Rattle.std.proofs.Common.{◌≡◌, ◌+◌, ◌≤◌, fold, take}
use Rattle.refusal_words.specs.TomlTexts.{next_column}
use Rattle.refusal_words.proofs.toml_texts.column_after.Given as goal

-- the column behind the bytes so far
abbrev pub invariant-loop-b : goal.invariant-loop-b
invariant-loop-b l = (l.column ≡ fold next_column 1 (take l.b-index l.before)) × (l.column ≤ l.b-index + 1)
