-- The months at which items start, each of which stands for a piece.
use Rattle.std.specs.Prelude.{ℕ, List, map}
use Rattle.model_specs.specs.Curve.{Piece}
use Rattle.model_specs.specs.RecordRules.{piece_starts}

-- the start of each item
abbrev pub starts_as : {A : Type 0} → (A → Piece) → List A → List ℕ
starts_as as_piece items = piece_starts (map as_piece items)
