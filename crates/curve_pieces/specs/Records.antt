-- Pieces as the plain records of a product.
use Rattle.std.specs.Prelude.{ℕ, List, map}
use Rattle.model_specs.specs.Curve as model
use Rattle.model_specs.specs.RecordRules.{piece_starts}
use Rattle.curve_pieces.specs.declared.piece.Piece.{Piece}

-- a piece as a plain record
abbrev pub record_of : Piece → model.Piece
record_of p = record { from = p.from; c = p.c }

-- the pieces as plain records
abbrev pub records_of : List Piece → List model.Piece
records_of pieces = map record_of pieces

-- the months at which they start
abbrev pub starts_of : List Piece → List ℕ
starts_of pieces = piece_starts (records_of pieces)
