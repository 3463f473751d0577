use Rattle.std.proofs.Common.{◌≡◌, ℕ, ◌<◌, length, get_or}
use Rattle.model_specs.specs.Curve.{zero_piece}
use Rattle.curve_pieces.specs.Records.{records_of}
use Rattle.curve_pieces.proofs.rules.have_six.Given as goal

-- the pieces so far have six
abbrev pub invariant-loop-piece : goal.invariant-loop-piece
invariant-loop-piece l =
    (k : ℕ) → k < l.piece-index → length (get_or (records_of l.pieces) k zero_piece).c ≡ 6
