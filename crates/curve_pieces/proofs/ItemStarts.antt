-- The starts of items that stand for pieces, place by place.
use Rattle.std.proofs.Common.{◌≡◌, ℕ, ◌<◌, List, length, get_or, arith, ap, ◌∙◌}
use Rattle.std.specs.Prelude.{map}
use Rattle.std.proofs.lemmas.List.{length-map, get_or-map}
use Rattle.model_specs.specs.Curve.{Piece}
use Rattle.model_specs.specs.RecordRules.{piece_starts}
use Rattle.curve_pieces.specs.StartMonths.{starts_as}

pub length-piece_starts : (pieces : List Piece) → length (piece_starts pieces) ≡ length pieces
length-piece_starts pieces = length-map pieces (λ piece. piece.from)

pub length-starts : {A : Type 0} (as_piece : A → Piece) (items : List A)
    → length (starts_as as_piece items) ≡ length items
length-starts as_piece items = length-piece_starts (map as_piece items) ∙ length-map items as_piece

-- the piece at a place is the item's
pub piece-at : {A : Type 0} (as_piece : A → Piece) (items : List A) (i : ℕ) (none : A) (other : Piece)
    → i < length items → get_or (map as_piece items) i other ≡ as_piece (get_or items i none)
piece-at as_piece items i none other inside = get_or-map as_piece items i none other inside

pub start-at : {A : Type 0} (as_piece : A → Piece) (items : List A) (i : ℕ) (none : A) → i < length items
    → get_or (starts_as as_piece items) i 0 ≡ (as_piece (get_or items i none)).from
start-at as_piece items i none inside =
    get_or-map (λ piece. piece.from) (map as_piece items) i (as_piece none) 0 (omega (arith, length-map items as_piece))
    ∙ ap (λ piece. piece.from) (piece-at as_piece items i none (as_piece none) inside)
