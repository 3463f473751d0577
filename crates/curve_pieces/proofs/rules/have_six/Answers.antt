use Rattle.std.proofs.Common.{◌≡◌, arith, ap, ◌∙◌, below_more, length}
use Rattle.std.proofs.lemmas.List.Elements.{All-from_get_or}
use Rattle.std.proofs.lemmas.List.{length-map}
use Rattle.model_specs.specs.Curve.{zero_piece}
use Rattle.curve_pieces.specs.Records.{record_of, records_of}
use Rattle.curve_pieces.proofs.ItemStarts.{piece-at}
use Rattle.curve_pieces.proofs.rules.have_six.Goals as goal

pub loop-piece-preserved : goal.loop-piece-preserved
loop-piece-preserved c =
    below_more _ _ c.loop-piece.invariant
    (ap (λ piece. length piece.c)
    (piece-at record_of c.args.pieces.now c.loop-piece.piece-index _ zero_piece (omega arith))
    ∙ c.first_coefficient-first.ensures)

pub returns : goal.returns
returns c =
    All-from_get_or (λ piece. length piece.c ≡ 6) (records_of c.args.pieces.now) zero_piece
    (λ k inside. c.loop-piece.invariant k (omega (arith, length-map c.args.pieces.now record_of)))
