use Rattle.std.proofs.Common.{◌*ℤ◌, [], sym, arith, subst, FitsSigned}
use Rattle.std.specs.Int.{w64, w128}
use Rattle.std.proofs.lemmas.Int.{to_z-of_z}
use Rattle.curve_pieces.specs.declared.piece.Piece.{Piece}
use Rattle.std.proofs.lemmas.List.{length-map}
use Rattle.model_specs.specs.Curve as model
use Rattle.curve_pieces.specs.Records.{record_of, records_of}
use Rattle.product_reader.proofs.Grown.{all_made}
use Rattle.file_changes.specs.ContinuousAsks.{AreWords}
use Rattle.file_changes.specs.BasisChanges.{changed_piece}
use Rattle.file_changes.proofs.Pieces.{piece_more, words_more, piece_is_too_large}
use Rattle.file_changes.proofs.curves.changed_pieces.Goals as goal

pub returns-in-None-clause-too_large : goal.returns-in-None-clause-too_large
returns-in-None-clause-too_large c =
    let none : Piece = record { from = 0; c = [] } in
    let factor : FitsSigned w128 c.args.factor = c.ranges.factor in
    let units : FitsSigned w128 c.args.units = c.ranges.units in
    let den : FitsSigned w64 c.args.den = c.ranges.den in
    let wide = simp to_z-of_z at c.in-None.ensures.too_large in
    piece_is_too_large c.args.factor (c.args.units *ℤ c.args.den) c.args.pieces.now c.loop-i.i none
    c.loop-i-test.true wide

pub loop-i-preserved : goal.loop-i-preserved
loop-i-preserved c =
    let none : Piece = record { from = 0; c = [] } in
    rw c.in_ok-push-in-Some.ensures.items (record {
      made = piece_more _ _ c.args.pieces.now c.loop-i.changed.items c.loop-i.i none c.in-Some.piece
          c.loop-i.invariant.made c.in-Some.ensures.changed c.loop-i-test.true;
      words = words_more c.loop-i.changed.items c.in-Some.piece c.loop-i.invariant.words
          (subst (λ (piece : model.Piece). AreWords piece.c) (sym c.in-Some.ensures.changed) c.in-Some.ensures.words);
    })

pub returns-clause-changed : goal.returns-clause-changed
returns-clause-changed c =
    let factor : FitsSigned w128 c.args.factor = c.ranges.factor in
    let units : FitsSigned w128 c.args.units = c.ranges.units in
    let den : FitsSigned w64 c.args.den = c.ranges.den in
    let made = simp to_z-of_z at c.loop-i.invariant.made in
    all_made (changed_piece c.args.factor (c.args.units *ℤ c.args.den)) (records_of c.args.pieces.now) c.loop-i.i _ made
    (omega (arith, c.loop-i-test.false, length-map c.args.pieces.now record_of))
