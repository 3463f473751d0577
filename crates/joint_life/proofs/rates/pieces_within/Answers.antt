use Rattle.std.proofs.Common.{[], ap, ◌∙◌}
use Rattle.std.specs.Prelude.{Vec}
use Rattle.std.specs.declared.alloc.Global.{Global}
use Rattle.curve_pieces.specs.declared.piece.Piece.{Piece}
use Rattle.curve_pieces.specs.Records.{records_of}
use Rattle.joint_life.proofs.KeptPieces.{piece_is_kept, piece_is_passed}
use Rattle.joint_life.proofs.rates.pieces_within.Goals as goal
use Rattle.joint_life.proofs.rates.pieces_within.Goals.{then-pieces-i+in_ok-push, else-pieces-i}

pub loop-i-preserved : goal.loop-i-preserved
loop-i-preserved c =
    let none : Piece = record { from = 0; c = [] } in
    elim c.if-pieces-i.branch [
      | then-pieces-i+in_ok-push w ↦
          ap (λ (kept : Vec Piece Global). records_of kept.items) w.kept-is ∙ ap records_of w.in_ok-push.ensures.items
          ∙ piece_is_kept c.args.months c.args.pieces.now c.loop-i.kept.items c.loop-i.i none c.loop-i-test.true
          w.if-pieces-i.true c.loop-i.invariant
      | else-pieces-i w ↦
          ap (λ (kept : Vec Piece Global). records_of kept.items) w.kept-is
          ∙ piece_is_passed c.args.months c.args.pieces.now c.loop-i.kept.items c.loop-i.i none c.loop-i-test.true
          w.if-pieces-i.false c.loop-i.invariant
    ]
