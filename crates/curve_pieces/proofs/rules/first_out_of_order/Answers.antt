use Rattle.std.proofs.Common.{◌<◌, length, arith, below_more}
use Rattle.curve_pieces.specs.Records.{record_of, starts_of}
use Rattle.curve_pieces.proofs.ItemStarts.{length-starts}
use Rattle.curve_pieces.proofs.OrderedStarts.{next_place_fits}
use Rattle.curve_pieces.proofs.rules.first_out_of_order.Goals as goal

pub overflow_add-index : goal.overflow_add-index
overflow_add-index c =
    let so_far = below_more _ _ c.loop-i.invariant.1 (c.is_in_order.ensures.0 c.if-not-is_in_order.false) in
    let inside : c.loop-i.i < length (starts_of c.args.pieces.now) =
    omega (arith, length-starts record_of c.args.pieces.now, c.loop-i-test.true) in
    omega (
      arith,
      next_place_fits (starts_of c.args.pieces.now) c.args.months c.loop-i.i so_far inside,
      c.loop-i.invariant.0,
    )
