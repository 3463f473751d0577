use Rattle.std.proofs.Common.{◌<◌, length, arith, add-one}
use Rattle.curve_pieces.specs.Records.{record_of, starts_of}
use Rattle.curve_pieces.proofs.ItemStarts.{length-starts}
use Rattle.curve_pieces.proofs.OrderedStarts.{end_above, end_within}
use Rattle.curve_pieces.proofs.BoundedPlaces.{bounded_at}
use Rattle.curve_pieces.proofs.rules.is_bounded_at.Goals as goal

pub overflow_sub-months_held : goal.overflow_sub-months_held
overflow_sub-months_held c =
    let starts = starts_of c.args.pieces.now in
    let end = rw add-one at c.end.ensures in
    let inside : c.args.i < length (starts_of c.args.pieces.now) =
    omega (arith, length-starts record_of c.args.pieces.now, c.requires.inside) in
    omega (arith, end_above starts c.args.months c.args.i c.requires.in_order inside, end, c.start.ensures)

pub is_bounded-requires : goal.is_bounded-requires
is_bounded-requires c =
    let end = rw add-one at c.end.ensures in
    let starts = starts_of c.args.pieces.now in
    omega (arith, end_within starts c.args.months c.args.i c.requires.in_order, end, c.requires.term)

pub returns : goal.returns
returns c =
    let end = rw add-one at c.end.ensures in
    bounded_at c.args.pieces.now c.args.i c.args.months _ c.end.result c.start.result c.is_bounded.result
    c.requires.inside end c.start.ensures c.is_bounded.ensures
