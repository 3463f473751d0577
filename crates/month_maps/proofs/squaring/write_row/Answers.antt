use Rattle.std.proofs.Common.{◌+◌, ◌*◌, ◌<◌, length, refl, arith}
use Rattle.month_maps.specs.StoredMap.{zero_interval}
use Rattle.month_maps.proofs.WrittenRows.{has_row-more, product_of_zero, place_inside}
use Rattle.month_maps.proofs.squaring.write_row.Goals as goal

pub loop-col-preserved : goal.loop-col-preserved
loop-col-preserved c =
    let place = place_inside c.args.row c.loop-col.col c.args.dim c.requires.row c.loop-col-test.true in
    let in_range : c.args.row * c.args.dim + c.loop-col.col < length c.loop-col.next = omega arith in
    let product = product_of_zero c.args.dim c.args.numbers.now c.args.row c.loop-col.col zero_interval
    c.row_product.result refl refl c.row_product.ensures.lo
    c.row_product.ensures.hi in
    has_row-more c.args.dim c.args.numbers.now c.args.row c.args.next.now c.loop-col.next c.loop-col.col
    c.row_product.result c.loop-col.invariant in_range product
