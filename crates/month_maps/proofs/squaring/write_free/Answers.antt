use Rattle.std.proofs.Common.{◌<◌, ◌∙◌, length, arith}
use Rattle.month_maps.specs.StoredMap.{zero_interval, IsFreeProduct}
use Rattle.month_maps.proofs.RowProducts.{inside}
use Rattle.month_maps.proofs.WrittenRows.{intervals_more, free_product}
use Rattle.month_maps.proofs.squaring.write_free.Goals as goal

pub loop-row-preserved : goal.loop-row-preserved
loop-row-preserved c =
    let in_range : c.loop-row.row < length c.loop-row.next = omega arith in
    let in_free : c.loop-row.row < length c.args.free.now = omega arith in
    let start = c.index-free-row.is ∙ inside c.args.free.now c.loop-row.row c.index-free-row.result zero_interval
    in_free in
    let product = free_product c.args.dim c.args.numbers.now c.args.free.now c.loop-row.row c.index-free-row.result
    c.row_product.result start c.row_product.ensures.lo c.row_product.ensures.hi in
    intervals_more (IsFreeProduct c.args.dim c.args.numbers.now c.args.free.now) c.loop-row.next c.loop-row.row
    c.row_product.result c.loop-row.invariant in_range product
