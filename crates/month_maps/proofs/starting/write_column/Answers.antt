use Rattle.std.proofs.Common.{◌≡◌, ◌*◌, ◌-ℤ◌, length, pos, FitsSigned, arith}
use Rattle.std.specs.Int.{w128}
use Rattle.std.specs.Prelude.{slice_index_or}
use Rattle.std.proofs.lemmas.Int.{to_z-of_z}
use Rattle.month_maps.proofs.Columns.{column_more, number_fits, difference_fits}
use Rattle.month_maps.proofs.starting.write_column.Goals as goal

pub loop-row-preserved : goal.loop-row-preserved
loop-row-preserved c =
    let long : length c.loop-row.numbers ≡ length c.args.origin.now * length c.args.origin.now = omega arith in
    let mid = slice_index_or c.args.column.now c.loop-row.row (pos 0) in
    let origin = slice_index_or c.args.origin.now c.loop-row.row (pos 0) in
    let mid_small = c.requires.column_small c.loop-row.row c.loop-row-test.true in
    let origin_small = c.requires.small c.loop-row.row c.loop-row-test.true in
    let mid_fits : FitsSigned w128 (slice_index_or c.args.column.now c.loop-row.row (pos 0)) =
    number_fits mid mid_small in
    let origin_fits : FitsSigned w128 (slice_index_or c.args.origin.now c.loop-row.row (pos 0)) =
    number_fits origin origin_small in
    let difference : FitsSigned w128 (slice_index_or c.args.column.now c.loop-row.row (pos 0)
    -ℤ slice_index_or c.args.origin.now c.loop-row.row (pos 0)) =
    difference_fits mid origin mid_small origin_small in
    let around = simp to_z-of_z at c.around.ensures in
    column_more (length c.args.origin.now) c.args.origin.now c.args.column.now c.args.col c.args.numbers.now
    c.loop-row.numbers c.loop-row.row c.around.result c.loop-row.invariant c.requires.col c.loop-row-test.true long
    around
