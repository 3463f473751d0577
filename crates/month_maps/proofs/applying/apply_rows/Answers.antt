use Rattle.std.proofs.Common.{◌≡◌, ◌+◌, ◌-◌, ◌*◌, ◌+ℤ◌, ◌<◌, ◌∙◌, pos, length, get_or, FitsSigned, rules, arith}
use Rattle.std.specs.Int.{w128}
use Rattle.std.proofs.lemmas.Int.{to_z-of_z}
use Rattle.frac_laws.specs.Rounding.{floor_of}
use Rattle.map_laws.specs.Applied.{lo_at, hi_at}
use Rattle.month_maps.specs.StoredMap.{interval_map, zero_interval}
use Rattle.month_maps.proofs.RowProducts.{inside}
use Rattle.month_maps.proofs.AppliedRows.{middle_is, numbers_more}
use Rattle.month_maps.proofs.applying.apply_rows.Goals as goal

pub loop-row-preserved : goal.loop-row-preserved
loop-row-preserved c =
    let numbers = c.args.numbers.now in
    let free = c.args.free.now in
    let old = c.args.old.now in
    let middle_fits : FitsSigned w128 c.row_middle.result = search rules in
    let in_range : c.loop-row.row < length c.loop-row.new = omega arith in
    let in_free : c.loop-row.row < length c.args.free.now = omega arith in
    let start = c.index-free-row.is ∙ inside free c.loop-row.row c.index-free-row.result zero_interval in_free in
    let long : c.loop-row.row * c.args.dim + c.args.dim - c.loop-row.row * c.args.dim ≡ c.args.dim = omega arith in
    let result = rw long at c.row_middle.ensures in
    let middle = middle_is numbers free old c.loop-row.row c.args.dim c.index-free-row.result c.row_middle.result
    c.requires.numbers c.requires.old c.loop-row-test.true start result in
    simp to_z-of_z (numbers_more c.loop-row.new c.loop-row.row c.row_middle.result
    (λ row. floor_of (lo_at c.args.dim (interval_map c.args.dim c.args.numbers.now c.args.free.now)
    (λ col. get_or c.args.old.now col (pos 0)) row
    +ℤ hi_at c.args.dim (interval_map c.args.dim c.args.numbers.now c.args.free.now)
    (λ col. get_or c.args.old.now col (pos 0)) row) (pos 2))
    c.loop-row.invariant in_range middle)
