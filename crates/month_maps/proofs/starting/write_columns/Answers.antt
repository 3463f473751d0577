use Rattle.std.proofs.Common.{◌≡◌, ◌≢◌, ℕ, ◌+◌, ◌*◌, ◌<◌, ◌-ℤ◌, pos, rules, subst}
use Rattle.std.specs.Prelude.{slice_index_or}
use Rattle.linear_system.specs.StoredSystem.{dim_of}
use Rattle.month_maps.specs.MadeMaps.{IsAround}
use Rattle.month_maps.specs.StoredMap.{interval_at}
use Rattle.month_maps.proofs.MadeCells.{holds_columns_more}
use Rattle.month_maps.proofs.starting.write_columns.Goals as goal

pub loop-col-preserved : goal.loop-col-preserved
loop-col-preserved g c =
    let s = c.args.sys.now in
    let origin = c.args.origin.now in
    let column = c.step_from.new.mid in
    let col = c.loop-col.col in
    let old = c.loop-col.numbers in
    let new = c.write_column.new.numbers in
    let in_range : c.loop-col.col < dim_of c.args.sys.now =
    subst (λ n. c.loop-col.col < n) c.requires.origin c.loop-col-test.true in
    let done = subst (λ n. (row : ℕ) → row < n → IsAround 32
    (slice_index_or c.step_from.new.mid row (pos 0) -ℤ slice_index_or c.args.origin.now row (pos 0))
    (interval_at c.write_column.new.numbers (row * n + c.loop-col.col))) c.requires.origin c.write_column.ensures.done
    in
    let others = subst (λ n. (row other : ℕ) → row < n → other < n → other ≢ c.loop-col.col
    → interval_at c.write_column.new.numbers (row * n + other) ≡ interval_at c.loop-col.numbers (row * n + other))
    c.requires.origin c.write_column.ensures.others in (
      search rules,
      holds_columns_more s origin column col old new c.requires.from c.step_from.ensures.from in_range
          c.loop-col.invariant.1 done others,
      search rules,
      search rules,
    )
