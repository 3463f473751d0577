use Rattle.std.proofs.Common.{◌≡◌, ◌<◌, ◌≤◌, length, arith, refl, ap, set, length-set, drop}
use Rattle.std.proofs.lemmas.List.{take_at}
use Rattle.std.proofs.lemmas.Result.{err_from_is_err_and}
use Rattle.report_columns.proofs.Told.{next_told, next_refused, each_told}
use Rattle.report_columns.proofs.all_columns.tell_all.Goals as goal

pub loop-column-init : goal.loop-column-init
loop-column-init g c = record {
  same = ap length c.deref_mut-column-items.ensures.value;
  columns = rw c.deref_mut-column-items.ensures.value refl;
}

pub returns-in_err-tell-clause-err : goal.returns-in_err-tell-clause-err
returns-in_err-tell-clause-err g c =
    let is = err_from_is_err_and c.from_residual.result c.from_residual.ensures.1 in
    let now = set c.loop-column.column-items c.loop-column.column-index c.tell.new.column in
    let long : length now ≡ c.args.columns.now.len =
    simp length-set (omega (arith, c.loop-column.invariant.same, c.args.columns.now.ok.0)) in
    rw (is.1, take_at now (drop (length now) c.args.columns.now.items) c.args.columns.now.len long)
    (next_refused _ _ c.args.row.now c.args.columns.now.items c.loop-column.column-items c.loop-column.column-index
    c.column-item.result c.tell.new.column c.loop-column.invariant.columns c.in_err-tell.ensures.kind
    c.in_err-tell.ensures.err)

pub loop-column-preserved : goal.loop-column-preserved
loop-column-preserved g c =
    let within : c.loop-column.column-index < length c.loop-column.column-items = omega arith in
    record {
      same = simp length-set c.loop-column.invariant.same;
      columns = next_told _ _ c.args.row.now c.args.columns.now.items c.loop-column.column-items
          c.loop-column.column-index c.column-item.result c.tell.new.column c.loop-column.invariant.same within
          c.loop-column.invariant.columns c.column-item.is c.in_ok-tell.ensures.kind c.in_ok-tell.ensures.ok;
    }

pub returns-clause-ok : goal.returns-clause-ok
returns-clause-ok g c =
    let now = c.loop-column.column-items in
    let long : length c.loop-column.column-items ≡ c.args.columns.now.len =
    omega (arith, c.loop-column.invariant.same, c.args.columns.now.ok.0) in
    let past : length c.loop-column.column-items ≤ c.loop-column.column-index = omega arith in
    rw (take_at now (drop (length now) c.args.columns.now.items) c.args.columns.now.len long)
    (each_told _ _ c.args.row.now c.args.columns.now.items c.loop-column.column-items c.loop-column.column-index
    c.loop-column.invariant.same past c.loop-column.invariant.columns)
