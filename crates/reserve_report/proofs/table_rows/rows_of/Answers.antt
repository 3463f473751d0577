use Rattle.reserve_report.proofs.TablePlaces.{rows_more}
use Rattle.reserve_report.proofs.table_rows.rows_of.Goals as goal

pub loop-place-preserved : goal.loop-place-preserved
loop-place-preserved c =
    rows_more c.args.what c.args.t.now c.loop-place.place c.row_at.result c.loop-place.rows.items c.push.new.self.items
    c.loop-place.invariant c.row_at.ensures c.in_ok-push.ensures.items
