use Rattle.reserve_report.proofs.TablePlaces.{moments_more}
use Rattle.reserve_report.proofs.table_rows.moment_rows.Goals as goal

pub loop-place-preserved : goal.loop-place-preserved
loop-place-preserved c =
    moments_more c.args.t.now c.loop-place.place c.row_at.result c.row_at-in-loop-place.result
    c.row_at-in-loop-place-2.result
    c.loop-place.rows.items c.push.new.self.items c.push-in-loop-place.new.self.items
    c.push-in-loop-place-2.new.self.items c.loop-place.invariant
    c.row_at.ensures c.row_at-in-loop-place.ensures c.row_at-in-loop-place-2.ensures c.in_ok-push.ensures.items
    c.in_ok-push-2.ensures.items
    c.in_ok-push-3.ensures.items
