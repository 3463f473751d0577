use Rattle.basis_compare.proofs.ChangeRows.{changes_more}
use Rattle.basis_compare.proofs.differences.rows_of.Goals as goal

pub loop-place-preserved : goal.loop-place-preserved
loop-place-preserved c =
    changes_more c.args.a.now c.args.h.now c.args.b.now c.loop-place.place c.change_between.result
    c.change_between-in-loop-place.result c.change_between-in-loop-place-2.result c.loop-place.rows.items
    c.push.new.self.items c.push-in-loop-place.new.self.items c.push-in-loop-place-2.new.self.items
    c.loop-place.invariant c.change_between.ensures c.change_between-in-loop-place.ensures
    c.change_between-in-loop-place-2.ensures c.in_ok-push.ensures.items c.in_ok-push-2.ensures.items
    c.in_ok-push-3.ensures.items
