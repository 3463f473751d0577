use Rattle.payment_plan.specs.Tables.{row_at}
use Rattle.payment_plan.proofs.TableRows.{dates-more}
use Rattle.payment_plan.proofs.dates.rows.Goals as goal

pub loop-date-preserved : goal.loop-date-preserved
loop-date-preserved c =
    dates-more c.loop-date.dated.items c.push.new.self.items c.in_ok-lumps.lumps c.loop-date.date
    (row_at c.args.table.now c.args.states) c.loop-date.invariant c.in_ok-push.ensures.items c.in_ok-lumps.ensures
