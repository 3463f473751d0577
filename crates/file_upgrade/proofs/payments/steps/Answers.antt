use Rattle.payment_plan.specs.Records.{record_of}
use Rattle.file_upgrade.proofs.Loops.{record_more}
use Rattle.file_upgrade.proofs.Values.{step_data}
use Rattle.file_upgrade.proofs.payments.steps.Goals as goal

pub loop-i-preserved : goal.loop-i-preserved
loop-i-preserved c = rw c.in_ok-push.ensures.items (record_more record_of step_data c.args.steps.now c.loop-i.i _
    c.loop-i.items.items _ c.loop-i-test.true c.loop-i.invariant c.in_ok-part.ensures)
