use Rattle.std.proofs.Common.{ap, ◌∙◌}
use Rattle.payment_plan.specs.Payments.{Payments}
use Rattle.payment_plan.specs.Records.{lump_of}
use Rattle.file_upgrade.specs.FileTree.{lump_data}
use Rattle.file_upgrade.proofs.Loops.{record_more, lump_inside}
use Rattle.file_upgrade.proofs.payments.lumps.Goals as goal

pub lump-requires : goal.lump-requires
lump-requires c =
    lump_inside c.args.product.now c.plan.ensures.lawful c.lumps-lumps.result.now c.loop-i.i _
    (c.lumps-lumps.ensures.lumps ∙ ap (λ (ps : Payments). ps.lumps) c.plan.ensures.payments) c.loop-i-test.true

pub loop-i-preserved : goal.loop-i-preserved
loop-i-preserved c = rw c.in_ok-push.ensures.items (record_more lump_of (lump_data c.args.product.now)
    c.lumps-lumps.result.now c.loop-i.i _ c.loop-i.items.items _ c.loop-i-test.true
    c.loop-i.invariant c.in_ok-lump.ensures)
