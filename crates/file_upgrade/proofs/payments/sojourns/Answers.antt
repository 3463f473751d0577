use Rattle.std.proofs.Common.{◌<◌, length, ap, sym, subst, ◌∙◌}
use Rattle.payment_plan.specs.Payments.{Payments}
use Rattle.payment_plan.specs.Records.{sojourn_of}
use Rattle.file_upgrade.specs.FileTree.{sojourn_data}
use Rattle.file_upgrade.proofs.Loops.{record_more, sojourn_inside}
use Rattle.file_upgrade.proofs.payments.sojourns.Goals as goal

pub sojourn-requires : goal.sojourn-requires
sojourn-requires c =
    let p = c.args.product.now in
    subst (λ s. s.0 < length p.states) (sym c.index-sojourns-i.is)
    (sojourn_inside p c.plan.ensures.lawful c.sojourns-sojourns.result.now c.loop-i.i c.index-sojourns-i.result
    (c.sojourns-sojourns.ensures.sojourns ∙ ap (λ (ps : Payments). ps.sojourns) c.plan.ensures.payments)
    c.loop-i-test.true)

pub loop-i-preserved : goal.loop-i-preserved
loop-i-preserved c = rw c.in_ok-push.ensures.items (record_more sojourn_of (sojourn_data c.args.product.now)
    c.sojourns-sojourns.result.now c.loop-i.i c.index-sojourns-i.result c.loop-i.items.items _ c.loop-i-test.true
    c.loop-i.invariant
    (c.in_ok-sojourn.ensures ∙ ap (λ s. sojourn_data c.args.product.now (sojourn_of s)) c.index-sojourns-i.is))
