use Rattle.std.proofs.Common.{ap, ◌∙◌, sym}
use Rattle.payment_plan.proofs.TableRows.{payers-more, payers-same}
use Rattle.payment_plan.proofs.dates.payer_lumps.Goals as goal
use Rattle.payment_plan.proofs.dates.payer_lumps.Goals.{then-contains+in_ok-push, else-contains}

pub loop-state-preserved : goal.loop-state-preserved
loop-state-preserved c = elim c.if-contains.branch [
  | then-contains+in_ok-push w ↦
      payers-more c.args.payers.now c.loop-state.state-counter c.loop-state.lumps.items _ c.loop-state.invariant
      (sym c.contains.ensures.value ∙ w.if-contains.true) (ap (λ v. v.items) w.lumps-is ∙ w.in_ok-push.ensures.items)
  | else-contains w ↦
      rw w.lumps-is
      (payers-same c.args.payers.now c.loop-state.state-counter c.loop-state.lumps.items c.loop-state.invariant
      (sym c.contains.ensures.value ∙ w.if-contains.false))
]
