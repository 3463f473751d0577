use Rattle.std.proofs.Common.{rules, FitsSigned, ◌∙◌, ap}
use Rattle.std.specs.Int.{w64}
use Rattle.std.proofs.lemmas.Int.{to_z-of_z}
use Rattle.payment_plan.proofs.TableRows.{row-more, row-same}
use Rattle.payment_plan.proofs.dates.row.Goals as goal
use Rattle.payment_plan.proofs.dates.row.Goals.{in-Some+in_ok-push, in_default}

pub loop-state-preserved : goal.loop-state-preserved
loop-state-preserved c = elim c.match-amount.branch [
  | in-Some+in_ok-push w ↦
      let wide : FitsSigned w64 w.in-Some.amount = search rules in
      row-more c.args.amounts.now c.loop-state.state w.in-Some.amount c.loop-state.lumps.items _ c.loop-state.invariant
      w.in-Some.is (ap (λ v. v.items) w.lumps-is ∙ simp to_z-of_z at w.in_ok-push.ensures.items)
  | in_default w ↦
      rw w.lumps-is
      (row-same c.args.amounts.now c.loop-state.state c.loop-state.lumps.items c.loop-state.invariant w.in_default.is)
]
