use Rattle.std.proofs.Common.{◌≡◌, ℕ, suc, ◌<◌}
use Rattle.std.specs.Prelude.{true}
use Rattle.payment_plan.specs.Payments.{plan_of}
use Rattle.product_model.specs.Views.{payments_of}
use Rattle.month_stretches.specs.Parts.{is_same, sojourn_in}
use Rattle.month_stretches.proofs.stretch.sojourns_are_same.Given as goal

abbrev pub invariant-loop-state : goal.invariant-loop-state
invariant-loop-state l =
    let plan = plan_of l.which (payments_of l.product) in
    (k : ℕ) → k < l.state
    → is_same (sojourn_in plan l.month k, sojourn_in plan (suc l.month) k) ≡ true
