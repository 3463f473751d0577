use Rattle.std.proofs.Common.{◌≡◌, ℕ, ◌<◌}
use Rattle.std.specs.Prelude.{true}
use Rattle.model_specs.specs.Stretches.{is_constant}
use Rattle.payment_plan.specs.Payments.{plan_of}
use Rattle.product_model.specs.Views.{payments_of}
use Rattle.month_stretches.specs.Parts.{sojourn_in}
use Rattle.month_stretches.proofs.constant.sojourns_are_constant.Given as goal

abbrev pub invariant-loop-state : goal.invariant-loop-state
invariant-loop-state l =
    let plan = plan_of l.which (payments_of l.product) in
    (k : ℕ) → k < l.state → is_constant (sojourn_in plan l.month k) ≡ true
