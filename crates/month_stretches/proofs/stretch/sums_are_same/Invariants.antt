use Rattle.std.proofs.Common.{◌≡◌, ℕ, suc, ◌<◌}
use Rattle.std.specs.Prelude.{true}
use Rattle.payment_plan.specs.Payments.{plan_of}
use Rattle.product_model.specs.Views.{payments_of}
use Rattle.month_stretches.specs.Parts.{is_same, sum_in}
use Rattle.month_stretches.proofs.stretch.sums_are_same.Given as goal

abbrev pub invariant-loop-transition : goal.invariant-loop-transition
invariant-loop-transition l =
    let plan = plan_of l.which (payments_of l.product) in
    (k : ℕ) → k < l.transition
    → is_same (sum_in plan l.month k, sum_in plan (suc l.month) k) ≡ true
