use Rattle.std.proofs.Common.{◌≡◌, ℕ, ◌<◌}
use Rattle.std.specs.Prelude.{true}
use Rattle.model_specs.specs.Stretches.{is_constant}
use Rattle.month_stretches.specs.Parts.{rate_in}
use Rattle.month_stretches.proofs.constant.rates_are_constant.Given as goal

abbrev pub invariant-loop-transition : goal.invariant-loop-transition
invariant-loop-transition l =
    (k : ℕ) → k < l.transition → is_constant (rate_in l.product l.month k) ≡ true
