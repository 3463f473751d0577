use Rattle.std.proofs.Common.{◌≡◌, ℕ, suc, ◌<◌}
use Rattle.std.specs.Prelude.{true}
use Rattle.month_stretches.specs.Parts.{is_same, rate_in}
use Rattle.month_stretches.proofs.stretch.rates_are_same.Given as goal

abbrev pub invariant-loop-transition : goal.invariant-loop-transition
invariant-loop-transition l =
    (k : ℕ) → k < l.transition
    → is_same (rate_in l.product l.month k, rate_in l.product (suc l.month) k) ≡ true
