use Rattle.std.proofs.Common.{◌≡◌, ℕ, ◌<◌, true}
use Rattle.rate_bounds.specs.Breaks.{obeys}
use Rattle.rate_bounds.proofs.first_month.first_breaking.Given as goal

-- no month so far breaks the rule
abbrev pub invariant-loop-month : goal.invariant-loop-month
invariant-loop-month l = (k : ℕ) → k < l.month → obeys l.rule l.product k ≡ true
