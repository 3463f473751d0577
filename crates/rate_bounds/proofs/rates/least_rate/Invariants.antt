use Rattle.std.proofs.Common.{◌≡◌}
use Rattle.whole_laws.specs.Whole.{list_of, least_whole}
use Rattle.rate_bounds.specs.MonthRates.{least_of}
use Rattle.rate_bounds.proofs.rates.least_rate.Given as goal

-- the least number of the transitions so far
abbrev pub invariant-loop-transition : goal.invariant-loop-transition
invariant-loop-transition l = l.lowest ≡ least_whole (list_of l.transition (least_of l.product l.month))
