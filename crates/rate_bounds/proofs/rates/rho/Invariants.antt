use Rattle.std.proofs.Common.{◌≡◌}
use Rattle.whole_laws.specs.Whole.{list_of, greatest_whole}
use Rattle.ledger_laws.specs.MonthLaws.{exit_rates}
use Rattle.rate_bounds.proofs.rates.rho.Given as goal

-- the greatest sum of the states so far
abbrev pub invariant-loop-state : goal.invariant-loop-state
invariant-loop-state l = l.most ≡ greatest_whole (list_of l.state (exit_rates l.product l.month))
