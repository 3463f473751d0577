use Rattle.std.proofs.Common.{◌≡◌, take}
use Rattle.portfolio_run.specs.Totals.{greatest_degree}
use Rattle.portfolio_run.proofs.totals.degree_of.Given as goal

abbrev pub invariant-loop-i : goal.invariant-loop-i
invariant-loop-i l = l.degree ≡ greatest_degree (take l.i l.valued)
