use Rattle.std.proofs.Common.{◌≡◌}
use Rattle.model_specs.specs.Ledgers.{bound_before_term}
use Rattle.rate_bounds.specs.MonthPay.{plan_named}
use Rattle.rate_bounds.proofs.plan_bound.bound1024.Given as goal

-- the ledger some months before the term
abbrev pub invariant-loop-back : goal.invariant-loop-back
invariant-loop-back l = l.bound ≡ bound_before_term l.product (plan_named l.which l.product) l.back
