use Rattle.std.proofs.Common.{◌≡◌, ◌^◌, ◌<◌}
use Rattle.whole_laws.specs.Whole.{list_of, greatest_natural}
use Rattle.rate_bounds.specs.MonthPay.{plan_named, paid_in_state}
use Rattle.rate_bounds.proofs.pay.greatest_paid.Given as goal

-- the most that the states so far pay
abbrev pub invariant-loop-state : goal.invariant-loop-state
invariant-loop-state l = record {
  greatest : l.most ≡ greatest_natural
      (list_of l.state (paid_in_state l.product (plan_named l.which l.product) l.month));
  small : l.most < 2 ^ 117;
}
