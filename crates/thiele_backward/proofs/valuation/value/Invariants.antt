use Rattle.std.proofs.Common.{◌≡◌, ◌+◌}
use Rattle.rate_bounds.specs.MonthPay.{plan_named}
use Rattle.thiele_backward.specs.Costs.{cells_cost}
use Rattle.thiele_backward.proofs.SweptTerms.{IsSwept}
use Rattle.thiele_backward.proofs.valuation.value.Given as goal

abbrev pub invariant-loop-month : goal.invariant-loop-month
invariant-loop-month g l = record {
  swept : IsSwept l.adm l.fn.which l._month l.degree l.sweep;
  count : l.steps + cells_cost l.adm (plan_named l.fn.which l.adm) l.sweep.months_left
      ≡ l.initial.steps + cells_cost l.adm (plan_named l.fn.which l.adm) l.adm.months;
}
