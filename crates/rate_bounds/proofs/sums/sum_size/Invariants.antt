use Rattle.std.proofs.Common.{◌≡◌, ◌≤◌, ◌*◌, ◌^◌}
use Rattle.whole_laws.specs.Whole.{list_of, greatest_natural}
use Rattle.model_specs.specs.Payments.{payment_plan}
use Rattle.rate_bounds.specs.MonthPay.{sum_load}
use Rattle.rate_bounds.proofs.sums.sum_size.Given as goal

-- the greatest load of the months so far
abbrev pub invariant-loop-month : goal.invariant-loop-month
invariant-loop-month l = record {
  greatest : l.most ≡ greatest_natural (list_of l.month (λ m. sum_load (payment_plan l.product) m l.transition));
  small : l.most ≤ 9 * 10 ^ 12;
}
