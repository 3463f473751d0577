use Rattle.std.proofs.Common.{◌≡◌, arith, ap, ◌∙◌}
use Rattle.whole_laws.specs.Whole.{list_of, greatest_natural}
use Rattle.model_specs.specs.Payments.{payment_plan}
use Rattle.rate_bounds.specs.MonthPay.{sum_load}
use Rattle.rate_bounds.specs.LedgerSteps.{sum_size_of}
use Rattle.rate_bounds.proofs.PaySteps.{greatest_paid_more}
use Rattle.rate_bounds.proofs.sums.sum_size.Goals as goal

pub loop-month-preserved : goal.loop-month-preserved
loop-month-preserved c = record {
  greatest = c.max-most.ensures
      ∙ greatest_paid_more c.loop-month.month (λ m. sum_load (payment_plan c.args.product.now) m c.args.transition)
      c.loop-month.most c.sum_load.result c.loop-month.invariant.greatest c.sum_load.ensures.value;
  small = omega (arith, c.max-most.ensures, c.sum_load.ensures.most, c.loop-month.invariant.small);
}

pub returns-clause-value : goal.returns-clause-value
unfolding sum_size_of
returns-clause-value c =
    let all : c.loop-month.month ≡ c.args.product.now.months = omega (arith, c.months-month-end.ensures.value) in
    c.loop-month.invariant.greatest
    ∙ ap (λ n. greatest_natural (list_of n (λ m. sum_load (payment_plan c.args.product.now) m c.args.transition))) all
