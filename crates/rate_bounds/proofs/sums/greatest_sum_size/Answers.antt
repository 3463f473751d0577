use Rattle.std.proofs.Common.{◌≡◌, length, arith, ap, ◌∙◌}
use Rattle.whole_laws.specs.Whole.{list_of, greatest_natural}
use Rattle.model_specs.specs.Payments.{payment_plan}
use Rattle.rate_bounds.specs.LedgerSteps.{sum_size_of, greatest_sum_size}
use Rattle.rate_bounds.proofs.PaySteps.{greatest_paid_more}
use Rattle.rate_bounds.proofs.sums.greatest_sum_size.Goals as goal

pub loop-transition-preserved : goal.loop-transition-preserved
loop-transition-preserved c = record {
  greatest = c.max-most.ensures
      ∙ greatest_paid_more c.loop-transition.transition
      (sum_size_of c.args.product.now (payment_plan c.args.product.now))
      c.loop-transition.most c.sum_size.result c.loop-transition.invariant.greatest c.sum_size.ensures.value;
  small = omega (arith, c.max-most.ensures, c.sum_size.ensures.most, c.loop-transition.invariant.small);
}

pub returns-clause-value : goal.returns-clause-value
unfolding greatest_sum_size
returns-clause-value c =
    let all : c.loop-transition.transition ≡ length c.args.product.now.transitions =
    omega (arith, c.transitions-transition-end.ensures.count) in
    c.loop-transition.invariant.greatest
    ∙ ap (λ n. greatest_natural (list_of n (sum_size_of c.args.product.now (payment_plan c.args.product.now)))) all
