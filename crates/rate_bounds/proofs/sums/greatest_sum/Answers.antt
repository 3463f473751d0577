use Rattle.std.proofs.Common.{ap, sym, ◌∙◌}
use Rattle.model_specs.specs.Growth.{greatest_sum}
use Rattle.rate_bounds.specs.MonthPay.{plan_named}
use Rattle.rate_bounds.proofs.SumSizes.{sizes_are, pattern_has_no_sums}
use Rattle.rate_bounds.proofs.sums.greatest_sum.Goals as goal

pub returns-in-Benefits-clause-value : goal.returns-in-Benefits-clause-value
returns-in-Benefits-clause-value c =
    c.greatest_sum_size.ensures.value ∙ sizes_are c.args.product.now
    ∙ ap (λ which. greatest_sum c.args.product.now (plan_named which c.args.product.now)) (sym c.in-Benefits.is)

pub returns-in-Pattern-clause-value : goal.returns-in-Pattern-clause-value
returns-in-Pattern-clause-value c =
    pattern_has_no_sums c.args.product.now
    ∙ ap (λ which. greatest_sum c.args.product.now (plan_named which c.args.product.now)) (sym c.in-Pattern.is)
