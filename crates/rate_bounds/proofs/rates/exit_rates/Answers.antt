use Rattle.std.proofs.Common.{FitsSigned, rules, ap, ◌∙◌}
use Rattle.std.specs.Int.{w128}
use Rattle.std.proofs.lemmas.Int.{to_z-of_z}
use Rattle.rate_bounds.specs.MonthRates.{rate_sum}
use Rattle.rate_bounds.proofs.rates.exit_rates.Goals as goal

pub returns : goal.returns
unfolding rate_sum
returns c =
    let wide : FitsSigned w128 c.rate_sum.result = search rules in
    simp to_z-of_z
    (c.rate_sum.ensures ∙ ap (rate_sum c.args.product.now c.args.month) c.exits_of.ensures.transitions)
