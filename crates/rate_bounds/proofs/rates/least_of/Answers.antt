use Rattle.std.proofs.Common.{FitsSigned, rules, ap, ◌∙◌}
use Rattle.std.specs.Int.{w128}
use Rattle.std.proofs.lemmas.Int.{to_z-of_z}
use Rattle.whole_laws.specs.Whole.{least_whole}
use Rattle.model_specs.specs.MonthNumbers.{curve_numerators}
use Rattle.rate_bounds.specs.MonthRates.{least_of}
use Rattle.rate_bounds.proofs.rates.least_of.Goals as goal

pub returns : goal.returns
unfolding least_of
returns c =
    let wide : FitsSigned w128 c.least.result = search rules in
    simp to_z-of_z
    (c.least.ensures ∙ ap least_whole c.month_bernstein.ensures.numerators
    ∙ ap (λ curve. least_whole (curve_numerators curve.pieces c.args.month)) c.rate.ensures.curve)
