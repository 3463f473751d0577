use Rattle.std.proofs.Common.{FitsSigned, rules, ap, ◌∙◌}
use Rattle.std.specs.Int.{w128}
use Rattle.std.proofs.lemmas.Int.{to_z-of_z}
use Rattle.whole_laws.specs.Whole.{greatest_whole, least_whole}
use Rattle.model_specs.specs.MonthNumbers.{curve_numerators}
use Rattle.rate_bounds.proofs.curves.month_curves.Goals as goal

pub returns-clause-high : goal.returns-clause-high
returns-clause-high c =
    let wide : FitsSigned w128 c.greatest.result = search rules in
    simp to_z-of_z
    (c.greatest.ensures ∙ ap greatest_whole c.month_bernstein-interest.ensures.numerators
    ∙ ap (λ curve. greatest_whole (curve_numerators curve.pieces c.args.month)) c.interest.ensures.curve)

pub returns-clause-low : goal.returns-clause-low
returns-clause-low c =
    let wide : FitsSigned w128 c.least.result = search rules in
    simp to_z-of_z
    (c.least.ensures ∙ ap least_whole c.month_bernstein-interest.ensures.numerators
    ∙ ap (λ curve. least_whole (curve_numerators curve.pieces c.args.month)) c.interest.ensures.curve)
