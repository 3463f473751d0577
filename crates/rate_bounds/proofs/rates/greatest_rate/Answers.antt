use Rattle.std.proofs.Common.{◌^◌, FitsSigned, arith, rules, ap, ◌∙◌}
use Rattle.std.specs.Prelude.{unsigned_abs}
use Rattle.std.specs.Int.{w128}
use Rattle.std.proofs.lemmas.Int.{to_z-of_z}
use Rattle.whole_laws.specs.Whole.{greatest_whole}
use Rattle.model_specs.specs.MonthNumbers.{curve_numerators}
use Rattle.rate_bounds.proofs.LeastAndGreatest.{greatest_is_below}
use Rattle.rate_bounds.proofs.rates.greatest_rate.Goals as goal

pub returns-clause-value : goal.returns-clause-value
returns-clause-value c =
    let wide : FitsSigned w128 c.greatest.result = search rules in
    simp to_z-of_z
    (c.greatest.ensures ∙ ap greatest_whole c.month_bernstein.ensures.numerators
    ∙ ap (λ curve. greatest_whole (curve_numerators curve.pieces c.args.month)) c.rate.ensures.curve)

pub returns-clause-size : goal.returns-clause-size
returns-clause-size c =
    let wide : FitsSigned w128 c.greatest.result = search rules in
    simp to_z-of_z
    (omega (
      arith,
      ap unsigned_abs c.greatest.ensures,
      greatest_is_below c.month_bernstein.result (2 ^ 100) (omega arith) c.month_bernstein.ensures.size,
    ))
