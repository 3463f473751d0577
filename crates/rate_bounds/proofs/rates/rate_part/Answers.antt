use Rattle.std.proofs.Common.{◌^◌, FitsSigned, arith, rules, ap, ◌∙◌}
use Rattle.std.specs.Prelude.{unsigned_abs}
use Rattle.std.specs.Int.{w128}
use Rattle.std.proofs.lemmas.Int.{to_z-of_z}
use Rattle.whole_laws.specs.Whole.{natural_part}
use Rattle.rate_bounds.specs.MonthRates.{rate_part}
use Rattle.rate_bounds.proofs.LeastAndGreatest.{size_from_zero, natural_part_is_below}
use Rattle.rate_bounds.proofs.rates.rate_part.Goals as goal

pub returns-clause-value : goal.returns-clause-value
unfolding rate_part
returns-clause-value c =
    let wide : FitsSigned w128 c.max.result = search rules in
    let wide-rate : FitsSigned w128 c.greatest_rate.result = search rules in
    let most = simp to_z-of_z at c.max.ensures.value in
    simp to_z-of_z
    (ap unsigned_abs most ∙ size_from_zero c.greatest_rate.result ∙ ap natural_part c.greatest_rate.ensures.value)

pub returns-clause-most : goal.returns-clause-most
returns-clause-most c =
    let wide : FitsSigned w128 c.max.result = search rules in
    let wide-rate : FitsSigned w128 c.greatest_rate.result = search rules in
    let most = simp to_z-of_z at c.max.ensures.value in
    simp to_z-of_z
    (omega (
      arith,
      ap unsigned_abs most ∙ size_from_zero c.greatest_rate.result,
      natural_part_is_below c.greatest_rate.result (2 ^ 100) c.greatest_rate.ensures.size,
    ))
