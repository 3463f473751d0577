use Rattle.std.proofs.Common.{◌-ℤ◌, FitsSigned, rules}
use Rattle.std.specs.Int.{w128}
use Rattle.std.proofs.lemmas.Int.{to_z-of_z}
use Rattle.payment_plan.proofs.Extremes.{AreExtremes, difference_fits, extremes_differ, cast_fits}
use Rattle.payment_plan.proofs.load.spread.Goals as goal

pub overflow_sub-result : goal.overflow_sub-result
overflow_sub-result c =
    let wide-1 : FitsSigned w128 c.greatest.result = search rules in
    let wide-2 : FitsSigned w128 c.least.result = search rules in
    let extremes : AreExtremes c.args.numbers.now c.greatest.result c.least.result =
    record { within = c.requires; greatest = c.greatest.ensures; least = c.least.ensures } in
    simp to_z-of_z (difference_fits _ _ _ extremes)

pub overflow_cast-result : goal.overflow_cast-result
overflow_cast-result c =
    let wide-1 : FitsSigned w128 c.greatest.result = search rules in
    let wide-2 : FitsSigned w128 c.least.result = search rules in
    let extremes : AreExtremes c.args.numbers.now c.greatest.result c.least.result =
    record { within = c.requires; greatest = c.greatest.ensures; least = c.least.ensures } in
    let wide : FitsSigned w128 (c.greatest.result -ℤ c.least.result) = difference_fits _ _ _ extremes in
    simp to_z-of_z (cast_fits _ _ _ extremes)

pub returns : goal.returns
returns c =
    let wide-1 : FitsSigned w128 c.greatest.result = search rules in
    let wide-2 : FitsSigned w128 c.least.result = search rules in
    let extremes : AreExtremes c.args.numbers.now c.greatest.result c.least.result =
    record { within = c.requires; greatest = c.greatest.ensures; least = c.least.ensures } in
    let wide : FitsSigned w128 (c.greatest.result -ℤ c.least.result) = difference_fits _ _ _ extremes in
    simp to_z-of_z (extremes_differ _ _ _ extremes)
