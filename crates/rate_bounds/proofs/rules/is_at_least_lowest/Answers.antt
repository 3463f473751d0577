use Rattle.std.proofs.Common.{◌*ℤ◌, ◌-ℤ◌, pos, FitsSigned, rules}
use Rattle.std.specs.Int.{w128}
use Rattle.std.proofs.lemmas.Int.{to_z-of_z}
use Rattle.rate_bounds.proofs.MonthRules.{above_the_lowest, lowest_product_fits, minus_fits}
use Rattle.rate_bounds.proofs.rules.is_at_least_lowest.Goals as goal

pub returns-then-unit-number : goal.returns-then-unit-number
returns-then-unit-number c =
    let fits-number = c.ranges.number in
    let fits-unit = c.ranges.unit in
    let wide : FitsSigned w128 c.min.result = search rules in
    let minus : FitsSigned w128 (pos 0 -ℤ c.args.unit) = minus_fits c.args.unit c.requires.some c.requires.most in
    let least = simp to_z-of_z at c.min.ensures.value in
    let within = simp to_z-of_z at c.if-unit-number.true in
    let product : FitsSigned w128 (pos 50 *ℤ c.min.result) =
    lowest_product_fits c.args.number c.args.unit c.min.result c.requires.most within least in
    simp to_z-of_z (above_the_lowest c.args.number c.args.unit c.min.result c.requires.some within least)
