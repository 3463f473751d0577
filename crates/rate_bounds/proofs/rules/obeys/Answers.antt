use Rattle.std.proofs.Common.{pos, ◌*ℤ◌, FitsSigned, arith, rules, refl}
use Rattle.std.specs.Int.{w128}
use Rattle.std.proofs.lemmas.Int.{to_z-of_z, ints}
use Rattle.rate_bounds.proofs.MonthRules.{rule_15_is, rule_15_by_both, rule_15_by_lowest, rule_16_is, rule_17_is}
use Rattle.rate_bounds.proofs.MonthRules.{by_interest, by_intensities, by_exits}
use Rattle.rate_bounds.proofs.rules.obeys.Goals as goal

pub returns-then-is_at_least_lowest : goal.returns-then-is_at_least_lowest
returns-then-is_at_least_lowest c =
    let fits_low : FitsSigned w128 c.args.curves.low = search rules in
    let fits_high : FitsSigned w128 c.args.curves.high = search rules in
    let fits_unit = c.ranges.unit in
    λ product month are unit.
    by_interest c.args.rule product month _ c.in-Interest.is
    (rule_15_by_both _ _ _ c.if-is_at_least_lowest.true
    (rule_15_is product month c.args.curves are c.args.unit _ _ unit
    (simp to_z-of_z at c.is_at_least_lowest.ensures) (simp to_z-of_z at c.is_at_most_highest.ensures)))

pub returns-else-is_at_least_lowest : goal.returns-else-is_at_least_lowest
returns-else-is_at_least_lowest c =
    let fits_low : FitsSigned w128 c.args.curves.low = search rules in
    let fits_unit = c.ranges.unit in
    λ product month are unit.
    by_interest c.args.rule product month _ c.in-Interest.is
    (rule_15_by_lowest _ _ _ c.if-is_at_least_lowest.false
    (rule_15_is product month c.args.curves are c.args.unit _ _ unit
    (simp to_z-of_z at c.is_at_least_lowest.ensures) refl))

pub returns-in-Intensities : goal.returns-in-Intensities
returns-in-Intensities c =
    let fits : FitsSigned w128 c.args.curves.least = search rules in
    λ product month are unit.
    by_intensities c.args.rule product month _ c.in-Intensities.is
    (simp to_z-of_z (rule_16_is product month c.args.curves are))

pub returns-in-Exits : goal.returns-in-Exits
returns-in-Exits c =
    let fits : FitsSigned w128 c.args.curves.rho = search rules in
    let unit_fits = c.ranges.unit in
    let twice : FitsSigned w128 (pos 2 *ℤ c.args.unit) = omega (arith, ints, c.requires.some, c.requires.most) in
    λ product month are unit.
    by_exits c.args.rule product month _ c.in-Exits.is
    (simp to_z-of_z (rule_17_is product month c.args.curves are c.args.unit unit))
