use Rattle.std.proofs.Common.{pos, sym, subst, FitsSigned, rules}
use Rattle.std.specs.Prelude.{◌*◌, ◌^◌, ◌+ℤ◌, ◌≤ℤ◌}
use Rattle.std.specs.Int.{w128}
use Rattle.std.proofs.lemmas.Int.{to_z-of_z}
use Rattle.frac_laws.specs.Fraction.{whole, ◌*ℚ◌, ◌-ℚ◌}
use Rattle.fixed_interval.specs.Printing.{LiesBetweenIn}
use Rattle.moment_equations.specs.Kinds.{form_of, width_by, number_of}
use Rattle.moment_equations.proofs.Squares.{twice_wide, one_more}
use Rattle.moment_equations.proofs.ends.ends_of.Goals as goal

pub returns-in-First-clause-holds : goal.returns-in-First-clause-holds
returns-in-First-clause-holds c y z small near_y near_z =
    let first_fits : FitsSigned w128 c.args.middle.first = search rules in
    let here : LiesBetweenIn (10 ^ 6) c.printed.result (whole (pos (2 ^ c.args.middle.g)) *ℚ y) =
    c.printed.ensures.encloses _ (c.around.ensures.encloses y (simp to_z-of_z near_y)) in
    subst (λ kind. LiesBetweenIn (form_of kind).unit c.printed.result (number_of kind c.args.middle.g y z))
    (sym c.in-First.is) here

pub returns-in-Second-clause-narrow : goal.returns-in-Second-clause-narrow
returns-in-Second-clause-narrow c =
    let second_fits : FitsSigned w128 c.args.middle.second = search rules in
    let wide = twice_wide c.args.middle.second c.within.result.lo c.within.result.hi c.args.middle.radius_second
    (simp to_z-of_z at c.within.ensures.lo) (simp to_z-of_z at c.within.ensures.hi) in
    let here = one_more c.printed_whole.result.lo c.printed_whole.result.hi _
    (c.printed_whole.ensures.narrow (2 * c.args.middle.radius_second) wide) in
    subst (λ kind. c.printed_whole.result.hi ≤ℤ (c.printed_whole.result.lo
    +ℤ pos (width_by kind c.args.middle.radius c.args.middle.radius_second c.args.middle.g)))
    (sym c.in-Second.is) here

pub returns-in-Variance-clause-holds : goal.returns-in-Variance-clause-holds
returns-in-Variance-clause-holds c y z small near_y near_z =
    let here : LiesBetweenIn 1 c.printed_whole-in-Variance.result
    (whole (pos (4 ^ c.args.middle.g)) *ℚ (z -ℚ y *ℚ y)) =
    c.printed_whole-in-Variance.ensures.encloses _ (c.variance_within.ensures.holds y z small near_y near_z) in
    subst (λ kind. LiesBetweenIn (form_of kind).unit c.printed_whole-in-Variance.result
    (number_of kind c.args.middle.g y z)) (sym c.in-Variance.is) here
