use Rattle.std.proofs.Common.{rules, ◌≤◌, ℤ, FitsSigned, sym, subst}
use Rattle.std.specs.Prelude.{unsigned_abs}
use Rattle.std.specs.Int.{w128}
use Rattle.std.proofs.lemmas.Int.{to_z-of_z}
use Rattle.premium_solver.specs.Quotients.{most_quotient}
use Rattle.premium_solver.proofs.TwoDivisions.{whole_fits, rest_fits, steps_are, steps_fit, floor_size}
use Rattle.premium_solver.proofs.quotients.floor_quotient.Goals as goal

pub overflow_add-result : goal.overflow_add-result
overflow_add-result c =
    let a_fits : FitsSigned w128 c.args.a = search rules in
    let d_fits : FitsSigned w128 c.args.d = search rules in
    let whole_part : FitsSigned w128 c.div_euclid.result = search rules in
    let rest_part : FitsSigned w128 c.rem_euclid.result = search rules in
    let more_part : FitsSigned w128 c.div_euclid-2.result = search rules in
    let whole_is = simp to_z-of_z at c.div_euclid.ensures in
    let rest_is = simp to_z-of_z at c.rem_euclid.ensures.value in
    let whole_product = whole_fits c.args.a c.args.d c.div_euclid.result c.requires.number c.requires.least whole_is in
    let rest_product = rest_fits c.args.a c.args.d c.rem_euclid.result c.requires.least c.requires.most rest_is in
    let more_is = simp to_z-of_z at c.div_euclid-2.ensures in
    simp to_z-of_z (steps_fit c.args.a c.args.d c.div_euclid.result c.rem_euclid.result c.div_euclid-2.result
    c.requires.number c.requires.least whole_is rest_is more_is)

pub returns-clause-value : goal.returns-clause-value
returns-clause-value c =
    let a_fits : FitsSigned w128 c.args.a = search rules in
    let d_fits : FitsSigned w128 c.args.d = search rules in
    let whole_part : FitsSigned w128 c.div_euclid.result = search rules in
    let rest_part : FitsSigned w128 c.rem_euclid.result = search rules in
    let more_part : FitsSigned w128 c.div_euclid-2.result = search rules in
    let whole_is = simp to_z-of_z at c.div_euclid.ensures in
    let rest_is = simp to_z-of_z at c.rem_euclid.ensures.value in
    let whole_product = whole_fits c.args.a c.args.d c.div_euclid.result c.requires.number c.requires.least whole_is in
    let rest_product = rest_fits c.args.a c.args.d c.rem_euclid.result c.requires.least c.requires.most rest_is in
    let more_is = simp to_z-of_z at c.div_euclid-2.ensures in
    let sum = steps_fit c.args.a c.args.d c.div_euclid.result c.rem_euclid.result c.div_euclid-2.result
    c.requires.number c.requires.least whole_is rest_is more_is in
    simp to_z-of_z (steps_are c.args.a c.args.d c.div_euclid.result c.rem_euclid.result c.div_euclid-2.result
    c.requires.least whole_is rest_is more_is)

pub returns-clause-size : goal.returns-clause-size
returns-clause-size c =
    let P : ℤ → Type 0 = λ z. unsigned_abs z ≤ most_quotient in
    subst P (sym (returns-clause-value c)) (floor_size c.args.a c.args.d c.requires.number c.requires.least)
