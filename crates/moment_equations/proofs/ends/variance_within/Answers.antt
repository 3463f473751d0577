use Rattle.std.proofs.Common.{refl, FitsSigned, rules}
use Rattle.std.specs.Prelude.{◌^◌, ◌≤◌, unsigned_abs}
use Rattle.std.specs.Int.{w128}
use Rattle.std.proofs.lemmas.Int.{to_z-of_z}
use Rattle.moment_equations.proofs.Squares.{lies_between, difference_fits, difference_small, differences_ordered}
use Rattle.moment_equations.proofs.Squares.{differences_narrow, end_small}
use Rattle.moment_equations.proofs.ends.variance_within.Goals as goal

pub invariant_of-result : goal.invariant_of-result
invariant_of-result c =
    let a_fits : FitsSigned w128 c.within-second.result.lo = search rules in
    let b_fits : FitsSigned w128 c.within-second.result.hi = search rules in
    let e_fits : FitsSigned w128 c.square_within-square.result.lo = search rules in
    let f_fits : FitsSigned w128 c.square_within-square.result.hi = search rules in
    let second_fits : FitsSigned w128 c.args.middle.second = search rules in
    let small = end_small c.args.middle.second c.args.middle.radius_second c.requires.second
    c.requires.radius_second in
    let a_small : unsigned_abs c.within-second.result.lo ≤ 2 ^ 66 =
    rw (simp to_z-of_z at c.within-second.ensures.lo) small.0 in
    let b_small : unsigned_abs c.within-second.result.hi ≤ 2 ^ 66 =
    rw (simp to_z-of_z at c.within-second.ensures.hi) small.1 in
    let lo_fits = difference_fits c.within-second.result.lo c.square_within-square.result.hi a_small
    c.square_within-square.ensures.small.hi in
    let hi_fits = difference_fits c.within-second.result.hi c.square_within-square.result.lo b_small
    c.square_within-square.ensures.small.lo in
    simp to_z-of_z (record {
      ordered = differences_ordered c.within-second.result.lo c.within-second.result.hi c.square_within-square.result.lo
          c.square_within-square.result.hi c.within-second.result.ordered c.square_within-square.result.ordered;
    })

pub returns-clause-narrow : goal.returns-clause-narrow
returns-clause-narrow c =
    let a_fits : FitsSigned w128 c.within-second.result.lo = search rules in
    let b_fits : FitsSigned w128 c.within-second.result.hi = search rules in
    let e_fits : FitsSigned w128 c.square_within-square.result.lo = search rules in
    let f_fits : FitsSigned w128 c.square_within-square.result.hi = search rules in
    let second_fits : FitsSigned w128 c.args.middle.second = search rules in
    let small = end_small c.args.middle.second c.args.middle.radius_second c.requires.second
    c.requires.radius_second in
    let a_small : unsigned_abs c.within-second.result.lo ≤ 2 ^ 66 =
    rw (simp to_z-of_z at c.within-second.ensures.lo) small.0 in
    let b_small : unsigned_abs c.within-second.result.hi ≤ 2 ^ 66 =
    rw (simp to_z-of_z at c.within-second.ensures.hi) small.1 in
    let lo_fits = difference_fits c.within-second.result.lo c.square_within-square.result.hi a_small
    c.square_within-square.ensures.small.hi in
    let hi_fits = difference_fits c.within-second.result.hi c.square_within-square.result.lo b_small
    c.square_within-square.ensures.small.lo in
    let lo = simp to_z-of_z at c.within-second.ensures.lo in
    let hi = simp to_z-of_z at c.within-second.ensures.hi in
    simp to_z-of_z (rw (lo, hi) (differences_narrow c.args.middle.second c.square_within-square.result.lo
    c.square_within-square.result.hi c.args.middle.radius c.args.middle.radius_second
    c.square_within-square.ensures.narrow))

pub returns-clause-small : goal.returns-clause-small
returns-clause-small c =
    let a_fits : FitsSigned w128 c.within-second.result.lo = search rules in
    let b_fits : FitsSigned w128 c.within-second.result.hi = search rules in
    let e_fits : FitsSigned w128 c.square_within-square.result.lo = search rules in
    let f_fits : FitsSigned w128 c.square_within-square.result.hi = search rules in
    let second_fits : FitsSigned w128 c.args.middle.second = search rules in
    let small = end_small c.args.middle.second c.args.middle.radius_second c.requires.second
    c.requires.radius_second in
    let a_small : unsigned_abs c.within-second.result.lo ≤ 2 ^ 66 =
    rw (simp to_z-of_z at c.within-second.ensures.lo) small.0 in
    let b_small : unsigned_abs c.within-second.result.hi ≤ 2 ^ 66 =
    rw (simp to_z-of_z at c.within-second.ensures.hi) small.1 in
    let lo_fits = difference_fits c.within-second.result.lo c.square_within-square.result.hi a_small
    c.square_within-square.ensures.small.hi in
    let hi_fits = difference_fits c.within-second.result.hi c.square_within-square.result.lo b_small
    c.square_within-square.ensures.small.lo in
    record {
      lo = simp to_z-of_z (difference_small c.within-second.result.lo c.square_within-square.result.hi a_small
          c.square_within-square.ensures.small.hi);
      hi = simp to_z-of_z (difference_small c.within-second.result.hi c.square_within-square.result.lo b_small
          c.square_within-square.ensures.small.lo);
    }

pub returns-clause-holds : goal.returns-clause-holds
returns-clause-holds c y z small_y near_y near_z =
    let a_fits : FitsSigned w128 c.within-second.result.lo = search rules in
    let b_fits : FitsSigned w128 c.within-second.result.hi = search rules in
    let e_fits : FitsSigned w128 c.square_within-square.result.lo = search rules in
    let f_fits : FitsSigned w128 c.square_within-square.result.hi = search rules in
    let second_fits : FitsSigned w128 c.args.middle.second = search rules in
    let small = end_small c.args.middle.second c.args.middle.radius_second c.requires.second
    c.requires.radius_second in
    let a_small : unsigned_abs c.within-second.result.lo ≤ 2 ^ 66 =
    rw (simp to_z-of_z at c.within-second.ensures.lo) small.0 in
    let b_small : unsigned_abs c.within-second.result.hi ≤ 2 ^ 66 =
    rw (simp to_z-of_z at c.within-second.ensures.hi) small.1 in
    let lo_fits = difference_fits c.within-second.result.lo c.square_within-square.result.hi a_small
    c.square_within-square.ensures.small.hi in
    let hi_fits = difference_fits c.within-second.result.hi c.square_within-square.result.lo b_small
    c.square_within-square.ensures.small.lo in
    let first_fits : FitsSigned w128 c.args.middle.first = search rules in
    lies_between z _ c.within-second.result c.square_within-square.result _ (simp to_z-of_z refl)
    (simp to_z-of_z refl) (c.within-second.ensures.holds z (simp to_z-of_z near_z))
    (c.square_within-square.ensures.holds y small_y (simp to_z-of_z near_y))
