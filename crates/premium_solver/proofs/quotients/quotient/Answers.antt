use Rattle.std.proofs.Common.{◌≤◌, ℤ, pos, ◌≤ℤ◌, rules, FitsSigned, sym, subst, ◌∙◌, arith}
use Rattle.std.specs.Prelude.{unsigned_abs}
use Rattle.std.specs.Int.{w128, int_min, int_max}
use Rattle.std.proofs.lemmas.Int.{ints, to_z-of_z}
use mathlib.Core.Path.{ap₂}
use Rattle.premium_solver.specs.Quotients.{least_divisor, most_quotient}
use Rattle.premium_solver.proofs.IntervalQuotients.{encloses, ordered_ends, close}
use Rattle.whole_laws.proofs.Extremes.{lesser_whole-has, greater_whole-has}
use Rattle.premium_solver.proofs.quotients.quotient.Goals as goal

pub returns-clause-lo : goal.returns-clause-lo
returns-clause-lo c =
    let b_fits : FitsSigned w128 c.args.b.lo = search rules in
    let p_lo_fits : FitsSigned w128 c.args.p.lo = search rules in
    let p_hi_fits : FitsSigned w128 c.args.p.hi = search rules in
    let first_fits : FitsSigned w128 c.floor_quotient.result = search rules in
    let second_fits : FitsSigned w128 c.floor_quotient-2.result = search rules in
    let lo_fits : FitsSigned w128 c.min.result = search rules in
    let first = simp to_z-of_z at c.floor_quotient.ensures.value in
    let second = simp to_z-of_z at c.floor_quotient-2.ensures.value in
    let lo = simp to_z-of_z at c.min.ensures.value in
    simp to_z-of_z (lo ∙ ap₂ int_min first second)

pub returns-clause-hi : goal.returns-clause-hi
returns-clause-hi c =
    let b_fits : FitsSigned w128 c.args.b.hi = search rules in
    let p_lo_fits : FitsSigned w128 c.args.p.lo = search rules in
    let p_hi_fits : FitsSigned w128 c.args.p.hi = search rules in
    let first_fits : FitsSigned w128 c.ceil_quotient.result = search rules in
    let second_fits : FitsSigned w128 c.ceil_quotient-2.result = search rules in
    let hi_fits : FitsSigned w128 c.max.result = search rules in
    let first = simp to_z-of_z at c.ceil_quotient.ensures.value in
    let second = simp to_z-of_z at c.ceil_quotient-2.ensures.value in
    let hi = simp to_z-of_z at c.max.ensures.value in
    simp to_z-of_z (hi ∙ ap₂ int_max first second)

pub returns-clause-encloses : goal.returns-clause-encloses
returns-clause-encloses c x y in_b in_p =
    let p_fits : FitsSigned w128 c.args.p.lo = search rules in
    let apart = simp to_z-of_z at c.if-p-lt-LEAST_DIVISOR.false in
    let least : pos least_divisor ≤ℤ c.args.p.lo = omega (arith, ints) in
    encloses c.args.b c.args.p _ _ x y least (returns-clause-lo c) (returns-clause-hi c) in_b in_p

pub returns-clause-ordered : goal.returns-clause-ordered
returns-clause-ordered c =
    let p_fits : FitsSigned w128 c.args.p.lo = search rules in
    let apart = simp to_z-of_z at c.if-p-lt-LEAST_DIVISOR.false in
    let least : pos least_divisor ≤ℤ c.args.p.lo = omega (arith, ints) in
    ordered_ends c.args.b c.args.p _ _ least (returns-clause-lo c) (returns-clause-hi c)

pub returns-clause-close : goal.returns-clause-close
returns-clause-close c =
    let p_fits : FitsSigned w128 c.args.p.lo = search rules in
    let apart = simp to_z-of_z at c.if-p-lt-LEAST_DIVISOR.false in
    let least : pos least_divisor ≤ℤ c.args.p.lo = omega (arith, ints) in
    close c.args.b c.args.p _ least (returns-clause-lo c) (returns-clause-hi c)

pub returns-clause-small : goal.returns-clause-small
returns-clause-small c =
    let first_fits : FitsSigned w128 c.floor_quotient.result = search rules in
    let second_fits : FitsSigned w128 c.floor_quotient-2.result = search rules in
    let third_fits : FitsSigned w128 c.ceil_quotient.result = search rules in
    let fourth_fits : FitsSigned w128 c.ceil_quotient-2.result = search rules in
    let lo_fits : FitsSigned w128 c.min.result = search rules in
    let hi_fits : FitsSigned w128 c.max.result = search rules in
    let P : ℤ → Type 0 = λ z. unsigned_abs z ≤ most_quotient in
    let lo = simp to_z-of_z at c.min.ensures.value in
    let hi = simp to_z-of_z at c.max.ensures.value in
    record {
      lo = simp to_z-of_z (subst P (sym lo) (lesser_whole-has P c.floor_quotient.result c.floor_quotient-2.result
          (omega (arith, c.floor_quotient.ensures.size)) (omega (arith, c.floor_quotient-2.ensures.size))));
      hi = simp to_z-of_z (subst P (sym hi) (greater_whole-has P c.ceil_quotient.result c.ceil_quotient-2.result
          (omega (arith, c.ceil_quotient.ensures.size)) (omega (arith, c.ceil_quotient-2.ensures.size))));
    }
