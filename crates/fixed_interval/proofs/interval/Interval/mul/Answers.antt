use Rattle.std.proofs.Common.{ℤ, ◌^◌, ◌≤◌, ◌*ℤ◌, FitsSigned, rules, sym, subst, ◌∙◌}
use Rattle.std.specs.Prelude.{unsigned_abs}
use Rattle.std.specs.Int.{w128, int_min, int_max}
use Rattle.std.proofs.lemmas.Int.{to_z-of_z}
use mathlib.Core.Path.{ap₂}
use Rattle.frac_laws.specs.Fraction.{over, ◌*ℚ◌, ◌≤ℚ◌}
use Rattle.fixed_interval.proofs.Ends.{floor-min, ceiling-max}
use Rattle.whole_laws.proofs.Extremes.{lesser_whole-has, greater_whole-has}
use Rattle.fixed_interval.proofs.Enclosing.{low_product, high_product}
use Rattle.fixed_interval.proofs.interval.Interval.mul.Goals as goal

pub returns-clause-lo : goal.returns-clause-lo
returns-clause-lo c =
    let a = c.args.self.now in
    let b = c.args.o.now in
    let a_lo_fits : FitsSigned w128 c.args.self.now.lo = search rules in
    let a_hi_fits : FitsSigned w128 c.args.self.now.hi = search rules in
    let p_fits : FitsSigned w128 c.times-of_lo.result.lo = search rules in
    let q_fits : FitsSigned w128 c.times-of_hi.result.lo = search rules in
    let lo_fits : FitsSigned w128 c.min.result = search rules in
    let p = simp to_z-of_z at c.times-of_lo.ensures.lo in
    let q = simp to_z-of_z at c.times-of_hi.ensures.lo in
    let lo = simp to_z-of_z at c.min.ensures.value in
    simp to_z-of_z (lo ∙ ap₂ int_min p q
    ∙ sym (floor-min (int_min (a.lo *ℤ b.lo) (a.lo *ℤ b.hi)) (int_min (a.hi *ℤ b.lo) (a.hi *ℤ b.hi))))

pub returns-clause-hi : goal.returns-clause-hi
returns-clause-hi c =
    let a = c.args.self.now in
    let b = c.args.o.now in
    let a_lo_fits : FitsSigned w128 c.args.self.now.lo = search rules in
    let a_hi_fits : FitsSigned w128 c.args.self.now.hi = search rules in
    let p_fits : FitsSigned w128 c.times-of_lo.result.hi = search rules in
    let q_fits : FitsSigned w128 c.times-of_hi.result.hi = search rules in
    let hi_fits : FitsSigned w128 c.max.result = search rules in
    let p = simp to_z-of_z at c.times-of_lo.ensures.hi in
    let q = simp to_z-of_z at c.times-of_hi.ensures.hi in
    let hi = simp to_z-of_z at c.max.ensures.value in
    simp to_z-of_z (hi ∙ ap₂ int_max p q
    ∙ sym (ceiling-max (int_max (a.lo *ℤ b.lo) (a.lo *ℤ b.hi)) (int_max (a.hi *ℤ b.lo) (a.hi *ℤ b.hi))))

pub returns-clause-size : goal.returns-clause-size
returns-clause-size c =
    let p_fits : FitsSigned w128 c.times-of_lo.result.lo = search rules in
    let q_fits : FitsSigned w128 c.times-of_hi.result.lo = search rules in
    let r_fits : FitsSigned w128 c.times-of_lo.result.hi = search rules in
    let s_fits : FitsSigned w128 c.times-of_hi.result.hi = search rules in
    let lo_fits : FitsSigned w128 c.min.result = search rules in
    let hi_fits : FitsSigned w128 c.max.result = search rules in
    let lo = simp to_z-of_z at c.min.ensures.value in
    let hi = simp to_z-of_z at c.max.ensures.value in
    let P : ℤ → Type 0 = λ z. unsigned_abs z ≤ 2 ^ 68 in
    record {
      lo = simp to_z-of_z (subst P (sym lo) (lesser_whole-has P c.times-of_lo.result.lo c.times-of_hi.result.lo
          c.times-of_lo.ensures.size.lo c.times-of_hi.ensures.size.lo));
      hi = simp to_z-of_z (subst P (sym hi) (greater_whole-has P c.times-of_lo.result.hi c.times-of_hi.result.hi
          c.times-of_lo.ensures.size.hi c.times-of_hi.ensures.size.hi));
    }

pub returns-clause-encloses : goal.returns-clause-encloses
returns-clause-encloses c x y in_self in_o =
    let L : ℤ → Type 0 = λ z. over z (2 ^ 64) ≤ℚ x *ℚ y in
    let H : ℤ → Type 0 = λ z. x *ℚ y ≤ℚ over z (2 ^ 64) in
    record {
      at_least = subst L (sym (returns-clause-lo c)) (low_product c.args.self.now c.args.o.now x y in_self in_o);
      at_most = subst H (sym (returns-clause-hi c)) (high_product c.args.self.now c.args.o.now x y in_self in_o);
    }
