use Rattle.std.proofs.Common.{◌^◌, ◌≤◌, ℤ, ◌*ℤ◌, FitsSigned, rules, sym, subst, ◌∙◌}
use Rattle.std.specs.Prelude.{unsigned_abs}
use Rattle.std.specs.Int.{w128, int_min, int_max}
use Rattle.std.proofs.lemmas.Int.{to_z-of_z}
use mathlib.Core.Path.{ap₂}
use Rattle.fixed_interval.proofs.Ends.{floor-min, ceiling-max, low_le_high}
use Rattle.fixed_interval.proofs.Rows.{low_end_small, high_end_small}
use Rattle.fixed_interval.proofs.interval.Interval.times.Goals as goal

pub returns-clause-lo : goal.returns-clause-lo
returns-clause-lo c =
    let a = c.args.self.now in
    let number_fits : FitsSigned w128 c.args.number = search rules in
    let a_lo_fits : FitsSigned w128 c.args.self.now.lo = search rules in
    let a_hi_fits : FitsSigned w128 c.args.self.now.hi = search rules in
    let p_fits : FitsSigned w128 c.floor_product.result = search rules in
    let q_fits : FitsSigned w128 c.floor_product-2.result = search rules in
    let lo_fits : FitsSigned w128 c.min.result = search rules in
    let p = simp to_z-of_z at c.floor_product.ensures.value in
    let q = simp to_z-of_z at c.floor_product-2.ensures.value in
    let lo = simp to_z-of_z at c.min.ensures.value in
    simp to_z-of_z (lo ∙ ap₂ int_min p q ∙ sym (floor-min (c.args.number *ℤ a.lo) (c.args.number *ℤ a.hi)))

pub returns-clause-hi : goal.returns-clause-hi
returns-clause-hi c =
    let a = c.args.self.now in
    let number_fits : FitsSigned w128 c.args.number = search rules in
    let a_lo_fits : FitsSigned w128 c.args.self.now.lo = search rules in
    let a_hi_fits : FitsSigned w128 c.args.self.now.hi = search rules in
    let r_fits : FitsSigned w128 c.ceil_product.result = search rules in
    let s_fits : FitsSigned w128 c.ceil_product-2.result = search rules in
    let hi_fits : FitsSigned w128 c.max.result = search rules in
    let r = simp to_z-of_z at c.ceil_product.ensures.value in
    let s = simp to_z-of_z at c.ceil_product-2.ensures.value in
    let hi = simp to_z-of_z at c.max.ensures.value in
    simp to_z-of_z (hi ∙ ap₂ int_max r s ∙ sym (ceiling-max (c.args.number *ℤ a.lo) (c.args.number *ℤ a.hi)))

pub returns-clause-size : goal.returns-clause-size
returns-clause-size c =
    let P : ℤ → Type 0 = λ z. unsigned_abs z ≤ 2 ^ 68 in
    record {
      lo = subst P (sym (returns-clause-lo c))
          (low_end_small c.args.number c.args.self.now c.requires.second c.requires.first);
      hi = subst P (sym (returns-clause-hi c))
          (high_end_small c.args.number c.args.self.now c.requires.second c.requires.first);
    }

pub invariant_of-result : goal.invariant_of-result
invariant_of-result c =
    let a = c.args.self.now in
    let number_fits : FitsSigned w128 c.args.number = search rules in
    let a_lo_fits : FitsSigned w128 c.args.self.now.lo = search rules in
    let a_hi_fits : FitsSigned w128 c.args.self.now.hi = search rules in
    let p_fits : FitsSigned w128 c.floor_product.result = search rules in
    let q_fits : FitsSigned w128 c.floor_product-2.result = search rules in
    let r_fits : FitsSigned w128 c.ceil_product.result = search rules in
    let s_fits : FitsSigned w128 c.ceil_product-2.result = search rules in
    let lo_fits : FitsSigned w128 c.min.result = search rules in
    let hi_fits : FitsSigned w128 c.max.result = search rules in
    let p = simp to_z-of_z at c.floor_product.ensures.value in
    let q = simp to_z-of_z at c.floor_product-2.ensures.value in
    let r = simp to_z-of_z at c.ceil_product.ensures.value in
    let s = simp to_z-of_z at c.ceil_product-2.ensures.value in
    let lo = simp to_z-of_z at c.min.ensures.value in
    let hi = simp to_z-of_z at c.max.ensures.value in
    let low = lo ∙ ap₂ int_min p q ∙ sym (floor-min (c.args.number *ℤ a.lo) (c.args.number *ℤ a.hi)) in
    let high = hi ∙ ap₂ int_max r s ∙ sym (ceiling-max (c.args.number *ℤ a.lo) (c.args.number *ℤ a.hi)) in
    record { ordered = simp to_z-of_z (rw (low, high) (low_le_high (c.args.number *ℤ a.lo) (c.args.number *ℤ a.hi))) }
