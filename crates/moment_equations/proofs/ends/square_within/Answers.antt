use Rattle.std.proofs.Common.{◌≡◌, pos, ap, ◌∙◌, FitsSigned, rules}
use Rattle.std.specs.Prelude.{ℤ, ◌+ℤ◌, ◌-ℤ◌}
use Rattle.std.specs.Int.{w128, int_min, int_max}
use Rattle.std.proofs.lemmas.Int.{to_z-of_z}
use Rattle.moment_equations.proofs.Squares.{one, minus_one, met_ordered, met_low, met_high, met_narrow, lies_met}
use Rattle.moment_equations.proofs.Squares.{square_narrow, square_low, square_high}
use Rattle.moment_equations.proofs.ends.square_within.Goals as goal

pub invariant_of-met : goal.invariant_of-met
invariant_of-met c =
    let number_fits : FitsSigned w128 c.args.number = search rules in
    let lo_fits : FitsSigned w128 c.within-near.result.lo = search rules in
    let hi_fits : FitsSigned w128 c.within-near.result.hi = search rules in
    let near_low = simp to_z-of_z at c.within-near.ensures.lo in
    let near_high = simp to_z-of_z at c.within-near.ensures.hi in
    let low : c.max.result ≡ int_max (c.args.number -ℤ pos c.args.radius) minus_one =
    simp to_z-of_z at c.max.ensures.value ∙ ap (λ (z : ℤ). int_max z minus_one) near_low in
    let high : c.min.result ≡ int_min (c.args.number +ℤ pos c.args.radius) one =
    simp to_z-of_z at c.min.ensures.value ∙ ap (λ (z : ℤ). int_min z one) near_high in
    let max_fits : FitsSigned w128 c.max.result = search rules in
    let min_fits : FitsSigned w128 c.min.result = search rules in
    simp to_z-of_z (record { ordered = rw (low, high) (met_ordered c.args.number c.args.radius c.requires.number) })

pub returns-clause-narrow : goal.returns-clause-narrow
returns-clause-narrow c =
    let number_fits : FitsSigned w128 c.args.number = search rules in
    let lo_fits : FitsSigned w128 c.within-near.result.lo = search rules in
    let hi_fits : FitsSigned w128 c.within-near.result.hi = search rules in
    let near_low = simp to_z-of_z at c.within-near.ensures.lo in
    let near_high = simp to_z-of_z at c.within-near.ensures.hi in
    let low : c.max.result ≡ int_max (c.args.number -ℤ pos c.args.radius) minus_one =
    simp to_z-of_z at c.max.ensures.value ∙ ap (λ (z : ℤ). int_max z minus_one) near_low in
    let high : c.min.result ≡ int_min (c.args.number +ℤ pos c.args.radius) one =
    simp to_z-of_z at c.min.ensures.value ∙ ap (λ (z : ℤ). int_min z one) near_high in
    let max_fits : FitsSigned w128 c.max.result = search rules in
    let min_fits : FitsSigned w128 c.min.result = search rules in
    let lo = simp to_z-of_z at c.mul.ensures.lo in
    let hi = simp to_z-of_z at c.mul.ensures.hi in
    rw (lo, hi, low, high) (square_narrow _ _ c.args.radius
    (met_low c.args.number c.args.radius c.requires.number) (met_high c.args.number c.args.radius c.requires.number)
    (met_ordered c.args.number c.args.radius c.requires.number) (met_narrow c.args.number c.args.radius))

pub returns-clause-small : goal.returns-clause-small
returns-clause-small c =
    let number_fits : FitsSigned w128 c.args.number = search rules in
    let lo_fits : FitsSigned w128 c.within-near.result.lo = search rules in
    let hi_fits : FitsSigned w128 c.within-near.result.hi = search rules in
    let near_low = simp to_z-of_z at c.within-near.ensures.lo in
    let near_high = simp to_z-of_z at c.within-near.ensures.hi in
    let low : c.max.result ≡ int_max (c.args.number -ℤ pos c.args.radius) minus_one =
    simp to_z-of_z at c.max.ensures.value ∙ ap (λ (z : ℤ). int_max z minus_one) near_low in
    let high : c.min.result ≡ int_min (c.args.number +ℤ pos c.args.radius) one =
    simp to_z-of_z at c.min.ensures.value ∙ ap (λ (z : ℤ). int_min z one) near_high in
    let max_fits : FitsSigned w128 c.max.result = search rules in
    let min_fits : FitsSigned w128 c.min.result = search rules in
    let lo = simp to_z-of_z at c.mul.ensures.lo in
    let hi = simp to_z-of_z at c.mul.ensures.hi in
    record {
      lo = rw (lo, low, high) (square_low _ _ c.args.radius
          (met_low c.args.number c.args.radius c.requires.number)
          (met_high c.args.number c.args.radius c.requires.number)
          (met_ordered c.args.number c.args.radius c.requires.number) (met_narrow c.args.number c.args.radius));
      hi = rw (hi, low, high) (square_high _ _ c.args.radius
          (met_low c.args.number c.args.radius c.requires.number)
          (met_high c.args.number c.args.radius c.requires.number)
          (met_ordered c.args.number c.args.radius c.requires.number) (met_narrow c.args.number c.args.radius));
    }

pub returns-clause-holds : goal.returns-clause-holds
returns-clause-holds c x small near =
    let number_fits : FitsSigned w128 c.args.number = search rules in
    let lo_fits : FitsSigned w128 c.within-near.result.lo = search rules in
    let hi_fits : FitsSigned w128 c.within-near.result.hi = search rules in
    let near_low = simp to_z-of_z at c.within-near.ensures.lo in
    let near_high = simp to_z-of_z at c.within-near.ensures.hi in
    let low : c.max.result ≡ int_max (c.args.number -ℤ pos c.args.radius) minus_one =
    simp to_z-of_z at c.max.ensures.value ∙ ap (λ (z : ℤ). int_max z minus_one) near_low in
    let high : c.min.result ≡ int_min (c.args.number +ℤ pos c.args.radius) one =
    simp to_z-of_z at c.min.ensures.value ∙ ap (λ (z : ℤ). int_min z one) near_high in
    let max_fits : FitsSigned w128 c.max.result = search rules in
    let min_fits : FitsSigned w128 c.min.result = search rules in
    c.mul.ensures.encloses x x
    (lies_met c.args.number c.args.radius x _ (simp to_z-of_z low) (simp to_z-of_z high) small near)
    (lies_met c.args.number c.args.radius x _ (simp to_z-of_z low) (simp to_z-of_z high) small near)
