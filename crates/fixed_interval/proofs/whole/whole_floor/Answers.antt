use Rattle.std.proofs.Common.{◌-◌, ◌*◌, ◌∙◌, ap, ℤ, ◌*ℤ◌, FitsSigned, arith, rules}
use Rattle.std.specs.Int.{w128, int_shr}
use Rattle.std.proofs.lemmas.Int.{to_z-of_z}
use Rattle.fixed_interval.proofs.WholeEnds.{shifted_whole, product_whole, product_size, product_fits}
use Rattle.fixed_interval.proofs.whole.whole_floor.Goals as goal

pub overflow_mul-result-else-g-lt32 : goal.overflow_mul-result-else-g-lt32
overflow_mul-result-else-g-lt32 c =
    let number_fits : FitsSigned w128 c.args.v = search rules in
    let pow_fits : FitsSigned w128 c.pow.result = search rules in
    simp to_z-of_z (rw c.pow.ensures (product_fits c.args.v c.args.g c.requires.number c.requires.scale))

pub returns-then-g-lt32-clause-value : goal.returns-then-g-lt32-clause-value
returns-then-g-lt32-clause-value c =
    let number_fits : FitsSigned w128 c.args.v = search rules in
    let shift_fits : FitsSigned w128 (int_shr c.args.v (64 - 2 * c.args.g)) = search rules in
    simp to_z-of_z (shifted_whole c.args.v c.args.g c.if-g-lt32.true)

pub returns-else-g-lt32-clause-value : goal.returns-else-g-lt32-clause-value
returns-else-g-lt32-clause-value c =
    let number_fits : FitsSigned w128 c.args.v = search rules in
    let pow_fits : FitsSigned w128 c.pow.result = search rules in
    let product_fits : FitsSigned w128 (c.args.v *ℤ c.pow.result) =
    rw c.pow.ensures (product_fits c.args.v c.args.g c.requires.number c.requires.scale) in
    simp to_z-of_z (ap (λ (z : ℤ). c.args.v *ℤ z) c.pow.ensures
    ∙ product_whole c.args.v c.args.g (omega (arith, c.if-g-lt32.false)))

pub returns-else-g-lt32-clause-size : goal.returns-else-g-lt32-clause-size
returns-else-g-lt32-clause-size c =
    let number_fits : FitsSigned w128 c.args.v = search rules in
    let pow_fits : FitsSigned w128 c.pow.result = search rules in
    let product_fits : FitsSigned w128 (c.args.v *ℤ c.pow.result) =
    rw c.pow.ensures (product_fits c.args.v c.args.g c.requires.number c.requires.scale) in
    simp to_z-of_z (rw c.pow.ensures (product_size c.args.v c.args.g c.requires.number c.requires.scale))
