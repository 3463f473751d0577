use Rattle.std.proofs.Common.{◌-◌, ◌*◌, ◌^◌, ◌≤◌, ℤ, pos, ◌*ℤ◌, FitsSigned, arith, rules}
use Rattle.std.specs.Prelude.{unsigned_abs}
use Rattle.std.specs.Int.{w128, int_shr}
use Rattle.std.proofs.lemmas.Int.{ints, to_z-of_z, fits_signed_from_abs}
use Rattle.fixed_num.proofs.Shifts.{shifted_scale, shifted_size}
use Rattle.fixed_num.proofs.scaling.scale_floor.Goals as goal

product_fits : (v : ℤ) → unsigned_abs v ≤ 2 ^ 100 → FitsSigned w128 (v *ℤ pos 15625)
product_fits v small = omega (arith, ints)

product_size : (v : ℤ) → unsigned_abs v ≤ 2 ^ 100 → unsigned_abs (v *ℤ pos 15625) ≤ 4 * 2 ^ 112
product_size v small = omega (arith, ints)

pub returns-clause-value : goal.returns-clause-value
returns-clause-value c =
    let number_fits : FitsSigned w128 c.args.v = search rules in
    let product_fits = product_fits c.args.v c.requires.number in
    let product = product_size c.args.v c.requires.number in
    let size = shifted_size (c.args.v *ℤ pos 15625) (58 - c.args.g) (2 ^ 112) (omega arith) product in
    let fits = fits_signed_from_abs w128 (int_shr (c.args.v *ℤ pos 15625) (58 - c.args.g)) (omega arith) in
    simp to_z-of_z (shifted_scale c.args.v c.args.g c.requires.scale)

pub returns-clause-size : goal.returns-clause-size
returns-clause-size c =
    let number_fits : FitsSigned w128 c.args.v = search rules in
    let product_fits = product_fits c.args.v c.requires.number in
    let product = product_size c.args.v c.requires.number in
    let size = shifted_size (c.args.v *ℤ pos 15625) (58 - c.args.g) (2 ^ 112) (omega arith) product in
    let fits = fits_signed_from_abs w128 (int_shr (c.args.v *ℤ pos 15625) (58 - c.args.g)) (omega arith) in
    simp to_z-of_z size
