use Rattle.std.proofs.Common.{◌^◌, ◌≤◌, ℤ, ◌*ℤ◌, FitsSigned, rules, ap, sym, subst}
use Rattle.std.specs.Prelude.{unsigned_abs}
use Rattle.std.specs.Int.{w128}
use Rattle.std.proofs.lemmas.Int.{to_z-of_z}
use Rattle.fixed_interval.proofs.Midpoints.{power_read, scaled_fits, scaled_size}
use Rattle.fixed_interval.proofs.around.scaled.Goals as goal

pub overflow_mul-result : goal.overflow_mul-result
overflow_mul-result c =
    let number_fits : FitsSigned w128 c.args.number = search rules in
    let read = power_read c.pow.result c.args.g c.pow.ensures c.requires.scale in
    let P : ℤ → Type 0 = λ z. FitsSigned w128 (c.args.number *ℤ z) in
    simp to_z-of_z (subst P (sym read) (scaled_fits c.args.number c.args.g c.requires.number c.requires.scale))

pub returns-clause-value : goal.returns-clause-value
returns-clause-value c =
    let number_fits : FitsSigned w128 c.args.number = search rules in
    let read = power_read c.pow.result c.args.g c.pow.ensures c.requires.scale in
    let P : ℤ → Type 0 = λ z. FitsSigned w128 (c.args.number *ℤ z) in
    let fits = subst P (sym read) (scaled_fits c.args.number c.args.g c.requires.number c.requires.scale) in
    simp to_z-of_z (ap (λ z. c.args.number *ℤ z) read)

pub returns-clause-size : goal.returns-clause-size
returns-clause-size c =
    let P : ℤ → Type 0 = λ z. unsigned_abs z ≤ 2 ^ 122 in
    subst P (sym (returns-clause-value c))
    (scaled_size c.args.number c.args.g c.requires.number c.requires.scale)
