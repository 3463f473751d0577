use Rattle.std.proofs.Common.{◌^◌, ◌≤◌, ℤ, pos, ◌+ℤ◌, ◌*ℤ◌, FitsSigned, rules, sym, subst, ap, ◌∙◌}
use Rattle.std.specs.Prelude.{unsigned_abs}
use Rattle.std.specs.Int.{w128}
use Rattle.std.proofs.lemmas.Int.{to_z-of_z}
use Rattle.frac_laws.specs.Rounding.{floor_of}
use Rattle.fixed_interval.proofs.TwoFloors.{two_floors, high_size, low_size, high_fits, low_fits, sum_fits}
use Rattle.fixed_interval.proofs.TwoFloors.{floor_size}
use Rattle.fixed_interval.proofs.products.floor_product.Goals as goal

pub overflow_mul-halves : goal.overflow_mul-halves
overflow_mul-halves c =
    let halves = c.halves_of-halves.result in
    let a_fits : FitsSigned w128 c.args.a = search rules in
    let b_fits : FitsSigned w128 c.args.b = search rules in
    let low_part : FitsSigned w128 c.halves_of-halves.result.low = search rules in
    let parts = simp to_z-of_z at c.halves_of-halves.ensures in
    simp to_z-of_z (low_fits (halves.low *ℤ c.args.b)
    (low_size c.args.a c.args.b halves.high halves.low parts c.requires.factor))

pub overflow_mul-halves-2 : goal.overflow_mul-halves-2
overflow_mul-halves-2 c =
    let halves = c.halves_of-halves.result in
    let a_fits : FitsSigned w128 c.args.a = search rules in
    let b_fits : FitsSigned w128 c.args.b = search rules in
    let high_part : FitsSigned w128 c.halves_of-halves.result.high = search rules in
    let parts = simp to_z-of_z at c.halves_of-halves.ensures in
    let size = high_size c.args.a c.args.b halves.high halves.low parts c.requires.factor c.requires.product in
    simp to_z-of_z (high_fits (halves.high *ℤ c.args.b) size)

pub overflow_add-halves : goal.overflow_add-halves
overflow_add-halves c =
    let halves = c.halves_of-halves.result in
    let a_fits : FitsSigned w128 c.args.a = search rules in
    let b_fits : FitsSigned w128 c.args.b = search rules in
    let high_part : FitsSigned w128 c.halves_of-halves.result.high = search rules in
    let low_part : FitsSigned w128 c.halves_of-halves.result.low = search rules in
    let carry_fits : FitsSigned w128 c.half_word_floor-carry.result = search rules in
    let parts = simp to_z-of_z at c.halves_of-halves.ensures in
    let high = high_size c.args.a c.args.b halves.high halves.low parts c.requires.factor c.requires.product in
    let low = low_size c.args.a c.args.b halves.high halves.low parts c.requires.factor in
    let high_product = high_fits (halves.high *ℤ c.args.b) high in
    let low_product = low_fits (halves.low *ℤ c.args.b) low in
    let carry = simp to_z-of_z at c.half_word_floor-carry.ensures in
    let P : ℤ → Type 0 = λ z. FitsSigned w128 ((halves.high *ℤ c.args.b) +ℤ z) in
    simp to_z-of_z (subst P (sym carry) (sum_fits (halves.high *ℤ c.args.b) (halves.low *ℤ c.args.b) high low))

pub returns-clause-value : goal.returns-clause-value
returns-clause-value c =
    let halves = c.halves_of-halves.result in
    let a_fits : FitsSigned w128 c.args.a = search rules in
    let b_fits : FitsSigned w128 c.args.b = search rules in
    let high_part : FitsSigned w128 c.halves_of-halves.result.high = search rules in
    let low_part : FitsSigned w128 c.halves_of-halves.result.low = search rules in
    let carry_fits : FitsSigned w128 c.half_word_floor-carry.result = search rules in
    let result_fits : FitsSigned w128 c.half_word_floor.result = search rules in
    let parts = simp to_z-of_z at c.halves_of-halves.ensures in
    let high = high_size c.args.a c.args.b halves.high halves.low parts c.requires.factor c.requires.product in
    let low = low_size c.args.a c.args.b halves.high halves.low parts c.requires.factor in
    let high_product = high_fits (halves.high *ℤ c.args.b) high in
    let low_product = low_fits (halves.low *ℤ c.args.b) low in
    let carry = simp to_z-of_z at c.half_word_floor-carry.ensures in
    let P : ℤ → Type 0 = λ z. FitsSigned w128 ((halves.high *ℤ c.args.b) +ℤ z) in
    let sum = subst P (sym carry) (sum_fits (halves.high *ℤ c.args.b) (halves.low *ℤ c.args.b) high low) in
    let result = simp to_z-of_z at c.half_word_floor.ensures in
    simp to_z-of_z (result ∙ ap (λ z. floor_of ((halves.high *ℤ c.args.b) +ℤ z) (pos (2 ^ 32))) carry
    ∙ two_floors c.args.a c.args.b halves.high halves.low parts)

pub returns-clause-size : goal.returns-clause-size
returns-clause-size c =
    let P : ℤ → Type 0 = λ z. unsigned_abs z ≤ 2 ^ 79 in
    subst P (sym (returns-clause-value c)) (floor_size c.args.a c.args.b c.requires.product)
