use Rattle.std.proofs.Common.{◌*◌, ◌^◌, pos, FitsSigned, arith, rules, ap, ◌∙◌}
use Rattle.std.specs.Int.{w64, w128, int_div_euclid, int_shr}
use Rattle.std.proofs.lemmas.Int.{to_z-of_z, fits_signed_from_abs}
use Rattle.frac_laws.specs.Rounding.{floor_of}
use Rattle.fixed_num.proofs.Shifts.{floor_in_two, sum_shifted_size}
use Rattle.fixed_num.proofs.dot_product.dot.Goals as goal

pub returns-clause-value : goal.returns-clause-value
returns-clause-value c =
    let size = sum_shifted_size c.exact_sum.result c.exact_sum.ensures.size in
    let sum_fits : FitsSigned w128 c.exact_sum.result = search rules in
    let wide = fits_signed_from_abs w128 (int_shr c.exact_sum.result 64) (omega arith) in
    let narrow = fits_signed_from_abs w64 (int_shr c.exact_sum.result 64) (omega arith) in
    let divisor_fits : FitsSigned w64 c.from.result = search rules in
    let quotient_fits : FitsSigned w64 c.div_euclid.result = search rules in
    let result_fits : FitsSigned w128 c.from-2.result = search rules in
    let widened = simp to_z-of_z at c.from-2.ensures in
    let divided = simp to_z-of_z at c.div_euclid.ensures in
    simp to_z-of_z (widened ∙ divided
    ∙ ap (λ d. int_div_euclid (int_shr c.exact_sum.result 64) d) c.from.ensures
    ∙ floor_in_two c.exact_sum.result c.args.div
    ∙ ap (λ z. floor_of z (pos (2 ^ 64 * c.args.div))) c.exact_sum.ensures.value)
