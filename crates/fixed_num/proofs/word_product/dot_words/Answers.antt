use Rattle.std.proofs.Common.{◌*◌, ◌^◌, ◌<◌, ◌+ℤ◌, pos, FitsSigned, arith, rules, ap, ◌∙◌}
use Rattle.std.specs.Prelude.{unsigned_abs}
use Rattle.std.specs.Int.{w64, w128, int_shr}
use Rattle.std.proofs.lemmas.Int.{to_z-of_z, fits_signed_from_abs}
use Rattle.frac_laws.specs.Rounding.{floor_of}
use Rattle.fixed_num.proofs.Shifts.{floor_in_two, sum_shifted_size}
use Rattle.whole_laws.proofs.Numbers.{size_of_sum}
use Rattle.fixed_num.proofs.word_product.dot_words.Goals as goal

pub returns-clause-value : goal.returns-clause-value
returns-clause-value c =
    let whole = c.args.more +ℤ c.exact_sum_of_words.result in
    let small : unsigned_abs whole < 2 ^ 126 =
    omega (
      arith,
      size_of_sum c.args.more c.exact_sum_of_words.result,
      c.exact_sum_of_words.ensures.size,
      c.requires.fits,
    ) in
    let size = sum_shifted_size whole small in
    let more_fits : FitsSigned w128 c.args.more = search rules in
    let sum_fits : FitsSigned w128 c.exact_sum_of_words.result = search rules in
    let whole_fits = fits_signed_from_abs w128 whole (omega (arith, small)) in
    let wide = fits_signed_from_abs w128 (int_shr whole 64) (omega (arith, size)) in
    let narrow = fits_signed_from_abs w64 (int_shr whole 64) (omega (arith, size)) in
    let part_fits : FitsSigned w64 c.part_of.result = search rules in
    let part = simp to_z-of_z at c.part_of.ensures in
    simp to_z-of_z (part ∙ floor_in_two whole c.args.div
    ∙ ap (λ z. floor_of (c.args.more +ℤ z) (pos (2 ^ 64 * c.args.div))) c.exact_sum_of_words.ensures.value)
