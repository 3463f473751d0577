use Rattle.std.proofs.Common.{◌*◌, ◌^◌, nat_le, length, pos, get_or, FitsSigned, arith, rules}
use Rattle.std.specs.Prelude.{unsigned_abs}
use Rattle.std.specs.Int.{w64}
use Rattle.std.proofs.lemmas.Int.{to_z-of_z}
use Rattle.named_numbers.specs.Numbers.{most_coefficient}
use Rattle.file_checks.proofs.SizeLemmas.{all_of, all_of-fails, size_above}
use Rattle.model_laws.proofs.MonthPowers.{product_fits, power_fits}
use Rattle.file_changes.proofs.step_sizes.is_bounded.Goals as goal

pub overflow_mul-from : goal.overflow_mul-from
overflow_mul-from c =
    omega (
      arith,
      product_fits c.from.result c.loop-number.power c.args.months c.loop-number.number-index
          (omega arith) c.loop-number.invariant.0 c.requires.term (omega arith),
    )

pub overflow_mul-power : goal.overflow_mul-power
overflow_mul-power c =
    omega (
      arith,
      power_fits c.loop-number.power c.from-power.result c.args.months c.loop-number.number-index
          c.loop-number.invariant.0 c.from-power.ensures c.requires.term (omega arith),
    )

pub returns-then-from-power-gt-MOST_COEFFICIENT : goal.returns-then-from-power-gt-MOST_COEFFICIENT
returns-then-from-power-gt-MOST_COEFFICIENT c =
    let number_fits : FitsSigned w64 (get_or c.args.c.now c.loop-number.number-index (pos 0)) = search rules in
    let size = simp to_z-of_z at c.unsigned_abs.ensures.value in
    all_of-fails (λ i. nat_le (unsigned_abs (get_or c.args.c.now i (pos 0)) * c.args.months ^ i) most_coefficient)
    (length c.args.c.now) c.loop-number.number-index (λ i. i) (omega arith)
    (size_above c.from.result c.unsigned_abs.result _ c.loop-number.power c.args.months c.loop-number.number-index
    most_coefficient c.from.ensures size c.loop-number.invariant.0 c.if-from-power-gt-MOST_COEFFICIENT.true)

pub returns : goal.returns
returns c =
    all_of (λ i. nat_le (unsigned_abs (get_or c.args.c.now i (pos 0)) * c.args.months ^ i) most_coefficient)
    (length c.args.c.now) (λ i. i) (λ i below. c.loop-number.invariant.1 i (omega arith))
