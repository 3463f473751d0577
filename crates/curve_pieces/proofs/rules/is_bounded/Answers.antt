use Rattle.std.proofs.Common.{◌*◌, ◌^◌, ◌≤◌, pos, get_or, FitsSigned, arith, rules, below_more}
use Rattle.std.specs.Prelude.{unsigned_abs}
use Rattle.std.specs.Int.{w64}
use Rattle.std.proofs.lemmas.Int.{to_z-of_z}
use Rattle.named_numbers.specs.Numbers.{most_coefficient}
use Rattle.curve_pieces.proofs.Bounds.{next_power, within_limit}
use Rattle.model_laws.proofs.MonthPowers.{product_fits, power_fits}
use Rattle.curve_pieces.proofs.rules.is_bounded.Goals as goal

pub overflow_mul-from : goal.overflow_mul-from
overflow_mul-from c =
    omega (
      arith,
      product_fits c.from.result c.loop-number.power c.args.months c.loop-number.number-index
          (omega arith) c.loop-number.invariant.0 c.requires (omega arith),
    )

pub overflow_mul-power : goal.overflow_mul-power
overflow_mul-power c =
    omega (
      arith,
      power_fits c.loop-number.power c.from-power.result c.args.months c.loop-number.number-index
          c.loop-number.invariant.0 c.from-power.ensures c.requires (omega arith),
    )

pub loop-number-preserved : goal.loop-number-preserved
loop-number-preserved c =
    let number_fits : FitsSigned w64 (get_or c.args.c.now c.loop-number.number-index (pos 0)) = search rules in
    let size = simp to_z-of_z at c.unsigned_abs.ensures.value in
    let within : unsigned_abs (get_or c.args.c.now c.loop-number.number-index (pos 0)) *
    c.args.months ^ c.loop-number.number-index ≤ most_coefficient =
    within_limit c.from.result c.unsigned_abs.result _ c.loop-number.power c.args.months c.loop-number.number-index
    most_coefficient c.from.ensures size c.loop-number.invariant.0 c.if-from-power-gt-MOST_COEFFICIENT.false in (
      next_power c.loop-number.power c.from-power.result c.args.months c.loop-number.number-index
          c.loop-number.invariant.0 c.from-power.ensures,
      below_more _ _ c.loop-number.invariant.1 within,
    )
