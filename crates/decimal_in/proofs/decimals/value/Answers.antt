use Rattle.std.proofs.Common.{◌<◌, arith}
use Rattle.decimal_in.proofs.Digits.{has_room}
use Rattle.decimal_in.proofs.decimals.value.Goals as goal

pub overflow_mul-sum : goal.overflow_mul-sum
overflow_mul-sum c =
    let count : c.loop-digit.digit-index < 18 = omega (arith, c.requires.count) in
    omega (arith, has_room c.loop-digit.sum c.loop-digit.digit-index count c.loop-digit.invariant.small)

pub overflow_add-sum : goal.overflow_add-sum
overflow_add-sum c =
    let count : c.loop-digit.digit-index < 18 = omega (arith, c.requires.count) in
    omega (
      arith,
      c.from.ensures,
      has_room c.loop-digit.sum c.loop-digit.digit-index count c.loop-digit.invariant.small,
    )
