use Rattle.std.proofs.Common.{◌≤◌, length, arith}
use Rattle.decimal_in.proofs.Digits.{digits_grow}
use Rattle.decimal_in.proofs.decimals.whole.Goals as goal

pub returns-then-not-needless_zero-clause-small : goal.returns-then-not-needless_zero-clause-small
returns-then-not-needless_zero-clause-small c =
    let count : length c.args.text.now ≤ 18 = grind arith in
    omega (arith, c.value.ensures.small, digits_grow (length c.args.text.now) 18 count)
