use Rattle.std.proofs.Common.{◌≤◌, length, arith}
use Rattle.decimal_in.proofs.Digits.{six_digits}
use Rattle.decimal_in.proofs.decimals.fraction.Goals as goal

pub returns-then-are_digits-clause-small : goal.returns-then-are_digits-clause-small
returns-then-are_digits-clause-small c =
    let count : length c.args.text.now ≤ 6 = grind arith in
    rw c.pow.ensures (six_digits c.value.result (length c.args.text.now) count c.value.ensures.small)
