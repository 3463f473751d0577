-- How large a number of some digits is.
use Rattle.std.proofs.Common.{◌≡◌, ℕ, zero, ◌+◌, ◌-◌, ◌*◌, ◌^◌, ◌<◌, ◌≤◌, sym, ap, ◌∙◌, arith}
use Rattle.std.proofs.Math.Nat.{pow-le-pow_right, mul-lt-mul_of_pos_right}
use Rattle.std.proofs.lemmas.Nat.{pow-add}
use Rattle.std.proofs.lemmas.Grind.{pow_more}

-- fewer digits make no larger numbers
pub digits_grow : (i j : ℕ) → i ≤ j → 10 ^ i ≤ 10 ^ j
digits_grow i j few = let some : zero < 10 = omega arith in pow-le-pow_right some few

-- one more digit
pub one_more_digit : (sum digit i : ℕ) → sum < 10 ^ i → digit < 10 → sum * 10 + digit < 10 ^ (i + 1)
one_more_digit sum digit i small one = rw (pow_more 10 i) (omega (arith, small, one))

-- a number of up to 17 digits has room for one more
pub has_room : (sum i : ℕ) → i < 18 → sum < 10 ^ i → sum < 10 ^ 17
has_room sum i few small = omega (arith, small, digits_grow i 17 (omega (arith, few)))

-- up to six digits, filled up to six with zeros behind them
pub six_digits : (number count : ℕ) → count ≤ 6 → number < 10 ^ count → number * 10 ^ (6 - count) < 10 ^ 6
six_digits number count few small =
    let filled : count + (6 - count) ≡ 6 = omega (arith, few) in
    let whole : 10 ^ count * 10 ^ (6 - count) ≡ 10 ^ 6 =
    sym (pow-add 10 count (6 - count)) ∙ ap (λ n. 10 ^ n) filled in
    let scale : 1 ≤ 10 ^ (6 - count) = digits_grow 0 (6 - count) (omega arith) in
    omega (arith, whole, mul-lt-mul_of_pos_right small scale)
