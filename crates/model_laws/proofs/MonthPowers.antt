-- Powers of a number of months fit.
use Rattle.std.proofs.Common.{ℕ, ◌^◌, ◌≤◌, arith, ◌≡◌, ◌*◌, ◌<◌}
use Rattle.std.proofs.Math.Nat.{pow-le-pow_left, pow-le-pow_right, mul-le-mul_left}
use Rattle.named_numbers.specs.Numbers.{most_months}

pub months_power : (m i : ℕ) → m ≤ most_months → i ≤ 5 → m ^ i ≤ most_months ^ 5
months_power m i small five =
    omega (arith, pow-le-pow_left small i, pow-le-pow_right {n = most_months} (omega arith) five)

pub product_fits : (a b m i : ℕ) → a < 2 ^ 64 → b ≡ m ^ i → m ≤ most_months → i ≤ 5 → a * b < 2 ^ 128
product_fits a b m i small e few five =
    let power : b ≤ most_months ^ 5 = rw e (months_power m i few five) in
    omega (arith, mul-le-mul_left a power)

pub power_fits : (b f m i : ℕ) → b ≡ m ^ i → f ≡ m → m ≤ most_months → i ≤ 5 → b * f < 2 ^ 128
power_fits b f m i e k few five =
    let power : b ≤ most_months ^ 5 = rw e (months_power m i few five) in
    let factor : f ≤ most_months = rw k few in
    omega (arith, mul-le-mul_left b factor)
