-- How large the numbers of the formulas become at the ends of their conditions.
use Rattle.std.proofs.Common.{◌≡◌, ℕ, ◌+◌, ◌-◌, ◌*◌, ◌^◌, ◌<◌, ◌≤◌, ap, sym, ◌∙◌, lit<, arith}
use Rattle.std.proofs.Math.Nat.{pow-le-pow_right, mul-mod_left, mul-div_cancel, mul_assoc}
use Rattle.std.proofs.lemmas.Nat.{mul-le, pow-add}
use Rattle.std.specs.Int.{div_ceil}

-- a bound with a scale is at most 2^66
pub scale_limit : (bound g : ℕ) → g ≤ 56 → bound ≤ 1024 * 2 ^ g → bound ≤ 2 ^ 66
scale_limit bound g small enough =
    let power : 2 ^ g ≤ 2 ^ 56 = pow-le-pow_right (lit< tt) small in
    omega arith

pub double_at_scale : (w g : ℕ) → w ≤ 2 ^ 45 → g ≤ 56 → 2 * w * 2 ^ g ≤ 2 ^ 102
double_at_scale w g ledger scale =
    mul-le (2 * w) (2 ^ g) (2 ^ 46) (2 ^ 56) (omega arith) (pow-le-pow_right (lit< tt) scale)

pub fourth_power : (g m : ℕ) → g ≤ m → 4 ^ g ≤ 4 ^ m
fourth_power g m order = pow-le-pow_right (lit< tt) order

pub squared_product : (units g m : ℕ) → units ≤ 2 ^ 48 → g ≤ m → units * 4 ^ g ≤ 2 ^ 48 * 4 ^ m
squared_product units g m number order = mul-le units (4 ^ g) (2 ^ 48) (4 ^ m) number (fourth_power g m order)

pub div_ceil-multiple : (n d : ℕ) → 0 < d → div_ceil (n * d) d ≡ n
div_ceil-multiple n d positive = omega (arith, mul-div_cancel n positive, mul-mod_left n d)

-- from g = 32 on the quotient by 2^64 is whole
pub whole_quotient : (units g : ℕ) → 32 ≤ g → units * 4 ^ (g - 32) ≡ div_ceil (units * 4 ^ g) (2 ^ 64)
whole_quotient units g order =
    let places : (g - 32) + 32 ≡ g = omega arith in
    let power : 4 ^ (g - 32) * 2 ^ 64 ≡ 4 ^ g = sym (pow-add 4 (g - 32) 32) ∙ ap (λ k. 4 ^ k) places in
    let product : units * 4 ^ (g - 32) * 2 ^ 64 ≡ units * 4 ^ g =
    mul_assoc units (4 ^ (g - 32)) (2 ^ 64) ∙ ap (λ n. units * n) power in
    sym (div_ceil-multiple (units * 4 ^ (g - 32)) (2 ^ 64) (lit< tt)) ∙ ap (λ n. div_ceil n (2 ^ 64)) product
