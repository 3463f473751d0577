-- Shifts to the right as floors.
use Rattle.std.proofs.Common.{◌≡◌, ℕ, ◌+◌, ◌-◌, ◌*◌, ◌/◌, ◌^◌, ◌<◌, ◌≤◌, ℤ, pos, negsuc, ◌*ℤ◌}
use Rattle.std.proofs.Common.{ap, sym, ◌∙◌, arith}
use Rattle.std.specs.Prelude.{unsigned_abs}
use Rattle.std.specs.Int.{int_shr}
use Rattle.std.proofs.lemmas.Nat.{pow-add, pow_pos, shr-shr, shr_le, shr_below}
use Rattle.std.proofs.Math.Nat.{div-div-eq-div-mul}
use Rattle.frac_laws.specs.Rounding.{floor_of}
use Rattle.frac_laws.proofs.WholeProducts.{product-product}
use Rattle.frac_laws.proofs.RoundingLaws.{floor-common_factor}
use Rattle.frac_laws.proofs.Floors.{shift-floor}

factor : (g : ℕ) → 15625 * 2 ^ (g + 6) ≡ 2 ^ g * 10 ^ 6
factor g = omega (arith, pow-add 2 g 6)

whole_shift : (g : ℕ) → g ≤ 56 → 2 ^ (58 - g) * 2 ^ (g + 6) ≡ 2 ^ 64
whole_shift g scale =
    let whole : (58 - g) + (g + 6) ≡ 64 = omega arith in
    sym (pow-add 2 (58 - g) (g + 6)) ∙ ap (λ k. 2 ^ k) whole

-- the shift of v * 15625 by 58 - g is the floor of v * 2^g * 10^6 / 2^64
pub shifted_scale : (v : ℤ) (g : ℕ) → g ≤ 56
    → int_shr (v *ℤ pos 15625) (58 - g) ≡ floor_of (v *ℤ pos (2 ^ g * 10 ^ 6)) (pos (2 ^ 64))
shifted_scale v g scale =
    let numerator : (v *ℤ pos 15625) *ℤ pos (2 ^ (g + 6)) ≡ v *ℤ pos (2 ^ g * 10 ^ 6) =
    product-product v 15625 (2 ^ (g + 6)) ∙ ap (λ m. v *ℤ pos m) (factor g) in
    shift-floor (v *ℤ pos 15625) (58 - g)
    ∙ sym (floor-common_factor (v *ℤ pos 15625) (2 ^ (58 - g)) (2 ^ (g + 6)) (pow_pos (g + 6)))
    ∙ ap (λ z. floor_of z (pos (2 ^ (58 - g) * 2 ^ (g + 6)))) numerator
    ∙ ap (λ m. floor_of (v *ℤ pos (2 ^ g * 10 ^ 6)) (pos m)) (whole_shift g scale)

-- a shift by two places or more leaves at most a quarter
quarter : (n k : ℕ) → 2 ≤ k → n / 2 ^ k ≤ n / 4
quarter n k two =
    let places : 2 + (k - 2) ≡ k = omega arith in
    let split : n / 2 ^ 2 / 2 ^ (k - 2) ≡ n / 2 ^ k = shr-shr n 2 (k - 2) ∙ ap (λ j. n / 2 ^ j) places in
    omega (arith, shr_le (n / 4) (k - 2))

pub shifted_size : (z : ℤ) (k m : ℕ) → 2 ≤ k → unsigned_abs z ≤ 4 * m → unsigned_abs (int_shr z k) ≤ m
shifted_size (pos n) k m two small = omega (arith, quarter n k two)
shifted_size (negsuc n) k m two small = omega (arith, quarter n k two)

-- ---- the dot product's quotient

-- a sum below 2^126 in size, shifted by 64 places
pub sum_shifted_size : (z : ℤ) → unsigned_abs z < 2 ^ 126 → unsigned_abs (int_shr z 64) ≤ 2 ^ 62
sum_shifted_size (pos n) small = omega (arith, shr_below n 62 64 (omega arith))
sum_shifted_size (negsuc n) small = omega (arith, shr_below n 62 64 (omega arith))

-- the floor by 2^64 and then by d is the floor by their product
pub floor_in_two : (z : ℤ) (d : ℕ) → floor_of (int_shr z 64) (pos d) ≡ floor_of z (pos (2 ^ 64 * d))
floor_in_two (pos n) d = ap pos (div-div-eq-div-mul n (2 ^ 64) d)
floor_in_two (negsuc n) d = ap negsuc (div-div-eq-div-mul n (2 ^ 64) d)
