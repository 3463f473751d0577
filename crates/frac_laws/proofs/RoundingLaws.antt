-- The laws of the floor and the ceiling of a quotient.
use Rattle.std.proofs.Common.{◌≡◌, ℕ, zero, suc, ◌+◌, ◌*◌, ◌/◌, ◌<◌, ◌≤◌, ap, sym, ◌∙◌, arith}
use Rattle.std.proofs.Common.{ℤ, pos, negsuc, neg_ℤ, ◌+ℤ◌, ◌-ℤ◌, ◌*ℤ◌, ◌≤ℤ◌, ◌<ℤ◌}
use Rattle.std.specs.Prelude.{unsigned_abs}
use Rattle.std.specs.Int.{int_rem_euclid}
use Rattle.std.proofs.lemmas.Int.{ints}
use Rattle.std.proofs.lemmas.Nat.{div-mul-add}
use Rattle.std.proofs.Math.IntN.{pos-*ℤ-pos, negsuc-*ℤ-pos}
use Rattle.std.proofs.Math.Nat.{mul-div-mul_right, div-div-eq-div-mul, mul_comm}
use Rattle.frac_laws.specs.Rounding.{floor_of, ceiling_of}
use Rattle.frac_laws.proofs.WholeProducts.{neg-product, product_le, product_le_cancel, product_lt_next}

-- ---- quotient and remainder, the remainder from 0 to below the divisor

pub quotient_and_remainder : (a d : ℤ) → pos 0 <ℤ d → a ≡ (floor_of a d *ℤ d) +ℤ int_rem_euclid a d
quotient_and_remainder (pos a) (pos (suc d)) positive = grind (arith, ints)
quotient_and_remainder (negsuc a) (pos (suc d)) positive = grind (arith, ints)
quotient_and_remainder a (pos zero) positive = omega (arith, ints)
quotient_and_remainder a (negsuc d) positive = omega (arith, ints)

pub remainder_low : (a d : ℤ) → pos 0 <ℤ d → pos 0 ≤ℤ int_rem_euclid a d
remainder_low (pos a) (pos (suc d)) positive = omega (arith, ints)
remainder_low (negsuc a) (pos (suc d)) positive = omega (arith, ints)
remainder_low a (pos zero) positive = omega (arith, ints)
remainder_low a (negsuc d) positive = omega (arith, ints)

pub remainder_high : (a d : ℤ) → pos 0 <ℤ d → int_rem_euclid a d <ℤ d
remainder_high (pos a) (pos (suc d)) positive = omega (arith, ints)
remainder_high (negsuc a) (pos (suc d)) positive = omega (arith, ints)
remainder_high a (pos zero) positive = omega (arith, ints)
remainder_high a (negsuc d) positive = omega (arith, ints)

-- ---- the floor: its multiple of the divisor is at most the number, and the next multiple is above it

pub floor_low : (a d : ℤ) → pos 0 <ℤ d → (floor_of a d *ℤ d) ≤ℤ a
floor_low a d positive = omega (arith, ints, quotient_and_remainder a d positive, remainder_low a d positive)

pub floor_high : (a d : ℤ) → pos 0 <ℤ d → a <ℤ ((floor_of a d *ℤ d) +ℤ d)
floor_high a d positive =
    omega (arith, ints, quotient_and_remainder a d positive, remainder_high a d positive)

-- the floor is the one whole number that leaves a remainder from 0 to below the divisor
pub floor_unique : (a q r d : ℤ) → a ≡ (q *ℤ d) +ℤ r → pos 0 ≤ℤ r → r <ℤ d → floor_of a d ≡ q
floor_unique a q r (negsuc d) whole low high = absurd (omega (arith, ints))
floor_unique a q r (pos d) whole low high =
    let positive : pos 0 <ℤ pos d = omega (arith, ints) in
    let below = floor_low a (pos d) positive in
    let above = floor_high a (pos d) positive in
    let at_least = product_lt_next q (floor_of a (pos d)) d (omega (arith, ints)) in
    let at_most = product_lt_next (floor_of a (pos d)) q d (omega (arith, ints)) in
    omega (arith, ints)

-- a greater number has no smaller floor
pub floor_monotone : (a b d : ℤ) → pos 0 <ℤ d → a ≤ℤ b → floor_of a d ≤ℤ floor_of b d
floor_monotone a b (negsuc d) positive order = absurd (omega (arith, ints))
floor_monotone a b (pos d) positive order =
    let below = floor_low a (pos d) positive in
    let above = floor_high b (pos d) positive in
    product_lt_next (floor_of a (pos d)) (floor_of b (pos d)) d (omega (arith, ints))

pub floor-multiple : (q d : ℤ) → pos 0 <ℤ d → floor_of (q *ℤ d) d ≡ q
floor-multiple q d positive =
    floor_unique (q *ℤ d) q (pos 0) d (omega (arith, ints)) (omega (arith, ints)) positive

-- a common factor of numerator and divisor changes nothing
pub floor-common_factor : (a : ℤ) (d e : ℕ) → 0 < e → floor_of (a *ℤ pos e) (pos (d * e)) ≡ floor_of a (pos d)
floor-common_factor (pos a) d e positive =
    ap (λ z. floor_of z (pos (d * e))) (pos-*ℤ-pos a e) ∙ ap pos (mul-div-mul_right a d positive)
floor-common_factor (negsuc a) d (suc e) positive =
    let product : negsuc a *ℤ pos (suc e) ≡ negsuc (a * suc e + e) =
    omega (arith, ints, negsuc-*ℤ-pos a (suc e)) in
    let quotient : (a * suc e + e) / (d * suc e) ≡ a / d =
    ap (λ n. (a * suc e + e) / n) (mul_comm d (suc e))
    ∙ sym (div-div-eq-div-mul (a * suc e + e) (suc e) d)
    ∙ ap (λ n. n / d) (div-mul-add a (suc e) e (omega arith)) in
    ap (λ z. floor_of z (pos (d * suc e))) product ∙ ap negsuc quotient
floor-common_factor a d zero positive = absurd (omega arith)

-- a fraction of size at most 1, taken m times, has a floor of size at most m
pub floor_size : (a d : ℤ) (m : ℕ) → pos 0 <ℤ d → pos (unsigned_abs a) ≤ℤ d
    → unsigned_abs (floor_of (a *ℤ pos m) d) ≤ m
floor_size a (negsuc d) m positive within = absurd (omega (arith, ints))
floor_size a (pos d) m positive within =
    let multiple : pos m *ℤ pos d ≡ pos d *ℤ pos m =
    omega (arith, ints, pos-*ℤ-pos d m, pos-*ℤ-pos m d, mul_comm m d) in
    let opposite : neg_ℤ (pos m) *ℤ pos d ≡ neg_ℤ (pos d) *ℤ pos m =
    omega (arith, ints, neg-product (pos m) d, neg-product (pos d) m) in
    let high = product_le a (pos d) m (omega (arith, ints)) in
    let low = product_le (neg_ℤ (pos d)) a m (omega (arith, ints)) in
    let most = floor_monotone (a *ℤ pos m) (pos m *ℤ pos d) (pos d) positive (omega (arith, ints)) in
    let least = floor_monotone (neg_ℤ (pos m) *ℤ pos d) (a *ℤ pos m) (pos d) positive (omega (arith, ints)) in
    let greatest = floor-multiple (pos m) (pos d) positive in
    let smallest = floor-multiple (neg_ℤ (pos m)) (pos d) positive in
    omega (arith, ints)

-- ---- the ceiling: its multiple of the divisor is at least the number, and the multiple before it is below

pub ceiling_high : (a d : ℤ) → pos 0 <ℤ d → a ≤ℤ (ceiling_of a d *ℤ d)
ceiling_high a (negsuc d) positive = absurd (omega (arith, ints))
ceiling_high a (pos d) positive =
    omega (arith, ints, floor_low (neg_ℤ a) (pos d) positive, neg-product (floor_of (neg_ℤ a) (pos d)) d)

pub ceiling_low : (a d : ℤ) → pos 0 <ℤ d → ((ceiling_of a d *ℤ d) -ℤ d) <ℤ a
ceiling_low a (negsuc d) positive = absurd (omega (arith, ints))
ceiling_low a (pos d) positive =
    omega (arith, ints, floor_high (neg_ℤ a) (pos d) positive, neg-product (floor_of (neg_ℤ a) (pos d)) d)

-- a greater number has no smaller ceiling
pub ceiling_monotone : (a b d : ℤ) → pos 0 <ℤ d → a ≤ℤ b → ceiling_of a d ≤ℤ ceiling_of b d
ceiling_monotone a b d positive order =
    omega (arith, ints, floor_monotone (neg_ℤ b) (neg_ℤ a) d positive (omega (arith, ints)))

-- rounding down gives no more than rounding up
pub floor-le-ceiling : (a d : ℤ) → pos 0 <ℤ d → floor_of a d ≤ℤ ceiling_of a d
floor-le-ceiling a (negsuc d) positive = absurd (omega (arith, ints))
floor-le-ceiling a (pos d) positive =
    let below = floor_low a (pos d) positive in
    let above = ceiling_high a (pos d) positive in
    let some : 0 < d = omega (arith, ints) in
    product_le_cancel (floor_of a (pos d)) (ceiling_of a (pos d)) d some (omega (arith, ints))
