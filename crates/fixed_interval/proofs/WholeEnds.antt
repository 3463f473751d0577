-- Whole ends: numbers times 4^g over 2^64, as a shift or a product, and how far their floor and ceiling lie apart.
use Rattle.std.proofs.Common.{◌≡◌, ℕ, ◌+◌, ◌-◌, ◌*◌, ◌^◌, ◌<◌, ◌≤◌, FitsSigned, ℤ, pos, ◌+ℤ◌, ◌-ℤ◌, ◌*ℤ◌, ◌≤ℤ◌}
use Rattle.std.proofs.Common.{◌<ℤ◌, [], ◌∷◌, refl, ap, sym, ◌∙◌, arith}
use Rattle.std.specs.Prelude.{unsigned_abs}
use Rattle.std.specs.Int.{w128, int_shr, div_ceil}
use Rattle.std.proofs.lemmas.Int.{ints, unsigned_abs-mul, fits_signed_from_abs}
use Rattle.std.proofs.lemmas.Nat.{pow-add, pow_pos, mul-pow}
use Rattle.std.proofs.lemmas.Grind.{div_ceil_times}
use Rattle.std.proofs.Math.IntN.{pos-*ℤ-pos}
use Rattle.std.proofs.Math.Nat.{mul-le-mul, mul-le-mul_left}
use Rattle.frac_laws.specs.Fraction.{Fraction, whole, ◌*ℚ◌, ◌≤ℚ◌}
use Rattle.frac_laws.specs.Rounding.{floor_of, ceiling_of}
use Rattle.frac_laws.proofs.FractionTerms.{ring, terms}
use Rattle.frac_laws.proofs.Order.{le_trans, le_of_equal}
use Rattle.frac_laws.proofs.RoundingLaws.{floor-common_factor, floor-multiple, floor_high, ceiling_low}
use Rattle.frac_laws.proofs.WholeProducts.{product-product, product_le, sum-product}
use Rattle.frac_laws.proofs.Floors.{shift-floor}
use Rattle.fixed_interval.specs.declared.printed.Printed.{Printed}
use Rattle.fixed_interval.specs.Printing.{LiesBetweenIn}

-- a power of four as one of two
four_two : (g : ℕ) → 4 ^ g ≡ 2 ^ (2 * g)
four_two g =
    let twice : g + g ≡ 2 * g = omega arith in
    mul-pow 2 2 g ∙ sym (pow-add 2 g g) ∙ ap (λ k. 2 ^ k) twice

-- below 2^32 it is a shift to the right
pub shifted_whole : (v : ℤ) (g : ℕ) → g < 32 → int_shr v (64 - 2 * g) ≡ floor_of (v *ℤ pos (4 ^ g)) (pos (2 ^ 64))
shifted_whole v g few =
    let k = 64 - 2 * g in
    let sum : k + 2 * g ≡ 64 = omega (arith, few) in
    let parts : 2 ^ k * 4 ^ g ≡ 2 ^ 64 =
    ap (λ q. 2 ^ k * q) (four_two g) ∙ sym (pow-add 2 k (2 * g)) ∙ ap (λ q. 2 ^ q) sum in
    let some : 0 < 4 ^ g = omega (arith, four_two g, pow_pos (2 * g)) in
    shift-floor v k ∙ sym (floor-common_factor v (2 ^ k) (4 ^ g) some)
    ∙ ap (λ q. floor_of (v *ℤ pos (4 ^ g)) (pos q)) parts

-- and from there on a product
pub product_whole : (v : ℤ) (g : ℕ) → 32 ≤ g → v *ℤ pos (2 ^ (2 * g - 64)) ≡ floor_of (v *ℤ pos (4 ^ g)) (pos (2 ^ 64))
product_whole v g many =
    let k = 2 * g - 64 in
    let sum : k + 64 ≡ 2 * g = omega (arith, many) in
    let parts : 2 ^ k * 2 ^ 64 ≡ 4 ^ g = sym (pow-add 2 k 64) ∙ ap (λ q. 2 ^ q) sum ∙ sym (four_two g) in
    let some : pos 0 <ℤ pos (2 ^ 64) = omega (arith, ints) in
    sym (floor-multiple (v *ℤ pos (2 ^ k)) (pos (2 ^ 64)) some)
    ∙ ap (λ z. floor_of z (pos (2 ^ 64))) (product-product v (2 ^ k) (2 ^ 64) ∙ ap (λ q. v *ℤ pos q) parts)

pub product_size : (v : ℤ) (g : ℕ) → unsigned_abs v ≤ 2 ^ 70 → g ≤ 56
    → unsigned_abs (v *ℤ pos (2 ^ (2 * g - 64))) ≤ 2 ^ 118
product_size v g small few =
    let most : 2 ^ (2 * g - 64) ≤ 2 ^ 48 = power_most (2 * g - 64) (omega (arith, few)) in
    omega (arith, unsigned_abs-mul v (pos (2 ^ (2 * g - 64))), mul-le-mul small most)
  where
    power_most : (k : ℕ) → k ≤ 48 → 2 ^ k ≤ 2 ^ 48
    power_most k few =
        let sum : k + (48 - k) ≡ 48 = omega (arith, few) in
        let split : 2 ^ k * 2 ^ (48 - k) ≡ 2 ^ 48 = sym (pow-add 2 k (48 - k)) ∙ ap (λ q. 2 ^ q) sum in
        omega (arith, split, mul-le-mul_left (2 ^ k) (pow_pos (48 - k)))

pub product_fits : (v : ℤ) (g : ℕ) → unsigned_abs v ≤ 2 ^ 70 → g ≤ 56 → FitsSigned w128 (v *ℤ pos (2 ^ (2 * g - 64)))
product_fits v g small few =
    fits_signed_from_abs w128 (v *ℤ pos (2 ^ (2 * g - 64))) (omega (arith, product_size v g small few))

-- in units of 1
pub between_whole : (ends : Printed) (y : Fraction) → whole ends.lo ≤ℚ y → y ≤ℚ whole ends.hi → LiesBetweenIn 1 ends y
between_whole ends y low high = record {
  at_least = le_trans low (le_of_equal (sym (once y)));
  at_most = le_trans (le_of_equal (once y)) high;
}
  where
    once : (y : Fraction) → whole (pos 1) *ℚ y ≡ y
    once y = ring (y ∷ []) (hlevel terms) refl

-- how far apart they lie, m being 4^g
pub whole_apart : (lo hi : ℤ) (width m : ℕ) → hi ≤ℤ (lo +ℤ pos width)
    → ceiling_of (hi *ℤ pos m) (pos (2 ^ 64))
    ≤ℤ (floor_of (lo *ℤ pos m) (pos (2 ^ 64)) +ℤ pos (div_ceil (width * m) (2 ^ 64) + 1))
whole_apart lo hi width m order =
    let some : pos 0 <ℤ pos (2 ^ 64) = omega (arith, ints) in
    let wide : (pos width) *ℤ pos m ≡ pos (width * m) = pos-*ℤ-pos width m in
    apart (hi *ℤ pos m) (lo *ℤ pos m) ((lo +ℤ pos width) *ℤ pos m) (pos width *ℤ pos m) (width * m)
    (div_ceil (width * m) (2 ^ 64)) (ceiling_of (hi *ℤ pos m) (pos (2 ^ 64))) (floor_of (lo *ℤ pos m) (pos (2 ^ 64)))
    (product_le hi (lo +ℤ pos width) m order) (sum-product lo (pos width) m) wide
    (div_ceil_times (width * m) (2 ^ 64) (omega arith)).0 (ceiling_low (hi *ℤ pos m) (pos (2 ^ 64)) some)
    (floor_high (lo *ℤ pos m) (pos (2 ^ 64)) some)
  where
    apart : (h l s w : ℤ) (n d : ℕ) (up down : ℤ) → h ≤ℤ s → s ≡ l +ℤ w → w ≡ pos n → n ≤ d * 2 ^ 64
        → ((up *ℤ pos (2 ^ 64)) -ℤ pos (2 ^ 64)) <ℤ h → l <ℤ ((down *ℤ pos (2 ^ 64)) +ℤ pos (2 ^ 64))
        → up ≤ℤ (down +ℤ pos (d + 1))
    apart h l s w n d up down most sum is few low high = omega (arith, ints)
