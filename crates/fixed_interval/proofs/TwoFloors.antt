-- A product that is divided by 2^64 in two floors of 32 bits each.
use Rattle.std.proofs.Common.{◌≡◌, ◌+◌, ◌*◌, ◌^◌, ◌≤◌, ℤ, pos, ◌+ℤ◌, ◌*ℤ◌, ◌<ℤ◌, FitsSigned}
use Rattle.std.proofs.Common.{[], ◌∷◌, ap, sym, refl, ◌∙◌, arith}
use Rattle.std.specs.Prelude.{unsigned_abs}
use Rattle.std.specs.Int.{w128, int_rem_euclid}
use Rattle.std.proofs.Math.Nat.{mul-le-mul}
use Rattle.std.proofs.lemmas.Int.{ints, unsigned_abs-mul, fits_signed_from_abs}
use Rattle.frac_base.proofs.WholeTerms as W
use Rattle.frac_laws.specs.Rounding.{floor_of}
use Rattle.frac_laws.proofs.RoundingLaws.{floor_unique, floor_low, floor_high, quotient_and_remainder}
use Rattle.frac_laws.proofs.RoundingLaws.{remainder_low, remainder_high}
use Rattle.fixed_interval.specs.Halves.{AreHalves}

spread : (a b high low carry left whole rest u : ℤ) → a ≡ (high *ℤ u) +ℤ low
    → low *ℤ b ≡ (carry *ℤ u) +ℤ left → (high *ℤ b) +ℤ carry ≡ (whole *ℤ u) +ℤ rest
    → a *ℤ b ≡ (whole *ℤ (u *ℤ u)) +ℤ ((rest *ℤ u) +ℤ left)
spread a b high low carry left whole rest u first second third =
    ap (λ z. z *ℤ b) first
    ∙ W.ring (high ∷ low ∷ b ∷ u ∷ []) (hlevel W.terms) refl
    ∙ ap (λ z. ((high *ℤ b) *ℤ u) +ℤ z) second
    ∙ W.ring (high ∷ b ∷ u ∷ carry ∷ left ∷ []) (hlevel W.terms) refl
    ∙ ap (λ z. (z *ℤ u) +ℤ left) third
    ∙ W.ring (whole ∷ u ∷ rest ∷ left ∷ []) (hlevel W.terms) refl

-- the floor of the high part's product, with the low part's carry, is the floor of the product
pub two_floors : (a b high low : ℤ) → AreHalves a high low
    → floor_of ((high *ℤ b) +ℤ floor_of (low *ℤ b) (pos (2 ^ 32))) (pos (2 ^ 32))
    ≡ floor_of (a *ℤ b) (pos (2 ^ 64))
two_floors a b high low halves =
    let u = pos (2 ^ 32) in
    let some : pos 0 <ℤ pos (2 ^ 32) = omega (arith, ints) in
    let carry = floor_of (low *ℤ b) (pos (2 ^ 32)) in
    let left = int_rem_euclid (low *ℤ b) (pos (2 ^ 32)) in
    let sum = (high *ℤ b) +ℤ carry in
    let rest = int_rem_euclid sum u in
    let second = quotient_and_remainder (low *ℤ b) u some in
    let third = quotient_and_remainder sum u some in
    let whole = spread a b high low carry left (floor_of sum u) rest u halves.whole second third in
    let left_low = remainder_low (low *ℤ b) u some in
    let left_high = remainder_high (low *ℤ b) u some in
    let rest_low = remainder_low sum u some in
    let rest_high = remainder_high sum u some in
    sym (floor_unique (a *ℤ b) (floor_of sum u) ((rest *ℤ u) +ℤ left) (pos (2 ^ 64)) whole
    (omega (arith, ints)) (omega (arith, ints)))

-- ---- sizes

product_size : (a b : ℤ) → unsigned_abs (a *ℤ b) ≡ unsigned_abs a * unsigned_abs b
product_size a b = unsigned_abs-mul a b

-- the product of the high part
pub high_size : (a b high low : ℤ) → AreHalves a high low → unsigned_abs b ≤ 2 ^ 66
    → unsigned_abs a * unsigned_abs b ≤ 2 ^ 143 → unsigned_abs (high *ℤ b) ≤ 2 ^ 112
high_size a b high low halves factor product =
    let part : unsigned_abs high * 2 ^ 32 ≤ unsigned_abs a + 2 ^ 32 =
    omega (arith, ints, halves.whole, halves.least, halves.most) in
    let both : (unsigned_abs high * 2 ^ 32) * unsigned_abs b ≤ (unsigned_abs a + 2 ^ 32) * unsigned_abs b =
    mul-le-mul part (omega arith) in
    omega (arith, product_size high b, both, factor, product)

-- and of the low part
pub low_size : (a b high low : ℤ) → AreHalves a high low → unsigned_abs b ≤ 2 ^ 66
    → unsigned_abs (low *ℤ b) ≤ 2 ^ 98
low_size a b high low halves factor =
    let part : unsigned_abs low ≤ 2 ^ 32 = omega (arith, ints, halves.least, halves.most) in
    omega (arith, product_size low b, mul-le-mul part factor)

pub high_fits : (z : ℤ) → unsigned_abs z ≤ 2 ^ 112 → FitsSigned w128 z
high_fits z small = fits_signed_from_abs w128 z (omega arith)

pub low_fits : (z : ℤ) → unsigned_abs z ≤ 2 ^ 98 → FitsSigned w128 z
low_fits z small = fits_signed_from_abs w128 z (omega arith)

-- a product and the carry of another one
pub sum_fits : (high low : ℤ) → unsigned_abs high ≤ 2 ^ 112 → unsigned_abs low ≤ 2 ^ 98
    → FitsSigned w128 (high +ℤ floor_of low (pos (2 ^ 32)))
sum_fits high low high_small low_small =
    let some : pos 0 <ℤ pos (2 ^ 32) = omega (arith, ints) in
    let below = floor_low low (pos (2 ^ 32)) some in
    let above = floor_high low (pos (2 ^ 32)) some in
    omega (arith, ints)

-- the floor of a product
pub floor_size : (a b : ℤ) → unsigned_abs a * unsigned_abs b ≤ 2 ^ 143
    → unsigned_abs (floor_of (a *ℤ b) (pos (2 ^ 64))) ≤ 2 ^ 79
floor_size a b product =
    let some : pos 0 <ℤ pos (2 ^ 64) = omega (arith, ints) in
    let size : unsigned_abs (a *ℤ b) ≤ 2 ^ 143 = omega (arith, product_size a b) in
    let below = floor_low (a *ℤ b) (pos (2 ^ 64)) some in
    let above = floor_high (a *ℤ b) (pos (2 ^ 64)) some in
    omega (arith, ints)
