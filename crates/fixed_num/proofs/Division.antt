-- Two division steps of 32 bits make a floor in units of 2^-64.
use Rattle.std.proofs.Common.{◌≡◌, ℕ, ◌^◌, ◌≤◌, ℤ, pos, negsuc, ◌+ℤ◌, ◌*ℤ◌, ◌≤ℤ◌, ◌<ℤ◌, ap, subst, arith}
use Rattle.std.specs.Prelude.{unsigned_abs}
use Rattle.std.proofs.lemmas.Int.{ints}
use Rattle.frac_laws.specs.Rounding.{floor_of}
use Rattle.frac_laws.proofs.WholeProducts.{sum-product, product-product, product_swap}
use Rattle.frac_laws.proofs.RoundingLaws.{floor_unique, floor_size}

-- a fraction of size at most 1, taken m times, has a quotient of size at most m
pub quotient_size : (num quotient left den : ℤ) (m : ℕ) → pos 0 <ℤ den → pos (unsigned_abs num) ≤ℤ den
    → num *ℤ pos m ≡ (quotient *ℤ den) +ℤ left → pos 0 ≤ℤ left → left <ℤ den → unsigned_abs quotient ≤ m
quotient_size num quotient left den m positive within whole low high =
    let P : ℤ → Type 0 = λ q. unsigned_abs q ≤ m in
    let floor = floor_unique (num *ℤ pos m) quotient left den whole low high in
    subst P floor (floor_size num den m positive within)

-- the quotients of both steps, put together, are the floor
pub floor_in_two_steps : (num high left low rest den : ℤ) → pos 0 <ℤ den
    → num *ℤ pos (2 ^ 32) ≡ (high *ℤ den) +ℤ left → left *ℤ pos (2 ^ 32) ≡ (low *ℤ den) +ℤ rest
    → pos 0 ≤ℤ rest → rest <ℤ den → floor_of (num *ℤ pos (2 ^ 64)) den ≡ (high *ℤ pos (2 ^ 32)) +ℤ low
floor_in_two_steps num high left low rest (negsuc d) positive first second least most =
    absurd (omega (arith, ints))
floor_in_two_steps num high left low rest (pos d) positive first second least most =
    let shifted = ap (λ z. z *ℤ pos (2 ^ 32)) first in
    let numerator = product-product num (2 ^ 32) (2 ^ 32) in
    let spread = sum-product (high *ℤ pos d) left (2 ^ 32) in
    let swapped = product_swap high d (2 ^ 32) in
    let joined = sum-product (high *ℤ pos (2 ^ 32)) low d in
    let quotient = (high *ℤ pos (2 ^ 32)) +ℤ low in
    floor_unique (num *ℤ pos (2 ^ 64)) quotient rest (pos d) (omega (arith, ints)) least most
