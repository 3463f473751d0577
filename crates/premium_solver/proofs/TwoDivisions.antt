-- A product that is divided in two steps: what the first division leaves is divided once more.
use Rattle.std.proofs.Common.{◌≡◌, ℕ, ◌*◌, ◌^◌, ◌<◌, ◌≤◌, ℤ, pos, negsuc, neg_ℤ, ◌+ℤ◌, ◌*ℤ◌, ◌≤ℤ◌, ◌<ℤ◌}
use Rattle.std.proofs.Common.{FitsSigned, [], ◌∷◌, ap, sym, refl, ◌∙◌, arith}
use Rattle.std.specs.Prelude.{unsigned_abs}
use Rattle.std.specs.Int.{w128, int_rem_euclid}
use Rattle.std.proofs.Math.IntN.{pos-*ℤ-pos}
use Rattle.std.proofs.Math.Nat.{mul-le-mul}
use Rattle.std.proofs.lemmas.Int.{ints, unsigned_abs-mul, fits_signed_from_abs}
use Rattle.frac_base.proofs.WholeTerms as W
use Rattle.frac_laws.specs.Rounding.{floor_of}
use Rattle.frac_laws.proofs.RoundingLaws.{floor_unique, floor_monotone, floor-multiple}
use Rattle.frac_laws.proofs.RoundingLaws.{quotient_and_remainder, remainder_low, remainder_high}
use Rattle.frac_laws.proofs.WholeProducts.{neg-product}
use Rattle.premium_solver.specs.Quotients.{least_divisor, most_divisor, most_quotient}

spread : (a d whole rest more left m : ℤ) → a ≡ (whole *ℤ d) +ℤ rest → rest *ℤ m ≡ (more *ℤ d) +ℤ left
    → a *ℤ m ≡ (((whole *ℤ m) +ℤ more) *ℤ d) +ℤ left
spread a d whole rest more left m first second =
    ap (λ z. z *ℤ m) first
    ∙ W.ring (whole ∷ d ∷ rest ∷ m ∷ []) (hlevel W.terms) refl
    ∙ ap (λ z. ((whole *ℤ m) *ℤ d) +ℤ z) second
    ∙ W.ring (whole ∷ m ∷ d ∷ more ∷ left ∷ []) (hlevel W.terms) refl

above_0 : (d : ℤ) → pos least_divisor ≤ℤ d → pos 0 <ℤ d
above_0 d least = omega (arith, ints)

-- m times a floor, with the floor of m times what it leaves, is the floor of m times the number
two_divisions : (a d m : ℤ) → pos 0 <ℤ d
    → (floor_of a d *ℤ m) +ℤ floor_of (int_rem_euclid a d *ℤ m) d ≡ floor_of (a *ℤ m) d
two_divisions a d m some =
    let rest = int_rem_euclid a d in
    let more = floor_of (rest *ℤ m) d in
    let left = int_rem_euclid (rest *ℤ m) d in
    sym (floor_unique (a *ℤ m) ((floor_of a d *ℤ m) +ℤ more) left d
    (spread a d (floor_of a d) rest more left m (quotient_and_remainder a d some)
    (quotient_and_remainder (rest *ℤ m) d some))
    (remainder_low (rest *ℤ m) d some) (remainder_high (rest *ℤ m) d some))

-- ---- sizes

-- a number of at most m times the divisor in size has a floor of at most m
floor_within : (a : ℤ) (d m : ℕ) → 0 < d → unsigned_abs a ≤ m * d → unsigned_abs (floor_of a (pos d)) ≤ m
floor_within a d m some within =
    let positive : pos 0 <ℤ pos d = omega (arith, ints) in
    let multiple : pos m *ℤ pos d ≡ pos (m * d) = pos-*ℤ-pos m d in
    let opposite = neg-product (pos m) d in
    let most = floor_monotone a (pos m *ℤ pos d) (pos d) positive (omega (arith, ints)) in
    let least = floor_monotone (neg_ℤ (pos m) *ℤ pos d) a (pos d) positive (omega (arith, ints)) in
    let greatest = floor-multiple (pos m) (pos d) positive in
    let smallest = floor-multiple (neg_ℤ (pos m)) (pos d) positive in
    omega (arith, ints)

whole_size : (a d : ℤ) → unsigned_abs a ≤ 2 ^ 123 → pos least_divisor ≤ℤ d
    → unsigned_abs (floor_of a d) ≤ 2 ^ 64
whole_size a (negsuc d) small least = absurd (omega (arith, ints))
whole_size a (pos d) small least =
    let enough : least_divisor ≤ d = omega (arith, ints) in
    let product : 2 ^ 64 * least_divisor ≤ 2 ^ 64 * d = mul-le-mul {n₁ = 2 ^ 64} {n₂ = 2 ^ 64} (omega arith) enough in
    floor_within a d (2 ^ 64) (omega arith) (omega arith)

-- a million times the first quotient
pub whole_fits : (a d whole : ℤ) → unsigned_abs a ≤ 2 ^ 123 → pos least_divisor ≤ℤ d → whole ≡ floor_of a d
    → FitsSigned w128 (whole *ℤ pos (10 ^ 6))
whole_fits a d whole small least is =
    let size : unsigned_abs whole ≤ 2 ^ 64 = rw is (whole_size a d small least) in
    fits_signed_from_abs w128 (whole *ℤ pos (10 ^ 6)) (omega (arith, unsigned_abs-mul whole (pos (10 ^ 6)), size))

-- and what it leaves
pub rest_fits : (a d rest : ℤ) → pos least_divisor ≤ℤ d → d ≤ℤ pos most_divisor → rest ≡ int_rem_euclid a d
    → FitsSigned w128 (rest *ℤ pos (10 ^ 6))
rest_fits a d rest least most is =
    let some = above_0 d least in
    let low = remainder_low a d some in
    let high = remainder_high a d some in
    let size : unsigned_abs rest ≤ 2 ^ 100 = omega (arith, ints) in
    fits_signed_from_abs w128 (rest *ℤ pos (10 ^ 6)) (omega (arith, unsigned_abs-mul rest (pos (10 ^ 6)), size))

-- the floor of a million times the number
pub floor_size : (a d : ℤ) → unsigned_abs a ≤ 2 ^ 123 → pos least_divisor ≤ℤ d
    → unsigned_abs (floor_of (a *ℤ pos (10 ^ 6)) d) ≤ most_quotient
floor_size a (negsuc d) small least = absurd (omega (arith, ints))
floor_size a (pos d) small least =
    let enough : least_divisor ≤ d = omega (arith, ints) in
    let product : most_quotient * least_divisor ≤ most_quotient * d =
    mul-le-mul {n₁ = most_quotient} {n₂ = most_quotient} (omega arith) enough in
    let size : unsigned_abs (a *ℤ pos (10 ^ 6)) ≤ 2 ^ 143 = omega (arith, unsigned_abs-mul a (pos (10 ^ 6)), small) in
    floor_within (a *ℤ pos (10 ^ 6)) d (most_quotient) (omega arith) (omega arith)

-- both steps together
pub steps_are : (a d whole rest more : ℤ) → pos least_divisor ≤ℤ d → whole ≡ floor_of a d
    → rest ≡ int_rem_euclid a d → more ≡ floor_of (rest *ℤ pos (10 ^ 6)) d
    → (whole *ℤ pos (10 ^ 6)) +ℤ more ≡ floor_of (a *ℤ pos (10 ^ 6)) d
steps_are a d whole rest more least is_whole is_rest is_more =
    rw (is_more, is_rest, is_whole) (two_divisions a d (pos (10 ^ 6)) (above_0 d least))

pub steps_fit : (a d whole rest more : ℤ) → unsigned_abs a ≤ 2 ^ 123 → pos least_divisor ≤ℤ d
    → whole ≡ floor_of a d → rest ≡ int_rem_euclid a d → more ≡ floor_of (rest *ℤ pos (10 ^ 6)) d
    → FitsSigned w128 ((whole *ℤ pos (10 ^ 6)) +ℤ more)
steps_fit a d whole rest more small least is_whole is_rest is_more =
    rw (steps_are a d whole rest more least is_whole is_rest is_more)
    (let size = floor_size a d small least in
    fits_signed_from_abs w128 (floor_of (a *ℤ pos (10 ^ 6)) d) (omega (arith, size)))
