-- Numbers near a midpoint, times a whole number s.
use Rattle.std.proofs.Common.{◌≡◌, ℕ, ◌-◌, ◌*◌, ◌^◌, ◌≤◌, ℤ, pos, ◌+ℤ◌, ◌-ℤ◌, ◌*ℤ◌, ◌≤ℤ◌, FitsSigned}
use Rattle.std.proofs.Common.{[], ◌∷◌, to_z, of_z, refl, ap, sym, subst, ◌∙◌, arith}
use Rattle.std.specs.Prelude.{unsigned_abs}
use Rattle.std.specs.Int.{w128}
use Rattle.std.proofs.lemmas.Int.{ints, unsigned_abs-mul, fits_signed_from_abs, to_z-of_z, to_z_pos}
use Rattle.std.proofs.Math.IntN.{pos-*ℤ-pos}
use Rattle.std.proofs.Math.Nat.{mul-le-mul}
use Rattle.std.proofs.Math.Pow.{pow_mono}
use Rattle.frac_base.proofs.WholeTerms as W
use Rattle.frac_laws.specs.Fraction.{Fraction, whole, over, size, ◌+ℚ◌, ◌-ℚ◌, ◌*ℚ◌, ◌≤ℚ◌}
use Rattle.frac_laws.proofs.Linear.{linear, claims, natural, ◌⊠◌}
use Rattle.frac_laws.proofs.Quotients.{over_is, whole_mul, whole_add, whole_sub}
use Rattle.frac_laws.proofs.Sizes.{le_of_size_le, opposite_le_of_size_le}
use Rattle.frac_laws.proofs.WholeProducts.{product_le}

-- ---- whole numbers

-- a number of at most 2^66 in size, times 2^g
pub scaled_size : (z : ℤ) (g : ℕ) → unsigned_abs z ≤ 2 ^ 66 → g ≤ 56 → unsigned_abs (z *ℤ pos (2 ^ g)) ≤ 2 ^ 122
scaled_size z g small scale =
    let power : 2 ^ g ≤ 2 ^ 56 = pow_mono scale in
    omega (arith, unsigned_abs-mul z (pos (2 ^ g)), mul-le-mul small power)

pub scaled_fits : (z : ℤ) (g : ℕ) → unsigned_abs z ≤ 2 ^ 66 → g ≤ 56 → FitsSigned w128 (z *ℤ pos (2 ^ g))
scaled_fits z g small scale =
    let size = scaled_size z g small scale in
    fits_signed_from_abs w128 (z *ℤ pos (2 ^ g)) (omega arith)

-- unsigned numbers, read as signed ones
pub power_read : (p g : ℕ) → p ≡ 2 ^ g → g ≤ 56 → to_z w128 p ≡ pos (2 ^ g)
power_read p g is scale =
    let most : 2 ^ g ≤ 2 ^ 56 = pow_mono scale in
    to_z_pos w128 p (omega (arith, is, most)) ∙ ap pos is

radius_read : (w : ℕ) → w ≤ 2 ^ 45 → to_z w128 w ≡ pos w
radius_read w narrow = to_z_pos w128 w (omega arith)

pub lower_point : (mid : ℤ) (w : ℕ) → unsigned_abs mid ≤ 2 ^ 65 → w ≤ 2 ^ 45 → unsigned_abs (mid -ℤ pos w) ≤ 2 ^ 66
lower_point mid w small narrow = omega (arith, ints)

pub upper_point : (mid : ℤ) (w : ℕ) → unsigned_abs mid ≤ 2 ^ 65 → w ≤ 2 ^ 45 → unsigned_abs (mid +ℤ pos w) ≤ 2 ^ 66
upper_point mid w small narrow = omega (arith, ints)

-- the points that a program forms, 2^g times as large
pub low_end_is : (z mid : ℤ) (w g : ℕ) → FitsSigned w128 mid → unsigned_abs mid ≤ 2 ^ 65 → w ≤ 2 ^ 45
    → z ≡ to_z w128 (of_z w128 (to_z w128 (of_z w128 mid) -ℤ to_z w128 w)) *ℤ pos (2 ^ g)
    → z ≡ (mid -ℤ pos w) *ℤ pos (2 ^ g)
low_end_is z mid w g fits small narrow is =
    let P : ℤ → Type 0 = λ r. FitsSigned w128 (mid -ℤ r) in
    let point = fits_signed_from_abs w128 (mid -ℤ pos w) (omega (arith, lower_point mid w small narrow)) in
    let point_fits = subst P (sym (radius_read w narrow)) point in
    let plain : z ≡ (mid -ℤ to_z w128 w) *ℤ pos (2 ^ g) = simp to_z-of_z at is in
    plain ∙ ap (λ r. (mid -ℤ r) *ℤ pos (2 ^ g)) (radius_read w narrow)

pub high_end_is : (z mid : ℤ) (w g : ℕ) → FitsSigned w128 mid → unsigned_abs mid ≤ 2 ^ 65 → w ≤ 2 ^ 45
    → z ≡ to_z w128 (of_z w128 (to_z w128 (of_z w128 mid) +ℤ to_z w128 w)) *ℤ pos (2 ^ g)
    → z ≡ (mid +ℤ pos w) *ℤ pos (2 ^ g)
high_end_is z mid w g fits small narrow is =
    let P : ℤ → Type 0 = λ r. FitsSigned w128 (mid +ℤ r) in
    let point = fits_signed_from_abs w128 (mid +ℤ pos w) (omega (arith, upper_point mid w small narrow)) in
    let point_fits = subst P (sym (radius_read w narrow)) point in
    let plain : z ≡ (mid +ℤ to_z w128 w) *ℤ pos (2 ^ g) = simp to_z-of_z at is in
    plain ∙ ap (λ r. (mid +ℤ r) *ℤ pos (2 ^ g)) (radius_read w narrow)

pub ends_ordered : (mid : ℤ) (w s : ℕ) → ((mid -ℤ pos w) *ℤ pos s) ≤ℤ ((mid +ℤ pos w) *ℤ pos s)
ends_ordered mid w s = product_le (mid -ℤ pos w) (mid +ℤ pos w) s (omega (arith, ints))

apart : (mid w s : ℤ) → (mid +ℤ w) *ℤ s ≡ ((mid -ℤ w) *ℤ s) +ℤ ((w +ℤ w) *ℤ s)
apart mid w s = W.ring (mid ∷ w ∷ s ∷ []) (hlevel W.terms) refl

twice : (w s : ℕ) → (pos w +ℤ pos w) *ℤ pos s ≡ pos (2 * w * s)
twice w s =
    let sum : pos w +ℤ pos w ≡ pos (2 * w) = omega (arith, ints) in
    ap (λ z. z *ℤ pos s) sum ∙ pos-*ℤ-pos (2 * w) s

-- the ends lie twice the radius apart, times s
pub width_of : (mid : ℤ) (w s : ℕ)
    → (mid +ℤ pos w) *ℤ pos s ≡ ((mid -ℤ pos w) *ℤ pos s) +ℤ pos (2 * w * s)
width_of mid w s =
    apart mid (pos w) (pos s) ∙ ap (λ z. ((mid -ℤ pos w) *ℤ pos s) +ℤ z) (twice w s)

nearer_low : (mid n k s : ℤ) → ((mid -ℤ (n +ℤ k)) *ℤ s) +ℤ (k *ℤ s) ≡ (mid -ℤ n) *ℤ s
nearer_low mid n k s = W.ring (mid ∷ n ∷ k ∷ s ∷ []) (hlevel W.terms) refl

nearer_high : (mid n k s : ℤ) → ((mid +ℤ (n +ℤ k)) *ℤ s) -ℤ (k *ℤ s) ≡ (mid +ℤ n) *ℤ s
nearer_high mid n k s = W.ring (mid ∷ n ∷ k ∷ s ∷ []) (hlevel W.terms) refl

parts : (w near : ℕ) → near ≤ w → pos near +ℤ pos (w - near) ≡ pos w
parts w near order = omega (arith, ints)

-- the ends of a smaller radius, from those of a larger one
pub low_of_nearer : (mid : ℤ) (w near s : ℕ) → near ≤ w
    → ((mid -ℤ pos w) *ℤ pos s) +ℤ pos ((w - near) * s) ≡ (mid -ℤ pos near) *ℤ pos s
low_of_nearer mid w near s order =
    ap (λ z. ((mid -ℤ z) *ℤ pos s) +ℤ pos ((w - near) * s)) (sym (parts w near order))
    ∙ ap (λ z. ((mid -ℤ (pos near +ℤ pos (w - near))) *ℤ pos s) +ℤ z) (sym (pos-*ℤ-pos (w - near) s))
    ∙ nearer_low mid (pos near) (pos (w - near)) (pos s)

pub high_of_nearer : (mid : ℤ) (w near s : ℕ) → near ≤ w
    → ((mid +ℤ pos w) *ℤ pos s) -ℤ pos ((w - near) * s) ≡ (mid +ℤ pos near) *ℤ pos s
high_of_nearer mid w near s order =
    ap (λ z. ((mid +ℤ z) *ℤ pos s) -ℤ pos ((w - near) * s)) (sym (parts w near order))
    ∙ ap (λ z. ((mid +ℤ (pos near +ℤ pos (w - near))) *ℤ pos s) -ℤ z) (sym (pos-*ℤ-pos (w - near) s))
    ∙ nearer_high mid (pos near) (pos (w - near)) (pos s)

-- ---- fractions, with u for a unit

scaled_units : (z : ℤ) (s : ℕ) → over (z *ℤ pos s) (2 ^ 64) ≡ whole z *ℚ whole (pos s) *ℚ over (pos 1) (2 ^ 64)
scaled_units z s =
    over_is (z *ℤ pos s) (2 ^ 64) ∙ ap (λ x. x *ℚ over (pos 1) (2 ^ 64)) (whole_mul z (pos s))

low_gap : (x m w s u : Fraction) → (m -ℚ w) *ℚ u ≤ℚ x → whole (pos 0) ≤ℚ s → (m -ℚ w) *ℚ s *ℚ u ≤ℚ s *ℚ x
low_gap x m w s u near natural = linear (x ∷ m ∷ w ∷ s ∷ u ∷ []) (near ⊠ natural) (hlevel claims) refl

high_gap : (x m w s u : Fraction) → x ≤ℚ (m +ℚ w) *ℚ u → whole (pos 0) ≤ℚ s → s *ℚ x ≤ℚ (m +ℚ w) *ℚ s *ℚ u
high_gap x m w s u near natural = linear (x ∷ m ∷ w ∷ s ∷ u ∷ []) (near ⊠ natural) (hlevel claims) refl

below_number : (x : Fraction) (mid : ℤ) (w : ℕ) → size (x -ℚ over mid (2 ^ 64)) ≤ℚ over (pos w) (2 ^ 64)
    → (whole mid -ℚ whole (pos w)) *ℚ over (pos 1) (2 ^ 64) ≤ℚ x
below_number x mid w near =
    linear (x ∷ whole mid ∷ whole (pos w) ∷ over (pos 1) (2 ^ 64) ∷ [])
    (rw (over_is mid (2 ^ 64), over_is (pos w) (2 ^ 64)) at (opposite_le_of_size_le near)) (hlevel claims)
    refl

above_number : (x : Fraction) (mid : ℤ) (w : ℕ) → size (x -ℚ over mid (2 ^ 64)) ≤ℚ over (pos w) (2 ^ 64)
    → x ≤ℚ (whole mid +ℚ whole (pos w)) *ℚ over (pos 1) (2 ^ 64)
above_number x mid w near =
    linear (x ∷ whole mid ∷ whole (pos w) ∷ over (pos 1) (2 ^ 64) ∷ [])
    (rw (over_is mid (2 ^ 64), over_is (pos w) (2 ^ 64)) at (le_of_size_le near)) (hlevel claims) refl

-- a number within a radius of a midpoint, times s, lies between the ends times s
pub scaled_low : (x : Fraction) (mid : ℤ) (w s : ℕ) → size (x -ℚ over mid (2 ^ 64)) ≤ℚ over (pos w) (2 ^ 64)
    → over ((mid -ℤ pos w) *ℤ pos s) (2 ^ 64) ≤ℚ whole (pos s) *ℚ x
scaled_low x mid w s near =
    rw (scaled_units (mid -ℤ pos w) s, whole_sub mid (pos w))
    (low_gap x (whole mid) (whole (pos w)) (whole (pos s)) (over (pos 1) (2 ^ 64)) (below_number x mid w near)
    (natural s 1))

pub scaled_high : (x : Fraction) (mid : ℤ) (w s : ℕ) → size (x -ℚ over mid (2 ^ 64)) ≤ℚ over (pos w) (2 ^ 64)
    → whole (pos s) *ℚ x ≤ℚ over ((mid +ℤ pos w) *ℤ pos s) (2 ^ 64)
scaled_high x mid w s near =
    rw (scaled_units (mid +ℤ pos w) s, whole_add mid (pos w))
    (high_gap x (whole mid) (whole (pos w)) (whole (pos s)) (over (pos 1) (2 ^ 64)) (above_number x mid w near)
    (natural s 1))
