-- From a ledger's bound to the forms of the laws.
use Rattle.std.specs.Prelude.{◌≡◌, ℕ, zero, suc, pos, [], ◌∷◌, ◌*◌, ◌^◌, ◌≤◌}
use Rattle.std.proofs.Common.{refl, ap, sym, ◌∙◌, arith, lit≤}
use Rattle.std.proofs.lemmas.Int.{ints}
use Rattle.std.proofs.Math.IntN.{pos-*ℤ-pos}
use Rattle.std.proofs.Math.Nat.{pow-zero, pow-suc}
use mathlib.Core.Path.{ap₂}
use Rattle.frac_laws.specs.Fraction.{Fraction, over, whole, size, ◌-ℚ◌, ◌*ℚ◌, ◌≤ℚ◌}
use Rattle.frac_laws.specs.Sums.{power}
use Rattle.frac_laws.specs.Lists.{Vector, number_at, scale_list, subtract_lists}
use Rattle.frac_laws.specs.Norms.{Norm}
use Rattle.frac_laws.proofs.FractionTerms.{ring, terms}
use Rattle.frac_laws.proofs.Linear.{linear, claims, natural, ◌⊞◌, ◌⊠◌, ◌·◌}
use Rattle.frac_laws.proofs.Norms.{norm-same, number_below_norm}
use Rattle.frac_laws.proofs.Order.{le_trans, le_of_equal}
use Rattle.frac_laws.proofs.Quotients.{over_is, over_mul, whole_mul, whole_le}
use Rattle.frac_laws.proofs.Sizes.{size_mul_natural}
use Rattle.frac_laws.proofs.Vectors.{number_at-scale_list, number_at-subtract_lists}
use Rattle.cell_laws.specs.ErrorLaws.{distance}
use Rattle.cell_laws.proofs.Decay.{eights_natural}
use Rattle.cell_laws.proofs.TameSums.{norm_of_none}
use Rattle.limit_laws.specs.CellTails.{IsWithinRadius}
use Rattle.limit_laws.specs.Modulus.{modulus_of, AreCloseBy, AreClose}

-- a product of natural numbers over a denominator
pub over_product : (a b d : ℕ) → over (pos (a * b)) d ≡ whole (pos a) *ℚ whole (pos b) *ℚ over (pos 1) d
over_product a b d = over_is (pos (a * b)) d
    ∙ ap (λ z. z *ℚ over (pos 1) d) (ap whole (sym (pos-*ℤ-pos a b)) ∙ whole_mul (pos a) (pos b))

-- 8^n and its inverse
pub eighths_inverse : (n : ℕ) → power (whole (pos 8)) n *ℚ over (pos 1) (8 ^ n) ≡ whole (pos 1)
eighths_inverse zero = rw (pow-zero 8) (ring [] (hlevel terms) refl)
eighths_inverse (suc n) = rw (pow-suc 8 n)
    (ap (λ z. whole (pos 8) *ℚ power (whole (pos 8)) n *ℚ z)
    (sym (over_mul (pos 1) (pos 1) (8 ^ n) 8 (positive n) (lit≤ tt)))
    ∙ ring (power (whole (pos 8)) n ∷ over (pos 1) (8 ^ n) ∷ []) (hlevel terms) refl ∙ eighths_inverse n)
  where
    positive : (n : ℕ) → 1 ≤ 8 ^ n
    positive zero = rw (pow-zero 8) (lit≤ tt)
    positive (suc n) = rw (pow-suc 8 n) (omega (arith, positive n))

-- a vector is within any radius of itself
pub self_within : (norm : Norm) (n w : ℕ) (u : Vector) → IsWithinRadius n w (distance norm u u)
self_within norm n w u =
    rw nothing (linear (power (whole (pos 8)) n ∷ whole (pos w) ∷ []) (natural w 1) (hlevel claims) refl)
  where
    nothing : distance norm u u ≡ whole (pos 0)
    nothing = norm-same norm (subtract_lists u u) [] (λ i. number_at-subtract_lists u u i
        ∙ ring (number_at u i ∷ []) (hlevel terms) refl) ∙ norm_of_none norm

-- a difference of numbers is within that of vectors
pub number_apart : (norm : Norm) (u v : Vector) (i : ℕ) → size (number_at u i -ℚ number_at v i) ≤ℚ distance norm u v
number_apart norm u v i = le_trans (le_of_equal (ap size (sym (number_at-subtract_lists u v i))))
    (number_below_norm norm (subtract_lists u v) i)

-- and of vectors that are scaled
pub scaled_apart : (norm : Norm) (c : Fraction) (u v : Vector) (i : ℕ) → whole (pos 0) ≤ℚ c
    → c *ℚ size (number_at u i -ℚ number_at v i) ≤ℚ distance norm (scale_list c u) (scale_list c v)
scaled_apart norm c u v i some =
    le_trans (le_of_equal (sym (ap size numbers ∙ size_mul_natural (number_at u i -ℚ number_at v i) some)))
    (number_apart norm (scale_list c u) (scale_list c v) i)
  where
    numbers : number_at (scale_list c u) i -ℚ number_at (scale_list c v) i
        ≡ c *ℚ (number_at u i -ℚ number_at v i)
    numbers = ap₂ ◌-ℚ◌ (number_at-scale_list c u i) (number_at-scale_list c v i)
        ∙ ring (c ∷ number_at u i ∷ number_at v i ∷ []) (hlevel terms) refl

-- a difference of numbers, from that of vectors scaled by h, where h G = 1
pub close_by : (n G w : ℕ) (h x y d : Fraction) → whole (pos G) *ℚ h ≡ whole (pos 1) → h *ℚ size (x -ℚ y) ≤ℚ d
    → IsWithinRadius n w d → AreCloseBy n (modulus_of G w) x y
close_by n G w h x y d unit near held =
    rw (over_product G w (2 ^ 13))
    (combine (power (whole (pos 8)) n) (whole (pos G)) (whole (pos w)) (size (x -ℚ y)) (eights_natural n) (natural G 1)
    held unit near)
  where
    combine : (e G w s : Fraction) → whole (pos 0) ≤ℚ e → whole (pos 0) ≤ℚ G
        → whole (pos (2 ^ 13)) *ℚ (e *ℚ d) ≤ℚ w → G *ℚ h ≡ whole (pos 1) → h *ℚ s ≤ℚ d
        → e *ℚ s ≤ℚ G *ℚ w *ℚ over (pos 1) (2 ^ 13)
    combine e G w s he hG held unit near = linear (e ∷ G ∷ w ∷ s ∷ h ∷ d ∷ [])
        ((held ⊠ hG) ⊠ natural 1 8192 ⊞ ((near ⊠ he) ⊠ hG) ⊞ (e *ℚ s) · sym unit) (hlevel claims) refl

-- and from it the bound that no ledger speaks of, where the radius is at most 2^45
pub close : (n G w : ℕ) (x y : Fraction) → w ≤ 2 ^ 45 → AreCloseBy n (modulus_of G w) x y → AreClose n G x y
close n G w x y few near =
    rw (over_product G (2 ^ 32) (8 ^ n))
    (combine (power (whole (pos 8)) n) (whole (pos G)) (whole (pos w)) (size (x -ℚ y)) (over (pos 1) (8 ^ n))
    (natural G 1) (natural 1 (8 ^ n)) (whole_le (omega (arith, ints, few)))
    (rw (over_product G w (2 ^ 13)) at near) (eighths_inverse n))
  where
    combine : (e G w s part : Fraction) → whole (pos 0) ≤ℚ G → whole (pos 0) ≤ℚ part → w ≤ℚ whole (pos (2 ^ 45))
        → e *ℚ s ≤ℚ G *ℚ w *ℚ over (pos 1) (2 ^ 13) → e *ℚ part ≡ whole (pos 1)
        → s ≤ℚ G *ℚ whole (pos (2 ^ 32)) *ℚ part
    combine e G w s part hG hp few near unit = linear (e ∷ G ∷ w ∷ s ∷ part ∷ [])
        ((near ⊠ hp) ⊞ ((few ⊠ hG) ⊠ hp) ⊠ natural 1 8192 ⊞ s · sym unit) (hlevel claims) refl
