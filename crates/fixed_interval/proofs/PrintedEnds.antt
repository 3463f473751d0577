-- What printed ends hold. m is a million.
use Rattle.std.proofs.Common.{◌≡◌, ℕ, ◌^◌, ℤ, pos, ◌*ℤ◌, [], ◌∷◌, refl, ap, sym, ◌∙◌, arith}
use Rattle.frac_laws.specs.Fraction.{Fraction, whole, over, ◌*ℚ◌, ◌≤ℚ◌}
use Rattle.frac_laws.specs.Rounding.{floor_of, ceiling_of}
use Rattle.frac_laws.proofs.FractionTerms.{ring, terms}
use Rattle.frac_laws.proofs.Floors.{floor_le, le_ceiling}
use Rattle.frac_laws.proofs.Linear.{linear, claims, natural, ◌⊠◌}
use Rattle.frac_laws.proofs.Order.{le_trans}
use Rattle.frac_laws.proofs.Quotients.{over_is, whole_mul}

times : (n : ℤ) (m : ℕ) → over (n *ℤ pos m) (2 ^ 64) ≡ whole (pos m) *ℚ over n (2 ^ 64)
times n m =
    over_is (n *ℤ pos m) (2 ^ 64) ∙ ap (λ z. z *ℚ over (pos 1) (2 ^ 64)) (whole_mul n (pos m))
    ∙ turned (whole n) (whole (pos m)) (over (pos 1) (2 ^ 64)) ∙ ap (λ z. whole (pos m) *ℚ z) (sym (over_is n (2 ^ 64)))
  where
    turned : (n m u : Fraction) → n *ℚ m *ℚ u ≡ m *ℚ (n *ℚ u)
    turned n m u = ring (n ∷ m ∷ u ∷ []) (hlevel terms) refl

scaled : (m x y : Fraction) → whole (pos 0) ≤ℚ m → x ≤ℚ y → m *ℚ x ≤ℚ m *ℚ y
scaled m x y some h = linear (m ∷ x ∷ y ∷ []) (some ⊠ h) (hlevel claims) refl

pub low_printed : (n : ℤ) (m : ℕ) (x : Fraction) → over n (2 ^ 64) ≤ℚ x
    → whole (floor_of (n *ℤ pos m) (pos (2 ^ 64))) ≤ℚ whole (pos m) *ℚ x
low_printed n m x h =
    le_trans (floor_le (n *ℤ pos m) (2 ^ 64) (omega arith))
    (rw (times n m) (scaled (whole (pos m)) (over n (2 ^ 64)) x (natural m 1) h))

pub high_printed : (n : ℤ) (m : ℕ) (x : Fraction) → x ≤ℚ over n (2 ^ 64)
    → whole (pos m) *ℚ x ≤ℚ whole (ceiling_of (n *ℤ pos m) (pos (2 ^ 64)))
high_printed n m x h =
    le_trans (rw (times n m) (scaled (whole (pos m)) x (over n (2 ^ 64)) (natural m 1) h))
    (le_ceiling (n *ℤ pos m) (2 ^ 64) (omega arith))
