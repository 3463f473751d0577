-- The order of fractions, strict and not.
use Rattle.std.specs.Prelude.{◌≡◌, pos, Bool, true, false, [], ◌∷◌, ◌⊎◌}
use Rattle.std.proofs.Common.{refl, ap, ◌∙◌, inl, inr}
use mathlib.Core.Bool.{Bool-set}
use Rattle.frac_laws.specs.Fraction.{Fraction, whole, opposite, is_not_negative}
use Rattle.frac_laws.specs.Fraction.{◌+ℚ◌ as ◌+◌, ◌*ℚ◌ as ◌*◌, ◌-ℚ◌ as ◌-◌, ◌≤ℚ◌ as ◌≤◌, ◌<ℚ◌ as ◌<◌}
use Rattle.frac_laws.proofs.FractionRing.{opposite_sign, zero_sign}
use Rattle.frac_laws.proofs.FractionTerms.{ring, terms}
use Rattle.frac_laws.proofs.Gaps.{gap, by_gap, add_gaps, mul_gaps, of_equal, of_zero, above_zero, zero_below}
use Rattle.frac_laws.proofs.Gaps.{le_by_gap, sides_of}

pub ≤-prop : (x y : Fraction) → IsProp (x ≤ y)
≤-prop x y = hlevel Bool-set

pub <-prop : (x y : Fraction) → IsProp (x < y)
<-prop x y = hlevel Bool-set

pub le_refl : (x : Fraction) → x ≤ x
le_refl x = le_by_gap (x ∷ []) of_zero (hlevel sides_of) refl

pub le_of_equal : {x y : Fraction} → x ≡ y → x ≤ y
le_of_equal {x} {y} e = rw e (le_refl y)

pub le_trans : {x y z : Fraction} → x ≤ y → y ≤ z → x ≤ z
le_trans {x} {y} {z} h k = le_by_gap (x ∷ y ∷ z ∷ []) (add_gaps (gap h) (gap k)) (hlevel sides_of) refl

pub le_antisym : {x y : Fraction} → x ≤ y → y ≤ x → x ≡ y
le_antisym {x} {y} h k = ring (x ∷ y ∷ []) (hlevel terms) refl
    ∙ ap (λ z. y - z) (zero_sign (y - x) (gap h).sign
    (of_equal (ring (x ∷ y ∷ []) (hlevel terms) refl) (gap k)).sign)
    ∙ ring (y ∷ []) (hlevel terms) refl

-- each fraction is not negative, or its opposite is not
pub sign_cases : (x : Fraction) → (whole (pos 0) ≤ x) ⊎ (whole (pos 0) ≤ opposite x)
sign_cases x = cases (is_not_negative x) refl
  where
    cases : (b : Bool) → is_not_negative x ≡ b → (whole (pos 0) ≤ x) ⊎ (whole (pos 0) ≤ opposite x)
    cases true e = inl (zero_below (record { sign = e }))
    cases false e = inr (zero_below (record { sign = opposite_sign x e }))

pub le_total : (x y : Fraction) → (x ≤ y) ⊎ (y ≤ x)
le_total x y = elim (sign_cases (y - x)) [
  | inl h ↦ inl (by_gap (above_zero h))
  | inr h ↦ inr (le_by_gap (x ∷ y ∷ []) (above_zero h) (hlevel sides_of) refl)
]

pub add_mono : {a b c d : Fraction} → a ≤ b → c ≤ d → a + c ≤ b + d
add_mono {a} {b} {c} {d} h k =
    le_by_gap (a ∷ b ∷ c ∷ d ∷ []) (add_gaps (gap h) (gap k)) (hlevel sides_of) refl

pub mul_mono : {a b c d : Fraction} → a ≤ b → c ≤ d → whole (pos 0) ≤ a → whole (pos 0) ≤ d → a * c ≤ b * d
mul_mono {a} {b} {c} {d} h k p q = le_by_gap (a ∷ b ∷ c ∷ d ∷ [])
    (add_gaps (mul_gaps (above_zero p) (gap k)) (mul_gaps (gap h) (above_zero q))) (hlevel sides_of) refl

pub opposite_mono : {x y : Fraction} → x ≤ y → opposite y ≤ opposite x
opposite_mono {x} {y} h = le_by_gap (x ∷ y ∷ []) (gap h) (hlevel sides_of) refl

pub le_of_not_le : {x y : Fraction} → ¬ (x ≤ y) → y ≤ x
le_of_not_le {x} {y} h = elim (le_total x y) [ inl k ↦ absurd (h k) | inr k ↦ k ]

pub not_le_of_lt : {x y : Fraction} → x < y → ¬ (y ≤ x)
not_le_of_lt h k = cc (h.lt, k.le)

pub lt_or_le : (x y : Fraction) → (x < y) ⊎ (y ≤ x)
lt_or_le x y = cases (is_not_negative (x - y)) refl
  where
    cases : (b : Bool) → is_not_negative (x - y) ≡ b → (x < y) ⊎ (y ≤ x)
    cases true e = inr (record { le = e })
    cases false e = inl (record { lt = e })

pub lt_of_not_le : {x y : Fraction} → ¬ (y ≤ x) → x < y
lt_of_not_le {x} {y} h = elim (lt_or_le x y) [ inl k ↦ k | inr k ↦ absurd (h k) ]

pub le_of_not_lt : {x y : Fraction} → ¬ (y < x) → x ≤ y
le_of_not_lt {x} {y} h = elim (lt_or_le y x) [ inl k ↦ absurd (h k) | inr k ↦ k ]

pub le_of_lt : {x y : Fraction} → x < y → x ≤ y
le_of_lt h = le_of_not_le (not_le_of_lt h)

pub lt_le_trans : {x y z : Fraction} → x < y → y ≤ z → x < z
lt_le_trans h k = lt_of_not_le (λ l. not_le_of_lt h (le_trans k l))

pub le_lt_trans : {x y z : Fraction} → x ≤ y → y < z → x < z
le_lt_trans h k = lt_of_not_le (λ l. not_le_of_lt k (le_trans l h))

pub lt_trans : {x y z : Fraction} → x < y → y < z → x < z
lt_trans h k = lt_le_trans h (le_of_lt k)

-- a strict fact and another fact, added
pub add_lt_le : {a b c d : Fraction} → a < b → c ≤ d → a + c < b + d
add_lt_le {a} {b} {c} {d} h k = lt_of_not_le (λ l. not_le_of_lt h
    (le_by_gap (a ∷ b ∷ c ∷ d ∷ []) (add_gaps (gap l) (gap k)) (hlevel sides_of) refl))

pub add_le_lt : {a b c d : Fraction} → a ≤ b → c < d → a + c < b + d
add_le_lt {a} {b} {c} {d} h k = lt_of_not_le (λ l. not_le_of_lt k
    (le_by_gap (a ∷ b ∷ c ∷ d ∷ []) (add_gaps (gap l) (gap h)) (hlevel sides_of) refl))

pub lt_irrefl : (x : Fraction) → ¬ (x < x)
lt_irrefl x h = not_le_of_lt h (le_refl x)

-- below, equal or above
pub compare : (x y : Fraction) → (x < y) ⊎ ((x ≡ y) ⊎ (y < x))
compare x y = elim (lt_or_le x y) [
  | inl h ↦ inl h
  | inr h ↦ elim (lt_or_le y x) [ inl k ↦ inr (inr k) | inr k ↦ inr (inl (le_antisym k h)) ]
]
