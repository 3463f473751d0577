-- The size of a fraction.
use Rattle.std.specs.Prelude.{◌≡◌, pos, Bool, true, false, [], ◌∷◌, ◌⊎◌, cond}
use Rattle.std.proofs.Common.{refl, ap, sym, ◌∙◌, inl, inr}
use Rattle.frac_laws.specs.Fraction.{Fraction, whole, opposite, is_not_negative, size}
use Rattle.frac_laws.specs.Fraction.{◌+ℚ◌ as ◌+◌, ◌*ℚ◌ as ◌*◌, ◌-ℚ◌ as ◌-◌, ◌≤ℚ◌ as ◌≤◌}
use Rattle.frac_laws.proofs.FractionRing.{zero_sign}
use Rattle.frac_laws.proofs.FractionTerms.{ring, terms}
use Rattle.frac_laws.proofs.Gaps.{above_zero}
use Rattle.frac_laws.proofs.Order.{le_refl, le_trans, sign_cases}
use Rattle.frac_laws.proofs.Linear.{linear, claims, ◌⊞◌, ◌⊠◌}

pub size_of_natural : {x : Fraction} → whole (pos 0) ≤ x → size x ≡ x
unfolding size
size_of_natural {x} h = ap (λ b. cond b x (opposite x)) (above_zero h).sign

pub size_of_opposite : (x : Fraction) → whole (pos 0) ≤ opposite x → size x ≡ opposite x
unfolding size
size_of_opposite x h = cases (is_not_negative x) refl
  where
    cases : (b : Bool) → is_not_negative x ≡ b → cond b x (opposite x) ≡ opposite x
    cases true e = let z = zero_sign x e (above_zero h).sign in z ∙ ring [] (hlevel terms) refl
        ∙ sym (ap opposite z)
    cases false e = refl

pub size_cases : (x : Fraction)
    → ((whole (pos 0) ≤ x) × size x ≡ x) ⊎ ((whole (pos 0) ≤ opposite x) × size x ≡ opposite x)
size_cases x = elim (sign_cases x) [
  | inl h ↦ inl (h, size_of_natural h)
  | inr h ↦ inr
      (h, size_of_opposite x h)
]

-- a size is not negative
pub size_natural : (x : Fraction) → whole (pos 0) ≤ size x
size_natural x = elim (size_cases x) [ inl h ↦ rw h.1 h.0 | inr h ↦ rw h.1 h.0 ]

pub le_size : (x : Fraction) → x ≤ size x
le_size x = elim (size_cases x) [
  | inl h ↦ rw h.1 (le_refl x)
  | inr h ↦ rw h.1 (linear (x ∷ []) (h.0 ⊞ h.0) (hlevel claims) refl)
]

pub opposite_le_size : (x : Fraction) → opposite x ≤ size x
opposite_le_size x = elim (size_cases x) [
  | inl h ↦ rw h.1 (linear (x ∷ []) (h.0 ⊞ h.0) (hlevel claims) refl)
  | inr h ↦ rw h.1 (le_refl (opposite x))
]

pub size_le : {x r : Fraction} → x ≤ r → opposite x ≤ r → size x ≤ r
size_le {x} {r} h k = elim (size_cases x) [ inl c ↦ rw c.1 h | inr c ↦ rw c.1 k ]

pub size_le_of_between : {x r : Fraction} → opposite r ≤ x → x ≤ r → size x ≤ r
size_le_of_between {x} {r} h k = size_le k (linear (x ∷ r ∷ []) h (hlevel claims) refl)

pub le_of_size_le : {x r : Fraction} → size x ≤ r → x ≤ r
le_of_size_le {x} h = le_trans (le_size x) h

pub opposite_le_of_size_le : {x r : Fraction} → size x ≤ r → opposite r ≤ x
opposite_le_of_size_le {x} {r} h =
    linear (x ∷ r ∷ size x ∷ []) (h ⊞ opposite_le_size x) (hlevel claims) refl

pub size_add : (x y : Fraction) → size (x + y) ≤ size x + size y
size_add x y = size_le
    (linear (x ∷ y ∷ size x ∷ size y ∷ []) (le_size x ⊞ le_size y) (hlevel claims) refl)
    (linear (x ∷ y ∷ size x ∷ size y ∷ []) (opposite_le_size x ⊞ opposite_le_size y) (hlevel claims) refl)

pub size_sub : (x y : Fraction) → size (x - y) ≤ size x + size y
size_sub x y = size_le
    (linear (x ∷ y ∷ size x ∷ size y ∷ []) (le_size x ⊞ opposite_le_size y) (hlevel claims) refl)
    (linear (x ∷ y ∷ size x ∷ size y ∷ []) (opposite_le_size x ⊞ le_size y) (hlevel claims) refl)

pub size-opposite : (x : Fraction) → size (opposite x) ≡ size x
size-opposite x = elim (size_cases x) [
  | inl h ↦ rw h.1 (size_of_opposite (opposite x) (rw (twice x) h.0) ∙ twice x)
  | inr h ↦ rw h.1 (size_of_natural h.0)
]
  where
    twice : (y : Fraction) → opposite (opposite y) ≡ y
    twice y = ring (y ∷ []) (hlevel terms) refl

pub size_mul : (x y : Fraction) → size (x * y) ≡ size x * size y
size_mul x y = elim (size_cases x) [
  | inl h ↦ elim (size_cases y) [
    | inl k ↦ rw (h.1, k.1) (size_of_natural (linear (x ∷ y ∷ []) (h.0 ⊠ k.0) (hlevel claims) refl))
    | inr k ↦ rw (h.1, k.1) (size_of_opposite _ (linear (x ∷ y ∷ []) (h.0 ⊠ k.0) (hlevel claims) refl)
        ∙ ring (x ∷ y ∷ []) (hlevel terms) refl)
  ]
  | inr h ↦ elim (size_cases y) [
    | inl k ↦ rw (h.1, k.1) (size_of_opposite _ (linear (x ∷ y ∷ []) (h.0 ⊠ k.0) (hlevel claims) refl)
        ∙ ring (x ∷ y ∷ []) (hlevel terms) refl)
    | inr k ↦ rw (h.1, k.1) (size_of_natural (linear (x ∷ y ∷ []) (h.0 ⊠ k.0) (hlevel claims) refl)
        ∙ ring (x ∷ y ∷ []) (hlevel terms) refl)
  ]
]

-- the size of a product with a number that is not negative
pub size_mul_natural : {c : Fraction} (x : Fraction) → whole (pos 0) ≤ c → size (c * x) ≡ c * size x
size_mul_natural {c} x h = size_mul c x ∙ ap (λ z. z * size x) (size_of_natural h)
