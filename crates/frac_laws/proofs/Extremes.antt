-- The greater and the lesser of two fractions, and the product of two intervals.
use Rattle.std.specs.Prelude.{◌≡◌, Bool, true, false, cond, [], ◌∷◌, ◌⊎◌}
use Rattle.std.proofs.Common.{refl, inl, inr}
use Rattle.frac_laws.specs.Fraction.{Fraction, is_not_negative, greater, lesser, ◌*ℚ◌, ◌-ℚ◌, ◌≤ℚ◌}
use Rattle.frac_laws.proofs.Order.{le_refl, le_trans, le_of_not_le, sign_cases}
use Rattle.frac_laws.proofs.Linear.{linear, claims, ◌⊠◌}

pub greater_cases : (x y : Fraction) → ((x ≤ℚ y) × greater x y ≡ y) ⊎ ((y ≤ℚ x) × greater x y ≡ x)
unfolding greater
greater_cases x y = cases (is_not_negative (y -ℚ x)) refl
  where
    cases : (b : Bool) → is_not_negative (y -ℚ x) ≡ b
        → ((x ≤ℚ y) × cond b y x ≡ y) ⊎ ((y ≤ℚ x) × cond b y x ≡ x)
    cases true e = inl (record { le = e }, refl)
    cases false e = inr (le_of_not_le (λ h. cc (h.le, e)), refl)

pub le_greater_left : (x y : Fraction) → x ≤ℚ greater x y
le_greater_left x y = elim (greater_cases x y) [ inl h ↦ rw h.1 h.0 | inr h ↦ rw h.1 (le_refl x) ]

pub le_greater_right : (x y : Fraction) → y ≤ℚ greater x y
le_greater_right x y = elim (greater_cases x y) [ inl h ↦ rw h.1 (le_refl y) | inr h ↦ rw h.1 h.0 ]

pub greater_le : (x y : Fraction) {r : Fraction} → x ≤ℚ r → y ≤ℚ r → greater x y ≤ℚ r
greater_le x y h k = elim (greater_cases x y) [ inl c ↦ rw c.1 k | inr c ↦ rw c.1 h ]

pub greater_mono : {x y z w : Fraction} → x ≤ℚ z → y ≤ℚ w → greater x y ≤ℚ greater z w
greater_mono {x} {y} {z} {w} h k =
    greater_le x y (le_trans h (le_greater_left z w)) (le_trans k (le_greater_right z w))

pub lesser_cases : (x y : Fraction) → ((x ≤ℚ y) × lesser x y ≡ x) ⊎ ((y ≤ℚ x) × lesser x y ≡ y)
unfolding lesser
lesser_cases x y = cases (is_not_negative (y -ℚ x)) refl
  where
    cases : (b : Bool) → is_not_negative (y -ℚ x) ≡ b
        → ((x ≤ℚ y) × cond b x y ≡ x) ⊎ ((y ≤ℚ x) × cond b x y ≡ y)
    cases true e = inl (record { le = e }, refl)
    cases false e = inr (le_of_not_le (λ h. cc (h.le, e)), refl)

pub lesser_le_left : (x y : Fraction) → lesser x y ≤ℚ x
lesser_le_left x y = elim (lesser_cases x y) [ inl h ↦ rw h.1 (le_refl x) | inr h ↦ rw h.1 h.0 ]

pub lesser_le_right : (x y : Fraction) → lesser x y ≤ℚ y
lesser_le_right x y = elim (lesser_cases x y) [ inl h ↦ rw h.1 h.0 | inr h ↦ rw h.1 (le_refl y) ]

pub le_lesser : (x y : Fraction) {r : Fraction} → r ≤ℚ x → r ≤ℚ y → r ≤ℚ lesser x y
le_lesser x y h k = elim (lesser_cases x y) [ inl c ↦ rw c.1 h | inr c ↦ rw c.1 k ]

pub lesser_mono : {x y z w : Fraction} → x ≤ℚ z → y ≤ℚ w → lesser x y ≤ℚ lesser z w
lesser_mono {x} {y} {z} {w} h k =
    le_lesser z w (le_trans (lesser_le_left x y) h) (le_trans (lesser_le_right x y) k)

-- a product with a number of an interval is at most the greater of the products with its ends
pub product_le_ends : {a b x : Fraction} (y : Fraction) → a ≤ℚ x → x ≤ℚ b
    → x *ℚ y ≤ℚ greater (a *ℚ y) (b *ℚ y)
product_le_ends {a} {b} {x} y h k = elim (sign_cases y) [
  | inl s ↦ le_trans (linear (a ∷ b ∷ x ∷ y ∷ []) (k ⊠ s) (hlevel claims) refl)
      (le_greater_right (a *ℚ y) (b *ℚ y))
  | inr s ↦ le_trans (linear (a ∷ b ∷ x ∷ y ∷ []) (h ⊠ s) (hlevel claims) refl)
      (le_greater_left (a *ℚ y) (b *ℚ y))
]

pub ends_le_product : {a b x : Fraction} (y : Fraction) → a ≤ℚ x → x ≤ℚ b → lesser (a *ℚ y) (b *ℚ y) ≤ℚ x *ℚ y
ends_le_product {a} {b} {x} y h k = elim (sign_cases y) [
  | inl s ↦ le_trans (lesser_le_left (a *ℚ y) (b *ℚ y))
      (linear (a ∷ b ∷ x ∷ y ∷ []) (h ⊠ s) (hlevel claims) refl)
  | inr s ↦ le_trans (lesser_le_right (a *ℚ y) (b *ℚ y))
      (linear (a ∷ b ∷ x ∷ y ∷ []) (k ⊠ s) (hlevel claims) refl)
]

turned : {c d y : Fraction} (z : Fraction) → c ≤ℚ y → y ≤ℚ d → z *ℚ y ≤ℚ greater (z *ℚ c) (z *ℚ d)
turned {c} {d} {y} z h k = elim (sign_cases z) [
  | inl s ↦ le_trans (linear (c ∷ d ∷ y ∷ z ∷ []) (k ⊠ s) (hlevel claims) refl)
      (le_greater_right (z *ℚ c) (z *ℚ d))
  | inr s ↦ le_trans (linear (c ∷ d ∷ y ∷ z ∷ []) (h ⊠ s) (hlevel claims) refl)
      (le_greater_left (z *ℚ c) (z *ℚ d))
]

turned_down : {c d y : Fraction} (z : Fraction) → c ≤ℚ y → y ≤ℚ d → lesser (z *ℚ c) (z *ℚ d) ≤ℚ z *ℚ y
turned_down {c} {d} {y} z h k = elim (sign_cases z) [
  | inl s ↦ le_trans (lesser_le_left (z *ℚ c) (z *ℚ d))
      (linear (c ∷ d ∷ y ∷ z ∷ []) (h ⊠ s) (hlevel claims) refl)
  | inr s ↦ le_trans (lesser_le_right (z *ℚ c) (z *ℚ d))
      (linear (c ∷ d ∷ y ∷ z ∷ []) (k ⊠ s) (hlevel claims) refl)
]

-- a product of numbers of two intervals lies between the least and the greatest of the products of their ends
pub product_le : {a b c d x y : Fraction} → a ≤ℚ x → x ≤ℚ b → c ≤ℚ y → y ≤ℚ d
    → x *ℚ y ≤ℚ greater (greater (a *ℚ c) (a *ℚ d)) (greater (b *ℚ c) (b *ℚ d))
product_le {a} {b} {y = y} h1 h2 h3 h4 =
    le_trans (product_le_ends y h1 h2) (greater_mono (turned a h3 h4) (turned b h3 h4))

pub le_product : {a b c d x y : Fraction} → a ≤ℚ x → x ≤ℚ b → c ≤ℚ y → y ≤ℚ d
    → lesser (lesser (a *ℚ c) (a *ℚ d)) (lesser (b *ℚ c) (b *ℚ d)) ≤ℚ x *ℚ y
le_product {a} {b} {y = y} h1 h2 h3 h4 =
    le_trans (lesser_mono (turned_down a h3 h4) (turned_down b h3 h4)) (ends_le_product y h1 h2)
