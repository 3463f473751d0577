-- Inequalities of fractions in one line. A fact is an order `s ≤ t` or an equation `s ≡ t`; facts are added
-- by `⊞`, two gaps are multiplied by `⊠`, and `c · e` is an equation times c.
use Rattle.std.specs.Prelude.{◌≡◌, ℕ, pos, Bool, true, List, [], ◌∷◌}
use Rattle.std.proofs.Common.{refl, ap}
use Rattle.frac_base.proofs.Ring.{all_nil, normal_form, ◌⊖◌, ◌⊕◌}
use Rattle.frac_laws.specs.Fraction.{Fraction, over, whole, ◌+ℚ◌, ◌*ℚ◌, ◌-ℚ◌, ◌≤ℚ◌, ◌<ℚ◌}
use Rattle.frac_laws.proofs.FractionRing.{fraction_ring}
use Rattle.frac_laws.proofs.FractionTerms.{ring, terms, Term, sub, expr}
use Rattle.frac_laws.proofs.Gaps.{gap, zero_below, mul_gaps, of_natural, is_natural_constant, gaps}
use Rattle.frac_laws.proofs.Gaps.{le_by_gap, equal_by_rest}
use Rattle.frac_laws.proofs.Order.{add_mono, le_of_equal, not_le_of_lt, lt_of_not_le}

infixl 6 ◌⊞◌
infixl 7 ◌⊠◌
infixr 7 ◌·◌
-- the sum of two facts
pub ◌⊞◌ : {x y z w : Fraction} → x ≤ℚ y → z ≤ℚ w → x +ℚ z ≤ℚ y +ℚ w
h ⊞ k = add_mono h k

-- the product of two gaps
pub ◌⊠◌ : {x y z w : Fraction} → x ≤ℚ y → z ≤ℚ w → whole (pos 0) ≤ℚ (y -ℚ x) *ℚ (w -ℚ z)
h ⊠ k = zero_below (mul_gaps (gap h) (gap k))

-- an equation, times anything, as an order
pub ◌·◌ : {x y : Fraction} (c : Fraction) → x ≡ y → c *ℚ x ≤ℚ c *ℚ y
c · e = le_of_equal (ap (λ z. c *ℚ z) e)

-- a numeral n / d is not negative
pub natural : (n d : ℕ) → whole (pos 0) ≤ℚ over (pos n) d
natural n d = zero_below (of_natural _ refl)

-- how the two sides of the claim and of the fact are written
pub data Claim (xs : List Fraction) : Fraction → Fraction → Fraction → Fraction → Type 0 where
  claim : {a b s t : Fraction} → Term xs a → Term xs b → Term xs s → Term xs t → Claim xs a b s t

pub ruleset claims = (claim, terms)

abbrev pub is_enough : {xs : List Fraction} {a b s t : Fraction} → Claim xs a b s t → Bool
is_enough (claim a b s t) = is_natural_constant
    (normal_form fraction_ring (expr b ⊖ (expr a ⊕ (expr t ⊖ expr s))))

-- a ≤ b from s ≤ t, where (b - a) - (t - s) is a numeral that is not negative
pub linear : (xs : List Fraction) {a b s t : Fraction} → s ≤ℚ t → (w : Claim xs a b s t)
    → is_enough w ≡ true → a ≤ℚ b
linear xs h (claim u v p q) e = le_by_gap xs (gap h) (gaps u v (sub q p)) e

-- a < b from s < t in the same way
pub linear_lt : (xs : List Fraction) {a b s t : Fraction} → s <ℚ t → (w : Claim xs t s b a)
    → is_enough w ≡ true → a <ℚ b
linear_lt xs h w e = lt_of_not_le (λ k. not_le_of_lt h (linear xs k w e))

abbrev pub is_equal : {xs : List Fraction} {a b s t : Fraction} → Claim xs a b s t → Bool
is_equal (claim a b s t) = all_nil fraction_ring
    (normal_form fraction_ring (expr b ⊖ (expr a ⊕ (expr t ⊖ expr s))))

difference_of_equal : {s t : Fraction} → s ≡ t → t -ℚ s ≡ whole (pos 0)
difference_of_equal {s} {t} e = rw e (ring (t ∷ []) (hlevel terms) refl)

-- a ≡ b from s ≡ t, where (b - a) - (t - s) is 0
pub equal : (xs : List Fraction) {a b s t : Fraction} → s ≡ t → (w : Claim xs a b s t) → is_equal w ≡ true
    → a ≡ b
equal xs h (claim u v p q) e = equal_by_rest xs (difference_of_equal h) (gaps u v (sub q p)) e
