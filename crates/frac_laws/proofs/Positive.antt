-- Numbers above 0: their products, and what may be cancelled.
use Rattle.std.specs.Prelude.{◌≡◌, ℕ, zero, suc, pos, negsuc, ℤ, ◌*ℤ◌, ◌<ℤ◌, ◌≤◌, [], ◌∷◌}
use Rattle.std.proofs.Common.{refl, arith, sym}
use Rattle.std.proofs.lemmas.Int.{ints}
use mathlib.Core.Bool.{Bool-set}
use mathlib.Core.Quot.{ind}
use Rattle.frac_base.specs.Pair.{bottom, product_of, zero_pair}
use Rattle.frac_laws.specs.Fraction.{Fraction, over, whole, ◌*ℚ◌, ◌-ℚ◌, ◌≤ℚ◌, ◌<ℚ◌}
use Rattle.frac_laws.proofs.FractionRing.{mk-product_of}
use Rattle.frac_laws.proofs.Order.{le_of_not_lt, lt_of_not_le, not_le_of_lt, le_of_lt, le_antisym}
use Rattle.frac_laws.proofs.Order.{le_of_equal}
use Rattle.frac_laws.proofs.Linear.{linear, linear_lt, claims, ◌⊠◌}
use Rattle.frac_laws.proofs.Quotients.{cross_of_lt, lt_of_cross, over_lt_of_cross}

product_positive : (n m a b d : ℤ) → (pos 0 *ℤ a) <ℤ (n *ℤ pos 1) → (pos 0 *ℤ b) <ℤ (m *ℤ pos 1)
    → (pos 0 *ℤ d) <ℤ ((n *ℤ m) *ℤ pos 1)
product_positive (pos zero) m a b d h k = absurd (omega (arith, ints))
product_positive (pos (suc n)) (pos zero) a b d h k = absurd (omega (arith, ints))
product_positive (pos (suc n)) (pos (suc m)) a b d h k = omega (arith, ints)
product_positive (pos (suc n)) (negsuc m) a b d h k = absurd (omega (arith, ints))
product_positive (negsuc n) m a b d h k = absurd (omega (arith, ints))

-- a product of numbers above 0 is above 0
pub mul_positive : (x y : Fraction) → whole (pos 0) <ℚ x → whole (pos 0) <ℚ y → whole (pos 0) <ℚ x *ℚ y
mul_positive = ind (λ x. hlevel Bool-set) (λ p. ind (λ y. hlevel Bool-set) (λ q h k.
    rw (sym (mk-product_of p q)) (lt_of_cross zero_pair (product_of p q)
    (product_positive p.top q.top (bottom p) (bottom q) (bottom (product_of p q))
    (cross_of_lt zero_pair p h) (cross_of_lt zero_pair q k)))))

-- n / d for n above 0
pub over_positive : (n d : ℕ) → 1 ≤ n → 1 ≤ d → whole (pos 0) <ℚ over (pos n) d
over_positive n d a b = over_lt_of_cross (pos 0) (pos n) 1 d (omega arith) b (omega (arith, ints))

pub whole_positive : (n : ℕ) → 1 ≤ n → whole (pos 0) <ℚ whole (pos n)
whole_positive n a = over_positive n 1 a (omega arith)

difference_positive : {x y : Fraction} → x <ℚ y → whole (pos 0) <ℚ y -ℚ x
difference_positive {x} {y} h = linear_lt (x ∷ y ∷ []) h (hlevel claims) refl

-- a factor above 0 keeps a strict order
pub mul_lt : {c x y : Fraction} → whole (pos 0) <ℚ c → x <ℚ y → c *ℚ x <ℚ c *ℚ y
mul_lt {c} {x} {y} h k =
    linear_lt (c ∷ x ∷ y ∷ []) (mul_positive c (y -ℚ x) h (difference_positive k)) (hlevel claims) refl

-- a factor above 0 may be cancelled
pub le_of_mul_le : {c x y : Fraction} → whole (pos 0) <ℚ c → c *ℚ x ≤ℚ c *ℚ y → x ≤ℚ y
le_of_mul_le h k = le_of_not_lt (λ l. not_le_of_lt (mul_lt h l) k)

pub lt_of_mul_lt : {c x y : Fraction} → whole (pos 0) <ℚ c → c *ℚ x <ℚ c *ℚ y → x <ℚ y
lt_of_mul_lt h k = lt_of_not_le (λ l. not_le_of_lt k (mul_le h l))
  where
    mul_le : {c x y : Fraction} → whole (pos 0) <ℚ c → y ≤ℚ x → c *ℚ y ≤ℚ c *ℚ x
    mul_le {c} {x} {y} p l = linear (c ∷ x ∷ y ∷ []) (le_of_lt p ⊠ l) (hlevel claims) refl

pub equal_of_mul_equal : {c x y : Fraction} → whole (pos 0) <ℚ c → c *ℚ x ≡ c *ℚ y → x ≡ y
equal_of_mul_equal h e = le_antisym (le_of_mul_le h (le_of_equal e)) (le_of_mul_le h (le_of_equal (sym e)))
