-- Fractions are a commutative ring, and what is known of the sign of a sum, a product and an opposite.
use Rattle.std.specs.Prelude.{◌≡◌, ℕ, zero, suc, pos, negsuc, ℤ, ◌+ℤ◌, ◌*ℤ◌, neg_ℤ, true, false, refl, []}
use Rattle.std.specs.Prelude.{◌∷◌}
use mathlib.Core.Bool.{Bool-set}
use mathlib.Core.Quot.{mk, ind, sound}
use Rattle.frac_base.specs.Pair.{Pair, bottom, sum_of, product_of, is_natural, one_pair}
use Rattle.frac_base.proofs.Respect as R
use Rattle.frac_base.proofs.Ring.{RingOver}
use Rattle.frac_base.proofs.WholeRing.{is_zero, is_zero-zero}
use Rattle.frac_base.proofs.WholeTerms.{ring, terms}
use Rattle.frac_laws.specs.Fraction.{Fraction, Fraction-set, whole, opposite, is_not_negative}
use Rattle.frac_laws.specs.Fraction.{◌+ℚ◌ as ◌+◌, ◌*ℚ◌ as ◌*◌}

pub add_comm : (x y : Fraction) → x + y ≡ y + x
unfolding ◌+◌
add_comm = ind (λ x. hlevel Fraction-set) (λ p. ind (λ y. Fraction-set _ _) (λ q. sound (R.sum-comm p q)))

pub add_assoc : (x y z : Fraction) → (x + y) + z ≡ x + (y + z)
unfolding ◌+◌
add_assoc = ind (λ x. hlevel Fraction-set) (λ p. ind (λ y. hlevel Fraction-set) (λ q.
    ind (λ z. Fraction-set _ _) (λ r. sound (R.sum-assoc p q r))))

pub add_zero : (x : Fraction) → x + whole (pos 0) ≡ x
unfolding ◌+◌
add_zero = ind (λ x. Fraction-set _ _) (λ p. sound (R.sum-zero p))

pub add_opposite : (x : Fraction) → x + opposite x ≡ whole (pos 0)
unfolding ◌+◌ opposite
add_opposite = ind (λ x. Fraction-set _ _) (λ p. sound (R.sum-opposite p))

pub mul_comm : (x y : Fraction) → x * y ≡ y * x
unfolding ◌*◌
mul_comm = ind (λ x. hlevel Fraction-set) (λ p. ind (λ y. Fraction-set _ _) (λ q. sound (R.product-comm p q)))

pub mul_assoc : (x y z : Fraction) → (x * y) * z ≡ x * (y * z)
unfolding ◌*◌
mul_assoc = ind (λ x. hlevel Fraction-set) (λ p. ind (λ y. hlevel Fraction-set) (λ q.
    ind (λ z. Fraction-set _ _) (λ r. sound (R.product-assoc p q r))))

pub mul_one : (x : Fraction) → x * whole (pos 1) ≡ x
unfolding ◌*◌
mul_one = ind (λ x. Fraction-set _ _) (λ p. sound (R.product-one p))

pub mul_add : (x y z : Fraction) → x * (y + z) ≡ x * y + x * z
unfolding ◌+◌ ◌*◌
mul_add = ind (λ x. hlevel Fraction-set) (λ p. ind (λ y. hlevel Fraction-set) (λ q.
    ind (λ z. Fraction-set _ _) (λ r. sound (R.product-sum p q r))))

-- a sum and a product of pairs, as fractions
pub mk-sum_of : (p q : Pair) → ◌≡◌ {A = Fraction} (mk (sum_of p q)) (mk p + mk q)
unfolding ◌+◌
mk-sum_of p q = refl

pub mk-product_of : (p q : Pair) → ◌≡◌ {A = Fraction} (mk (product_of p q)) (mk p * mk q)
unfolding ◌*◌
mk-product_of p q = refl

pub whole-opposite_one : whole (negsuc 0) ≡ opposite (whole (pos 1))
unfolding opposite
whole-opposite_one = refl

top_zero : (n b : ℤ) → n ≡ pos 0 → n *ℤ pos 1 ≡ pos 0 *ℤ b
top_zero n b h = rw h (ring (b ∷ []) (hlevel terms) refl)

pub mk-zero : (p : Pair) → is_zero p.top ≡ true → ◌≡◌ {A = Fraction} (mk p) (whole (pos 0))
mk-zero p h = sound (top_zero p.top (bottom p) (is_zero-zero p.top h))

-- fractions, with pairs as numerals
abbrev pub fraction_ring : RingOver
fraction_ring = record {
  Element = Fraction;
  nil = whole (pos 0);
  one = whole (pos 1);
  add = ◌+◌;
  mul = ◌*◌;
  neg = opposite;
  add_comm = add_comm;
  add_assoc = add_assoc;
  add_nil = add_zero;
  add_neg = add_opposite;
  mul_comm = mul_comm;
  mul_assoc = mul_assoc;
  mul_one = mul_one;
  mul_add = mul_add;
  Numeral = Pair;
  numeral_one = one_pair;
  numeral_minus_one = record { top = negsuc 0; below = 0 };
  numeral_add = sum_of;
  numeral_mul = product_of;
  is_nil = λ p. is_zero p.top;
  value = λ p. mk p;
  value_one = refl;
  value_minus_one = whole-opposite_one;
  value_add = mk-sum_of;
  value_mul = mk-product_of;
  value_nil = mk-zero;
}

sum_natural : (n m : ℤ) (a b : ℕ) → is_natural n ≡ true → is_natural m ≡ true
    → is_natural (n *ℤ pos (suc b) +ℤ m *ℤ pos (suc a)) ≡ true
sum_natural (pos n) (pos m) a b h k = refl
sum_natural (pos n) (negsuc m) a b h k = cc
sum_natural (negsuc n) m a b h k = cc

product_natural : (n m : ℤ) → is_natural n ≡ true → is_natural m ≡ true → is_natural (n *ℤ m) ≡ true
product_natural (pos n) (pos m) h k = refl
product_natural (pos n) (negsuc m) h k = cc
product_natural (negsuc n) m h k = cc

opposite_natural : (n : ℤ) → is_natural n ≡ false → is_natural (neg_ℤ n) ≡ true
opposite_natural (pos n) h = cc
opposite_natural (negsuc n) h = refl

both_natural : (n : ℤ) → is_natural n ≡ true → is_natural (neg_ℤ n) ≡ true → n ≡ pos 0
both_natural (pos zero) h k = refl
both_natural (pos (suc n)) h k = cc
both_natural (negsuc n) h k = cc

pub add_sign : (x y : Fraction) → is_not_negative x ≡ true → is_not_negative y ≡ true
    → is_not_negative (x + y) ≡ true
unfolding ◌+◌ is_not_negative
add_sign = ind (λ x. hlevel Bool-set) (λ p. ind (λ y. hlevel Bool-set) (λ q h k.
    sum_natural p.top q.top p.below q.below h k))

pub mul_sign : (x y : Fraction) → is_not_negative x ≡ true → is_not_negative y ≡ true
    → is_not_negative (x * y) ≡ true
unfolding ◌*◌ is_not_negative
mul_sign = ind (λ x. hlevel Bool-set)
    (λ p. ind (λ y. hlevel Bool-set) (λ q h k. product_natural p.top q.top h k))

pub opposite_sign : (x : Fraction) → is_not_negative x ≡ false → is_not_negative (opposite x) ≡ true
unfolding opposite is_not_negative
opposite_sign = ind (λ x. hlevel Bool-set) (λ p h. opposite_natural p.top h)

-- what is not below 0 and not above 0 is 0
pub zero_sign : (x : Fraction) → is_not_negative x ≡ true → is_not_negative (opposite x) ≡ true
    → x ≡ whole (pos 0)
unfolding opposite is_not_negative
zero_sign = ind (λ x. hlevel Fraction-set)
    (λ p h k. sound (top_zero p.top (bottom p) (both_natural p.top h k)))
