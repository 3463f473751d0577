-- Fractions that are written as a quotient of whole numbers: equality, order, sum and product by the cross
-- products.
use Rattle.std.specs.Prelude.{◌≡◌, ℕ, suc, zero, pred, pos, ℤ, ◌+ℤ◌, ◌-ℤ◌, ◌*ℤ◌, neg_ℤ, ◌≤ℤ◌, ◌<ℤ◌, ◌≤◌, ◌*◌}
use Rattle.std.specs.Prelude.{true, [], ◌∷◌}
use Rattle.std.proofs.Common.{refl, ap, sym, ◌∙◌, arith, ◌^◌}
use Rattle.std.proofs.lemmas.Int.{ints}
use mathlib.Core.Path.{ap₂}
use mathlib.Core.Quot.{mk, sound}
use Rattle.frac_base.specs.Pair.{Pair, Same, bottom, is_natural}
use Rattle.frac_base.proofs.Respect.{bottoms}
use Rattle.frac_base.proofs.WholeRing.{mul_one}
use Rattle.frac_base.proofs.WholeTerms as W
use Rattle.frac_laws.specs.Fraction.{Fraction, over, whole, opposite, is_not_negative}
use Rattle.frac_laws.specs.Fraction.{◌+ℚ◌, ◌*ℚ◌, ◌-ℚ◌, ◌≤ℚ◌, ◌<ℚ◌}
use Rattle.frac_laws.proofs.FractionRing.{mk-product_of}
use Rattle.frac_laws.proofs.FractionTerms.{ring, terms}
use Rattle.frac_laws.proofs.Order.{le_of_equal, not_le_of_lt, lt_of_not_le}
use Rattle.frac_laws.proofs.WholeProducts.{product_le}
use Rattle.whole_laws.proofs.Numbers.{whole_antisym}

difference : (n m : ℤ) → is_natural (m +ℤ neg_ℤ n) ≡ true → n ≤ℤ m
difference n m h = grind (arith, ints)

difference_of : (n m : ℤ) → n ≤ℤ m → is_natural (m +ℤ neg_ℤ n) ≡ true
difference_of n m h = grind (arith, ints)

opposite_times : (n a : ℤ) → neg_ℤ n *ℤ a ≡ neg_ℤ (n *ℤ a)
opposite_times n a = W.ring (n ∷ a ∷ []) (hlevel W.terms) refl

-- the order of pairs, both ways
pub cross_of_le : (p q : Pair) → mk p ≤ℚ mk q → (p.top *ℤ bottom q) ≤ℤ (q.top *ℤ bottom p)
unfolding is_not_negative ◌-ℚ◌ ◌+ℚ◌ opposite
cross_of_le p q h = difference _ _ (rw (opposite_times p.top (bottom q)) at h.le)

pub le_of_cross : (p q : Pair) → (p.top *ℤ bottom q) ≤ℤ (q.top *ℤ bottom p) → mk p ≤ℚ mk q
unfolding is_not_negative ◌-ℚ◌ ◌+ℚ◌ opposite
le_of_cross p q h = record { le = rw (opposite_times p.top (bottom q)) (difference_of _ _ h) }

not_le_of_lt_whole : {n m : ℤ} → n <ℤ m → ¬ (m ≤ℤ n)
not_le_of_lt_whole h k = omega (arith, ints)

lt_of_not_le_whole : (n m : ℤ) → ¬ (m ≤ℤ n) → n <ℤ m
lt_of_not_le_whole n m h = grind (arith, ints)

pub cross_of_lt : (p q : Pair) → mk p <ℚ mk q → (p.top *ℤ bottom q) <ℤ (q.top *ℤ bottom p)
cross_of_lt p q h = lt_of_not_le_whole _ _ (λ k. not_le_of_lt h (le_of_cross q p k))

pub lt_of_cross : (p q : Pair) → (p.top *ℤ bottom q) <ℤ (q.top *ℤ bottom p) → mk p <ℚ mk q
lt_of_cross p q h = lt_of_not_le (λ k. not_le_of_lt_whole h (cross_of_le q p k))

-- equal fractions have equal cross products
pub same_of_equal : (p q : Pair) → ◌≡◌ {A = Fraction} (mk p) (mk q) → Same p q
same_of_equal p q e = whole_antisym _ _ (cross_of_le p q (le_of_equal e))
    (cross_of_le q p (le_of_equal (sym e)))

-- over n d, as a pair
abbrev pub pair : ℤ → ℕ → Pair
pair n d = record { top = n; below = pred d }

pub cross_of_over_le : (n m : ℤ) (d e : ℕ) → 1 ≤ d → 1 ≤ e → over n d ≤ℚ over m e
    → (n *ℤ pos e) ≤ℤ (m *ℤ pos d)
cross_of_over_le n m zero e a b h = absurd (omega arith)
cross_of_over_le n m (suc d) zero a b h = absurd (omega arith)
cross_of_over_le n m (suc d) (suc e) a b h = cross_of_le (pair n (suc d)) (pair m (suc e)) h

pub over_le_of_cross : (n m : ℤ) (d e : ℕ) → 1 ≤ d → 1 ≤ e → (n *ℤ pos e) ≤ℤ (m *ℤ pos d)
    → over n d ≤ℚ over m e
over_le_of_cross n m zero e a b h = absurd (omega arith)
over_le_of_cross n m (suc d) zero a b h = absurd (omega arith)
over_le_of_cross n m (suc d) (suc e) a b h = le_of_cross (pair n (suc d)) (pair m (suc e)) h

pub cross_of_over_lt : (n m : ℤ) (d e : ℕ) → 1 ≤ d → 1 ≤ e → over n d <ℚ over m e
    → (n *ℤ pos e) <ℤ (m *ℤ pos d)
cross_of_over_lt n m zero e a b h = absurd (omega arith)
cross_of_over_lt n m (suc d) zero a b h = absurd (omega arith)
cross_of_over_lt n m (suc d) (suc e) a b h = cross_of_lt (pair n (suc d)) (pair m (suc e)) h

pub over_lt_of_cross : (n m : ℤ) (d e : ℕ) → 1 ≤ d → 1 ≤ e → (n *ℤ pos e) <ℤ (m *ℤ pos d)
    → over n d <ℚ over m e
over_lt_of_cross n m zero e a b h = absurd (omega arith)
over_lt_of_cross n m (suc d) zero a b h = absurd (omega arith)
over_lt_of_cross n m (suc d) (suc e) a b h = lt_of_cross (pair n (suc d)) (pair m (suc e)) h

pub cross_of_over_equal : (n m : ℤ) (d e : ℕ) → 1 ≤ d → 1 ≤ e → over n d ≡ over m e → n *ℤ pos e ≡ m *ℤ pos d
cross_of_over_equal n m zero e a b h = absurd (omega arith)
cross_of_over_equal n m (suc d) zero a b h = absurd (omega arith)
cross_of_over_equal n m (suc d) (suc e) a b h = same_of_equal (pair n (suc d)) (pair m (suc e)) h

pub over_equal_of_cross : (n m : ℤ) (d e : ℕ) → 1 ≤ d → 1 ≤ e → n *ℤ pos e ≡ m *ℤ pos d → over n d ≡ over m e
over_equal_of_cross n m zero e a b h = absurd (omega arith)
over_equal_of_cross n m (suc d) zero a b h = absurd (omega arith)
over_equal_of_cross n m (suc d) (suc e) a b h = sound h

-- sums and products over whole numbers
pub over_mul : (n m : ℤ) (d e : ℕ) → 1 ≤ d → 1 ≤ e → over n d *ℚ over m e ≡ over (n *ℤ m) (d * e)
over_mul n m zero e a b = absurd (omega arith)
over_mul n m (suc d) zero a b = absurd (omega arith)
over_mul n m (suc d) (suc e) a b = sym (mk-product_of (pair n (suc d)) (pair m (suc e)))

over_add_is : (n m d e : ℤ) → e ≡ d *ℤ d → (n +ℤ m) *ℤ e ≡ (n *ℤ d +ℤ m *ℤ d) *ℤ d
over_add_is n m d e h = rw h (W.ring (n ∷ m ∷ d ∷ []) (hlevel W.terms) refl)

pub over_add : (n m : ℤ) (d : ℕ) → over (n +ℤ m) d ≡ over n d +ℚ over m d
unfolding ◌+ℚ◌
over_add n m d = sound (over_add_is n m (pos (suc (pred d))) _ (bottoms (pair n d) (pair m d)))

pub over-opposite : (n : ℤ) (d : ℕ) → over (neg_ℤ n) d ≡ opposite (over n d)
unfolding opposite
over-opposite n d = refl

subtraction : (n m : ℤ) → n -ℤ m ≡ n +ℤ neg_ℤ m
subtraction n m = W.ring (n ∷ m ∷ []) (hlevel W.terms) refl

pub over_sub : (n m : ℤ) (d : ℕ) → over (n -ℤ m) d ≡ over n d -ℚ over m d
over_sub n m d = ap (λ z. over z d) (subtraction n m) ∙ over_add n (neg_ℤ m) d
    ∙ ap (λ z. over n d +ℚ z) (over-opposite m d) ∙ ring (over n d ∷ over m d ∷ []) (hlevel terms) refl

pub positive_product : (d c : ℕ) → 1 ≤ d → 1 ≤ c → 1 ≤ d * c
positive_product zero c a b = absurd (omega arith)
positive_product (suc d) zero a b = absurd (omega arith)
positive_product (suc d) (suc c) a b = omega arith

-- top and bottom times one number
pub over_scale : (n : ℤ) (d c : ℕ) → 1 ≤ d → 1 ≤ c → over (n *ℤ pos c) (d * c) ≡ over n d
over_scale n d c a b = over_equal_of_cross (n *ℤ pos c) n (d * c) d (positive_product d c a b) a
    (scaled n (pos d) (pos c))
  where
    scaled : (n d c : ℤ) → (n *ℤ c) *ℤ d ≡ n *ℤ (d *ℤ c)
    scaled n d c = W.ring (n ∷ d ∷ c ∷ []) (hlevel W.terms) refl

pub over_add_cross : (n m : ℤ) (d e : ℕ) → 1 ≤ d → 1 ≤ e
    → over n d +ℚ over m e ≡ over (n *ℤ pos e +ℤ m *ℤ pos d) (d * e)
unfolding ◌+ℚ◌
over_add_cross n m zero e a b = absurd (omega arith)
over_add_cross n m (suc d) zero a b = absurd (omega arith)
over_add_cross n m (suc d) (suc e) a b = refl

-- whole numbers as fractions
pub whole_add : (n m : ℤ) → whole (n +ℤ m) ≡ whole n +ℚ whole m
whole_add n m = over_add n m 1

pub whole_sub : (n m : ℤ) → whole (n -ℤ m) ≡ whole n -ℚ whole m
whole_sub n m = over_sub n m 1

pub whole-opposite : (n : ℤ) → whole (neg_ℤ n) ≡ opposite (whole n)
whole-opposite n = over-opposite n 1

pub whole_mul : (n m : ℤ) → whole (n *ℤ m) ≡ whole n *ℚ whole m
whole_mul n m = mk-product_of (pair n 1) (pair m 1)

pub whole_suc : (n : ℕ) → whole (pos (suc n)) ≡ whole (pos 1) +ℚ whole (pos n)
whole_suc n = (let e : pos (suc n) ≡ pos 1 +ℤ pos n = omega (arith, ints) in ap whole e)
    ∙ whole_add (pos 1) (pos n)

pub whole_le : {n m : ℤ} → n ≤ℤ m → whole n ≤ℚ whole m
whole_le {n} {m} h = le_of_cross (pair n 1) (pair m 1) (rw (mul_one n, mul_one m) h)

pub le_of_whole : {n m : ℤ} → whole n ≤ℚ whole m → n ≤ℤ m
le_of_whole {n} {m} h = rw (mul_one n, mul_one m) at (cross_of_le (pair n 1) (pair m 1) h)

pub whole_lt : {n m : ℤ} → n <ℤ m → whole n <ℚ whole m
whole_lt {n} {m} h = lt_of_cross (pair n 1) (pair m 1) (rw (mul_one n, mul_one m) h)

pub lt_of_whole : {n m : ℤ} → whole n <ℚ whole m → n <ℤ m
lt_of_whole {n} {m} h = rw (mul_one n, mul_one m) at (cross_of_lt (pair n 1) (pair m 1) h)

-- d times n / d
pub times_over : (n : ℤ) (d : ℕ) → 1 ≤ d → whole (pos d) *ℚ over n d ≡ whole n
times_over n d a = over_mul (pos d) n 1 d (omega arith) a
    ∙ over_equal_of_cross (pos d *ℤ n) n (1 * d) 1 (omega arith) (omega arith)
    (product n (pos d) _ (let e : 1 * d ≡ d = omega arith in ap pos e))
  where
    product : (n d e : ℤ) → e ≡ d → (d *ℤ n) *ℤ pos 1 ≡ n *ℤ e
    product n d e h = rw h (W.ring (n ∷ d ∷ []) (hlevel W.terms) refl)

pub inverse : (d : ℕ) → 1 ≤ d → whole (pos d) *ℚ over (pos 1) d ≡ whole (pos 1)
inverse d a = times_over (pos 1) d a

-- n / d is n times 1 / d
pub over_is : (n : ℤ) (d : ℕ) → over n d ≡ whole n *ℚ over (pos 1) d
over_is n zero = over_is_one n
  where
    over_is_one : (n : ℤ) → whole n ≡ whole n *ℚ whole (pos 1)
    over_is_one n = ring (whole n ∷ []) (hlevel terms) refl
over_is n (suc d) = sym (over_mul n (pos 1) 1 (suc d) (omega arith) (omega arith)
    ∙ ap₂ over (mul_one n) (let e : 1 * suc d ≡ suc d = omega arith in e))

-- numbers in order, in units of 2^-64
pub units_le : (a b : ℤ) → a ≤ℤ b → over a (2 ^ 64) ≤ℚ over b (2 ^ 64)
units_le a b h = over_le_of_cross a b (2 ^ 64) (2 ^ 64) (omega arith) (omega arith) (product_le a b (2 ^ 64) h)
