-- Powers, and the sum of the powers of one number.
use Rattle.std.specs.Prelude.{◌≡◌, ℕ, suc, zero, pos, [], ◌∷◌, ◌+◌, ◌-◌, ◌*◌, ◌^◌}
use Rattle.std.proofs.Common.{refl, ap, ◌∙◌, arith}
use Rattle.std.proofs.Math.Nat.{pow-zero, pow-suc}
use Rattle.frac_laws.specs.Fraction.{Fraction, whole, size, ◌+ℚ◌, ◌*ℚ◌, ◌-ℚ◌, ◌≤ℚ◌}
use Rattle.frac_laws.specs.Sums.{sum_to, power}
use Rattle.frac_laws.proofs.FractionTerms.{ring, terms}
use Rattle.frac_laws.proofs.Order.{le_refl, le_trans, le_of_equal}
use Rattle.frac_laws.proofs.Linear.{linear, claims, natural, ◌⊞◌, ◌⊠◌}
use Rattle.frac_laws.proofs.Sizes.{size_of_natural, size_mul}
use Rattle.frac_laws.proofs.Quotients.{whole_mul}

pub power_add : (x : Fraction) (n m : ℕ) → power x (n + m) ≡ power x n *ℚ power x m
power_add x zero m = (let e : 0 + m ≡ m = omega arith in ap (power x) e)
    ∙ ring (power x m ∷ []) (hlevel terms) refl
power_add x (suc n) m = (let e : suc n + m ≡ suc (n + m) = omega arith in ap (power x) e)
    ∙ ap (λ z. x *ℚ z) (power_add x n m) ∙ ring (x ∷ power x n ∷ power x m ∷ []) (hlevel terms) refl

pub power_mul : (x y : Fraction) (n : ℕ) → power (x *ℚ y) n ≡ power x n *ℚ power y n
power_mul x y zero = ring [] (hlevel terms) refl
power_mul x y (suc n) = rw (power_mul x y n) (ring (x ∷ y ∷ power x n ∷ power y n ∷ []) (hlevel terms) refl)

pub power_one : (n : ℕ) → power (whole (pos 1)) n ≡ whole (pos 1)
power_one zero = refl
power_one (suc n) = rw (power_one n) (ring [] (hlevel terms) refl)

-- the powers of two numbers whose product is 1
pub power_inverse : (x y : Fraction) (n : ℕ) → x *ℚ y ≡ whole (pos 1) → power x n *ℚ power y n ≡ whole (pos 1)
power_inverse x y zero e = ring [] (hlevel terms) refl
power_inverse x y (suc n) e = ring (x ∷ y ∷ power x n ∷ power y n ∷ []) (hlevel terms) refl
    ∙ ap (λ z. z *ℚ (power x n *ℚ power y n)) e ∙ ring (power x n ∷ power y n ∷ []) (hlevel terms) refl
    ∙ power_inverse x y n e

pub power_natural : {x : Fraction} (n : ℕ) → whole (pos 0) ≤ℚ x → whole (pos 0) ≤ℚ power x n
power_natural zero h = natural 1 1
power_natural {x} (suc n) h = linear (x ∷ power x n ∷ []) (h ⊠ power_natural n h) (hlevel claims) refl

pub power_mono : {x y : Fraction} (n : ℕ) → whole (pos 0) ≤ℚ x → x ≤ℚ y → power x n ≤ℚ power y n
power_mono zero h k = le_refl _
power_mono {x} {y} (suc n) h k = linear (x ∷ y ∷ power x n ∷ power y n ∷ [])
    (h ⊠ power_mono n h k ⊞ k ⊠ power_natural {x = y} n (linear (x ∷ y ∷ []) (h ⊞ k) (hlevel claims) refl))
    (hlevel claims) refl

pub size-power : (x : Fraction) (n : ℕ) → size (power x n) ≡ power (size x) n
size-power x zero = size_of_natural (natural 1 1)
size-power x (suc n) = size_mul x (power x n) ∙ ap (λ z. size x *ℚ z) (size-power x n)

-- (1 + q + .. + q^(n-1)) (1 - q) = 1 - q^n
pub geometric_sum : (q : Fraction) (n : ℕ)
    → sum_to n (power q) *ℚ (whole (pos 1) -ℚ q) ≡ whole (pos 1) -ℚ power q n
geometric_sum q zero = ring (q ∷ []) (hlevel terms) refl
geometric_sum q (suc n) = ring (q ∷ sum_to n (power q) ∷ power q n ∷ []) (hlevel terms) refl
    ∙ ap (λ z. z +ℚ power q n *ℚ (whole (pos 1) -ℚ q)) (geometric_sum q n)
    ∙ ring (q ∷ power q n ∷ []) (hlevel terms) refl

-- (1 + q + .. + q^(n-1)) (1 - q) is at most 1, for q that is not negative
pub geometric_bound : (q : Fraction) (n : ℕ) → whole (pos 0) ≤ℚ q
    → sum_to n (power q) *ℚ (whole (pos 1) -ℚ q) ≤ℚ whole (pos 1)
geometric_bound q n h = rw (geometric_sum q n)
    (linear (power q n ∷ []) (power_natural n h) (hlevel claims) refl)

pub power_le_one : {x : Fraction} (n : ℕ) → whole (pos 0) ≤ℚ x → x ≤ℚ whole (pos 1)
    → power x n ≤ℚ whole (pos 1)
power_le_one {x} n h k = le_trans (power_mono n h k) (le_of_equal (power_one n))

-- a power of a whole number
pub whole_power : (k n : ℕ) → whole (pos (k ^ n)) ≡ power (whole (pos k)) n
whole_power k zero = rw (pow-zero k) refl
whole_power k (suc n) = rw (pow-suc k n) (whole_mul (pos (k ^ n)) (pos k)
    ∙ ap (λ z. z *ℚ whole (pos k)) (whole_power k n)
    ∙ ring (whole (pos k) ∷ power (whole (pos k)) n ∷ []) (hlevel terms) refl)
