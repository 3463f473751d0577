-- Sums with terms that are 0, and convolutions of two sequences.
use Rattle.std.specs.Prelude.{◌≡◌, ℕ, suc, zero, pos, [], ◌∷◌, ◌<◌, ◌≤◌, ◌+◌, ◌-◌, ◌⊎◌, ◌≢◌}
use Rattle.std.proofs.Common.{refl, ap, sym, ◌∙◌, arith, inl, inr}
use Rattle.frac_laws.specs.Fraction.{Fraction, whole, ◌+ℚ◌, ◌*ℚ◌, ◌≤ℚ◌}
use Rattle.frac_laws.specs.Sums.{sum_to}
use Rattle.frac_laws.specs.Convolution.{convolution}
use Rattle.frac_laws.proofs.FractionTerms.{ring, terms}
use Rattle.frac_laws.proofs.Linear.{linear, claims, ◌⊠◌}
use Rattle.frac_laws.proofs.Order.{le_trans, le_of_equal}
use Rattle.frac_laws.proofs.Sums.{sum_to_ext, sum_to_add, sum_to_scale_right, sum_to_mono, sum_to_zeros}
use Rattle.frac_laws.proofs.Sums.{sum_to_longer, sum_to_split, term_le_sum_to}
use Rattle.frac_laws.proofs.Signs.{mul_natural, sum_natural}

-- terms that are 0 from d on add nothing
pub sum_to_past : (d r : ℕ) {f : ℕ → Fraction} → ((k : ℕ) → d ≤ k → f k ≡ whole (pos 0))
    → sum_to (d + r) f ≡ sum_to d f
sum_to_past d r {f} h = sum_to_split d r f
    ∙ ap (λ z. sum_to d f +ℚ z) (sum_to_zeros r (λ k b. h (d + k) (omega arith)))
    ∙ ring (sum_to d f ∷ []) (hlevel terms) refl

-- so a sum over any range is at most the sum of the terms that may be other than 0
pub sum_to_within : (d n : ℕ) {f : ℕ → Fraction} → ((k : ℕ) → whole (pos 0) ≤ℚ f k)
    → ((k : ℕ) → d ≤ k → f k ≡ whole (pos 0)) → sum_to n f ≤ℚ sum_to d f
sum_to_within d n {f} h z = elim (which n d) [
  | inl b ↦ sum_to_longer n d (λ k c. h k) b
  | inr b ↦ let e : n ≡ d + (n - d) = omega arith in rw e (le_of_equal (sum_to_past d (n - d) z))
]
  where
    which : (n m : ℕ) → (n ≤ m) ⊎ (m < n)
    which n m = grind arith

-- and so is each term
pub term_within : (d k : ℕ) {f : ℕ → Fraction} → ((k : ℕ) → whole (pos 0) ≤ℚ f k)
    → ((k : ℕ) → d ≤ k → f k ≡ whole (pos 0)) → f k ≤ℚ sum_to d f
term_within d k h z =
    le_trans (term_le_sum_to (suc k) k (λ i b. h i) (omega arith)) (sum_to_within d (suc k) h z)

-- a sum with one term that is not 0 is this term
pub sum_to_one : (n k : ℕ) {f : ℕ → Fraction} → k < n → ((j : ℕ) → j ≢ k → f j ≡ whole (pos 0))
    → sum_to n f ≡ f k
sum_to_one zero k b h = absurd (omega arith)
sum_to_one (suc n) k {f} b h = elim (place k n (omega arith)) [
  | inl c ↦ rw (h n (omega arith), sum_to_one n k c h) (ring (f k ∷ []) (hlevel terms) refl)
  | inr e ↦ rw e (ap (λ z. z +ℚ f n) (sum_to_zeros n (λ j c. h j (omega arith)))
      ∙ ring (f n ∷ []) (hlevel terms) refl)
]
  where
    place : (k n : ℕ) → k ≤ n → (k < n) ⊎ (k ≡ n)
    place k n b = grind arith

pub convolution_natural : {a b : ℕ → Fraction} → ((k : ℕ) → whole (pos 0) ≤ℚ a k)
    → ((k : ℕ) → whole (pos 0) ≤ℚ b k)
    → (k : ℕ) → whole (pos 0) ≤ℚ convolution a b k
convolution_natural ha hb k = sum_natural (suc k) _ (λ m. mul_natural (ha m) (hb (k - m)))

-- the total of a convolution
pub convolution_total : (n : ℕ) (a b : ℕ → Fraction)
    → sum_to n (convolution a b) ≡ sum_to n (λ m. a m *ℚ sum_to (n - m) b)
convolution_total zero a b = refl
convolution_total (suc n) a b = rw (convolution_total n a b) (sym (sum_to_ext (suc n) longer
    ∙ sum_to_add (suc n) (λ m. a m *ℚ sum_to (n - m) b) (λ m. a m *ℚ b (n - m))
    ∙ ap (λ z. z +ℚ convolution a b n) last))
  where
    longer : (m : ℕ) → m < suc n → a m *ℚ sum_to (suc n - m) b ≡ a m *ℚ sum_to (n - m) b +ℚ a m *ℚ b (n - m)
    longer m h = let e : suc n - m ≡ suc (n - m) = omega arith in rw e
        (ring (a m ∷ sum_to (n - m) b ∷ b (n - m) ∷ []) (hlevel terms) refl)

    last : sum_to (suc n) (λ m. a m *ℚ sum_to (n - m) b) ≡ sum_to n (λ m. a m *ℚ sum_to (n - m) b)
    last = let e : n - n ≡ 0 = omega arith in rw e
        (ring (a n ∷ sum_to n (λ m. a m *ℚ sum_to (n - m) b) ∷ []) (hlevel terms) refl)

-- it is at most the product of the totals
pub convolution_total_le : (n : ℕ) {a b : ℕ → Fraction} → ((k : ℕ) → whole (pos 0) ≤ℚ a k)
    → ((k : ℕ) → whole (pos 0) ≤ℚ b k)
    → sum_to n (convolution a b) ≤ℚ sum_to n a *ℚ sum_to n b
convolution_total_le n {a} {b} ha hb =
    rw (convolution_total n a b, ← sum_to_scale_right n (sum_to n b) a) (sum_to_mono n each)
  where
    each : (m : ℕ) → m < n → a m *ℚ sum_to (n - m) b ≤ℚ a m *ℚ sum_to n b
    each m h = linear (a m ∷ sum_to (n - m) b ∷ sum_to n b ∷ [])
        (ha m ⊠ sum_to_longer (n - m) n (λ k c. hb k) (omega arith)) (hlevel claims) refl

-- a sum convolved
pub convolution-add_left : (a b c : ℕ → Fraction) (k : ℕ)
    → convolution (λ m. a m +ℚ b m) c k ≡ convolution a c k +ℚ convolution b c k
convolution-add_left a b c k =
    sum_to_ext (suc k) (λ m _. ring (a m ∷ b m ∷ c (k - m) ∷ []) (hlevel terms) refl)
    ∙ sum_to_add (suc k) (λ m. a m *ℚ c (k - m)) (λ m. b m *ℚ c (k - m))
