-- The laws of sums over a range and over a list.
use Rattle.std.specs.Prelude.{◌≡◌, ℕ, suc, zero, pos, List, [], ◌∷◌, ◌++◌, map, ◌<◌, ◌≤◌, ◌+◌}
use Rattle.std.proofs.Common.{refl, ap, sym, ◌∙◌, arith, inl, inr}
use mathlib.Core.Path.{ap₂}
use Rattle.frac_laws.specs.Fraction.{Fraction, whole, ◌+ℚ◌, ◌*ℚ◌, ◌-ℚ◌, ◌≤ℚ◌, size}
use Rattle.frac_laws.specs.Sums.{sum_to, sum_of_list}
use Rattle.frac_laws.proofs.FractionTerms.{ring, terms}
use Rattle.frac_laws.proofs.Order.{le_refl, le_trans, le_of_equal, add_mono}
use Rattle.frac_laws.proofs.Linear.{linear, claims, ◌⊞◌}
use Rattle.frac_laws.proofs.Sizes.{size_of_natural, size_add}
use Rattle.whole_laws.proofs.Numbers.{at_most_or_next}

-- terms that are equal below n
pub sum_to_ext : (n : ℕ) {f g : ℕ → Fraction} → ((k : ℕ) → k < n → f k ≡ g k) → sum_to n f ≡ sum_to n g
sum_to_ext zero h = refl
sum_to_ext (suc n) h = ap₂ ◌+ℚ◌ (sum_to_ext n (λ k b. h k (omega arith))) (h n (omega arith))

pub sum_to_add : (n : ℕ) (f g : ℕ → Fraction) → sum_to n (λ k. f k +ℚ g k) ≡ sum_to n f +ℚ sum_to n g
sum_to_add zero f g = ring [] (hlevel terms) refl
sum_to_add (suc n) f g =
    rw (sum_to_add n f g) (ring (sum_to n f ∷ sum_to n g ∷ f n ∷ g n ∷ []) (hlevel terms) refl)

pub sum_to_sub : (n : ℕ) (f g : ℕ → Fraction) → sum_to n (λ k. f k -ℚ g k) ≡ sum_to n f -ℚ sum_to n g
sum_to_sub zero f g = ring [] (hlevel terms) refl
sum_to_sub (suc n) f g =
    rw (sum_to_sub n f g) (ring (sum_to n f ∷ sum_to n g ∷ f n ∷ g n ∷ []) (hlevel terms) refl)

pub sum_to_scale : (n : ℕ) (c : Fraction) (f : ℕ → Fraction) → sum_to n (λ k. c *ℚ f k) ≡ c *ℚ sum_to n f
sum_to_scale zero c f = ring (c ∷ []) (hlevel terms) refl
sum_to_scale (suc n) c f = rw (sum_to_scale n c f) (ring (sum_to n f ∷ c ∷ f n ∷ []) (hlevel terms) refl)

pub sum_to_scale_right : (n : ℕ) (c : Fraction) (f : ℕ → Fraction)
    → sum_to n (λ k. f k *ℚ c) ≡ sum_to n f *ℚ c
sum_to_scale_right zero c f = ring (c ∷ []) (hlevel terms) refl
sum_to_scale_right (suc n) c f =
    rw (sum_to_scale_right n c f) (ring (sum_to n f ∷ c ∷ f n ∷ []) (hlevel terms) refl)

pub sum_to_zero : (n : ℕ) → sum_to n (λ k. whole (pos 0)) ≡ whole (pos 0)
sum_to_zero zero = refl
sum_to_zero (suc n) = rw (sum_to_zero n) (ring [] (hlevel terms) refl)

-- a sum of zeros
pub sum_to_zeros : (n : ℕ) {f : ℕ → Fraction} → ((k : ℕ) → k < n → f k ≡ whole (pos 0))
    → sum_to n f ≡ whole (pos 0)
sum_to_zeros n h = sum_to_ext n h ∙ sum_to_zero n

-- the order of two sums may be changed
pub sum_to_exchange : (n m : ℕ) (f : ℕ → ℕ → Fraction)
    → sum_to n (λ i. sum_to m (λ j. f i j)) ≡ sum_to m (λ j. sum_to n (λ i. f i j))
sum_to_exchange zero m f = sym (sum_to_zero m)
sum_to_exchange (suc n) m f =
    rw (sum_to_exchange n m f) (sym (sum_to_add m (λ j. sum_to n (λ i. f i j)) (f n)))

-- the first term apart
pub sum_to_first : (n : ℕ) (f : ℕ → Fraction) → sum_to (suc n) f ≡ f 0 +ℚ sum_to n (λ k. f (suc k))
sum_to_first zero f = ring (f 0 ∷ []) (hlevel terms) refl
sum_to_first (suc n) f = ap (λ z. z +ℚ f (suc n)) (sum_to_first n f)
    ∙ ring (f 0 ∷ f (suc n) ∷ sum_to n (λ k. f (suc k)) ∷ []) (hlevel terms) refl

-- a sum in two parts
pub sum_to_split : (n m : ℕ) (f : ℕ → Fraction) → sum_to (n + m) f ≡ sum_to n f +ℚ sum_to m (λ k. f (n + k))
sum_to_split n zero f = (let e : n + 0 ≡ n = omega arith in ap (λ k. sum_to k f) e)
    ∙ ring (sum_to n f ∷ []) (hlevel terms) refl
sum_to_split n (suc m) f = (let e : n + suc m ≡ suc (n + m) = omega arith in ap (λ k. sum_to k f) e)
    ∙ ap (λ z. z +ℚ f (n + m)) (sum_to_split n m f)
    ∙ ring (sum_to n f ∷ sum_to m (λ k. f (n + k)) ∷ f (n + m) ∷ []) (hlevel terms) refl

pub sum_to_mono : (n : ℕ) {f g : ℕ → Fraction} → ((k : ℕ) → k < n → f k ≤ℚ g k) → sum_to n f ≤ℚ sum_to n g
sum_to_mono zero h = le_refl _
sum_to_mono (suc n) h = add_mono (sum_to_mono n (λ k b. h k (omega arith))) (h n (omega arith))

pub sum_to_natural : (n : ℕ) {f : ℕ → Fraction} → ((k : ℕ) → k < n → whole (pos 0) ≤ℚ f k)
    → whole (pos 0) ≤ℚ sum_to n f
sum_to_natural n h = le_trans (le_of_equal (sym (sum_to_zero n))) (sum_to_mono n h)

-- more terms that are not negative
pub sum_to_longer : (n m : ℕ) {f : ℕ → Fraction} → ((k : ℕ) → k < m → whole (pos 0) ≤ℚ f k) → n ≤ m
    → sum_to n f ≤ℚ sum_to m f
sum_to_longer n zero h b = let e : n ≡ 0 = omega arith in rw e (le_refl _)
sum_to_longer n (suc m) {f} h b = elim (at_most_or_next n m b) [
  | inl c ↦ linear (sum_to n f ∷ sum_to m f ∷ f m ∷ [])
      (sum_to_longer n m {f = f} (λ k d. h k (omega arith)) c ⊞ h m (omega arith)) (hlevel claims) refl
  | inr e ↦ rw e (le_refl _)
]

-- one term of a sum of terms that are not negative
pub term_le_sum_to : (n i : ℕ) {f : ℕ → Fraction} → ((k : ℕ) → k < n → whole (pos 0) ≤ℚ f k) → i < n
    → f i ≤ℚ sum_to n f
term_le_sum_to n i {f} h b = le_trans
    (linear (f i ∷ sum_to i f ∷ []) (sum_to_natural i {f = f} (λ k c. h k (omega arith)))
    (hlevel claims) refl)
    (sum_to_longer (suc i) n {f = f} h (omega arith))

pub size-sum_to : (n : ℕ) (f : ℕ → Fraction) → size (sum_to n f) ≤ℚ sum_to n (λ k. size (f k))
size-sum_to zero f = le_of_equal (size_of_natural (le_refl _))
size-sum_to (suc n) f = le_trans (size_add _ _) (add_mono (size-sum_to n f) (le_refl _))

pub sum_of_list-append : (xs ys : List Fraction) → sum_of_list (xs ++ ys) ≡ sum_of_list xs +ℚ sum_of_list ys
sum_of_list-append [] ys = ring (sum_of_list ys ∷ []) (hlevel terms) refl
sum_of_list-append (x ∷ xs) ys = ap (λ z. x +ℚ z) (sum_of_list-append xs ys)
    ∙ ring (x ∷ sum_of_list xs ∷ sum_of_list ys ∷ []) (hlevel terms) refl

pub size-sum_of_list : (xs : List Fraction) → size (sum_of_list xs) ≤ℚ sum_of_list (map size xs)
size-sum_of_list [] = le_of_equal (size_of_natural (le_refl _))
size-sum_of_list (x ∷ xs) = le_trans (size_add _ _) (add_mono (le_refl _) (size-sum_of_list xs))
