-- The Bernstein coefficients of a month, ten times C(j, i) / C(5, i) as weights.
use Rattle.std.proofs.Common.{◌≡◌, ℕ, zero, suc, ◌*◌, ◌^◌, ◌<◌, ◌≤◌, ℤ, pos, List, [], ◌∷◌, length, max}
use Rattle.std.proofs.Common.{take, drop, get_or, arith, refl, ap, sym, subst, ◌∙◌}
use mathlib.Core.Path.{ap₂}
use Rattle.std.specs.Prelude.{unsigned_abs}
use Rattle.frac_laws.specs.Fraction.{Fraction, over, whole, ◌*ℚ◌}
use Rattle.frac_laws.specs.Polynomials.{all_over, shifted, stretched}
use Rattle.frac_laws.specs.Bernstein.{bernstein_coefficient, bernstein_coefficients}
use Rattle.frac_laws.proofs.FractionTerms.{ring, terms}
use Rattle.frac_laws.proofs.Quotients.{over_is}
use Rattle.frac_laws.proofs.Polynomials.{shifted-stretched}
use Rattle.poly_small.specs.WholePolynomials.{whole_value_at, value_of_sizes, weighted}
use Rattle.poly_small.proofs.Values.{value_of_sizes-grows, whole_value-size}
use Rattle.poly_small.proofs.Sixes.{over-product, over-whole_value}
use Rattle.poly_small.proofs.Shifts.{greatest_size, weighted_within, row_size}
use Rattle.poly_small.proofs.Units.{over-times}
use Rattle.whole_laws.proofs.ShortLists.{six_are_all}

-- the coefficient 0, over ten times the denominator
abbrev pub numerator-0 : List ℤ → ℤ
numerator-0 a = whole_value_at (weighted (take 1 (drop 0 a)) (pos 10 ∷ [])) 1

-- the coefficient 1, over ten times the denominator
abbrev pub numerator-1 : List ℤ → ℤ
numerator-1 a = whole_value_at (weighted (take 2 (drop 0 a)) (pos 10 ∷ pos 2 ∷ [])) 1

-- the coefficient 2, over ten times the denominator
abbrev pub numerator-2 : List ℤ → ℤ
numerator-2 a = whole_value_at (weighted (take 3 (drop 0 a)) (pos 10 ∷ pos 4 ∷ pos 1 ∷ [])) 1

-- the coefficient 3, over ten times the denominator
abbrev pub numerator-3 : List ℤ → ℤ
numerator-3 a = whole_value_at (weighted (take 4 (drop 0 a)) (pos 10 ∷ pos 6 ∷ pos 3 ∷ pos 1 ∷ [])) 1

-- the coefficient 4, over ten times the denominator
abbrev pub numerator-4 : List ℤ → ℤ
numerator-4 a = whole_value_at (weighted (take 5 (drop 0 a)) (pos 10 ∷ pos 8 ∷ pos 6 ∷ pos 4 ∷ pos 2 ∷ [])) 1

-- the coefficient 5, over ten times the denominator
abbrev pub numerator-5 : List ℤ → ℤ
numerator-5 a = whole_value_at (weighted a (pos 10 ∷ pos 10 ∷ pos 10 ∷ pos 10 ∷ pos 10 ∷ pos 10 ∷ [])) 1

bernstein-0 : (a0 a1 a2 a3 a4 a5 : ℤ) (d : ℕ) → 1 ≤ d
    → over (numerator-0 (a0 ∷ a1 ∷ a2 ∷ a3 ∷ a4 ∷ a5 ∷ [])) (d * 10)
    ≡ bernstein_coefficient (all_over d (a0 ∷ a1 ∷ a2 ∷ a3 ∷ a4 ∷ a5 ∷ [])) 0
bernstein-0 a0 a1 a2 a3 a4 a5 d h =
    over-times (numerator-0 (a0 ∷ a1 ∷ a2 ∷ a3 ∷ a4 ∷ a5 ∷ [])) d 10 h (omega arith)
    ∙ ap (λ z. over (pos 1) 10 *ℚ z)
    (over-whole_value (weighted (take 1 (a0 ∷ a1 ∷ a2 ∷ a3 ∷ a4 ∷ a5 ∷ [])) (pos 10 ∷ [])) 1 d)
    ∙ simp over-product
    (ring (over a0 d ∷ over a1 d ∷ over a2 d ∷ over a3 d ∷ over a4 d ∷ over a5 d ∷ []) (hlevel terms) refl)

bernstein-1 : (a0 a1 a2 a3 a4 a5 : ℤ) (d : ℕ) → 1 ≤ d
    → over (numerator-1 (a0 ∷ a1 ∷ a2 ∷ a3 ∷ a4 ∷ a5 ∷ [])) (d * 10)
    ≡ bernstein_coefficient (all_over d (a0 ∷ a1 ∷ a2 ∷ a3 ∷ a4 ∷ a5 ∷ [])) 1
bernstein-1 a0 a1 a2 a3 a4 a5 d h =
    over-times (numerator-1 (a0 ∷ a1 ∷ a2 ∷ a3 ∷ a4 ∷ a5 ∷ [])) d 10 h (omega arith)
    ∙ ap (λ z. over (pos 1) 10 *ℚ z)
    (over-whole_value (weighted (take 2 (a0 ∷ a1 ∷ a2 ∷ a3 ∷ a4 ∷ a5 ∷ [])) (pos 10 ∷ pos 2 ∷ [])) 1 d)
    ∙ simp over-product
    (ring (over a0 d ∷ over a1 d ∷ over a2 d ∷ over a3 d ∷ over a4 d ∷ over a5 d ∷ []) (hlevel terms) refl)

bernstein-2 : (a0 a1 a2 a3 a4 a5 : ℤ) (d : ℕ) → 1 ≤ d
    → over (numerator-2 (a0 ∷ a1 ∷ a2 ∷ a3 ∷ a4 ∷ a5 ∷ [])) (d * 10)
    ≡ bernstein_coefficient (all_over d (a0 ∷ a1 ∷ a2 ∷ a3 ∷ a4 ∷ a5 ∷ [])) 2
bernstein-2 a0 a1 a2 a3 a4 a5 d h =
    over-times (numerator-2 (a0 ∷ a1 ∷ a2 ∷ a3 ∷ a4 ∷ a5 ∷ [])) d 10 h (omega arith)
    ∙ ap (λ z. over (pos 1) 10 *ℚ z)
    (over-whole_value (weighted (take 3 (a0 ∷ a1 ∷ a2 ∷ a3 ∷ a4 ∷ a5 ∷ [])) (pos 10 ∷ pos 4 ∷ pos 1 ∷ [])) 1 d)
    ∙ simp over-product
    (ring (over a0 d ∷ over a1 d ∷ over a2 d ∷ over a3 d ∷ over a4 d ∷ over a5 d ∷ []) (hlevel terms) refl)

bernstein-3 : (a0 a1 a2 a3 a4 a5 : ℤ) (d : ℕ) → 1 ≤ d
    → over (numerator-3 (a0 ∷ a1 ∷ a2 ∷ a3 ∷ a4 ∷ a5 ∷ [])) (d * 10)
    ≡ bernstein_coefficient (all_over d (a0 ∷ a1 ∷ a2 ∷ a3 ∷ a4 ∷ a5 ∷ [])) 3
bernstein-3 a0 a1 a2 a3 a4 a5 d h =
    over-times (numerator-3 (a0 ∷ a1 ∷ a2 ∷ a3 ∷ a4 ∷ a5 ∷ [])) d 10 h (omega arith)
    ∙ ap (λ z. over (pos 1) 10 *ℚ z)
    (over-whole_value (weighted (take 4 (a0 ∷ a1 ∷ a2 ∷ a3 ∷ a4 ∷ a5 ∷ [])) (pos 10 ∷ pos 6 ∷ pos 3 ∷ pos 1 ∷ [])) 1 d)
    ∙ simp over-product
    (ring (over a0 d ∷ over a1 d ∷ over a2 d ∷ over a3 d ∷ over a4 d ∷ over a5 d ∷ []) (hlevel terms) refl)

bernstein-4 : (a0 a1 a2 a3 a4 a5 : ℤ) (d : ℕ) → 1 ≤ d
    → over (numerator-4 (a0 ∷ a1 ∷ a2 ∷ a3 ∷ a4 ∷ a5 ∷ [])) (d * 10)
    ≡ bernstein_coefficient (all_over d (a0 ∷ a1 ∷ a2 ∷ a3 ∷ a4 ∷ a5 ∷ [])) 4
bernstein-4 a0 a1 a2 a3 a4 a5 d h =
    over-times (numerator-4 (a0 ∷ a1 ∷ a2 ∷ a3 ∷ a4 ∷ a5 ∷ [])) d 10 h (omega arith)
    ∙ ap (λ z. over (pos 1) 10 *ℚ z)
    (over-whole_value (weighted (take 5 (a0 ∷ a1 ∷ a2 ∷ a3 ∷ a4 ∷ a5 ∷ []))
    (pos 10 ∷ pos 8 ∷ pos 6 ∷ pos 4 ∷ pos 2 ∷ [])) 1 d)
    ∙ simp over-product
    (ring (over a0 d ∷ over a1 d ∷ over a2 d ∷ over a3 d ∷ over a4 d ∷ over a5 d ∷ []) (hlevel terms) refl)

bernstein-5 : (a0 a1 a2 a3 a4 a5 : ℤ) (d : ℕ) → 1 ≤ d
    → over (numerator-5 (a0 ∷ a1 ∷ a2 ∷ a3 ∷ a4 ∷ a5 ∷ [])) (d * 10)
    ≡ bernstein_coefficient (all_over d (a0 ∷ a1 ∷ a2 ∷ a3 ∷ a4 ∷ a5 ∷ [])) 5
bernstein-5 a0 a1 a2 a3 a4 a5 d h =
    over-times (numerator-5 (a0 ∷ a1 ∷ a2 ∷ a3 ∷ a4 ∷ a5 ∷ [])) d 10 h (omega arith)
    ∙ ap (λ z. over (pos 1) 10 *ℚ z)
    (over-whole_value (weighted (a0 ∷ a1 ∷ a2 ∷ a3 ∷ a4 ∷ a5 ∷ [])
    (pos 10 ∷ pos 10 ∷ pos 10 ∷ pos 10 ∷ pos 10 ∷ pos 10 ∷ [])) 1 d)
    ∙ simp over-product
    (ring (over a0 d ∷ over a1 d ∷ over a2 d ∷ over a3 d ∷ over a4 d ∷ over a5 d ∷ []) (hlevel terms) refl)

-- all six
abbrev pub numerators : List ℤ → List ℤ
numerators a = numerator-0 a ∷ numerator-1 a ∷ numerator-2 a ∷
    numerator-3 a ∷ numerator-4 a ∷ numerator-5 a ∷ []

six_numerators : (a0 a1 a2 a3 a4 a5 : ℤ) (d : ℕ) → 1 ≤ d
    → all_over (d * 10) (numerators (a0 ∷ a1 ∷ a2 ∷ a3 ∷ a4 ∷ a5 ∷ []))
    ≡ bernstein_coefficients (all_over d (a0 ∷ a1 ∷ a2 ∷ a3 ∷ a4 ∷ a5 ∷ []))
six_numerators a0 a1 a2 a3 a4 a5 d h =
    ap₂ (λ z w. z ∷ w) (bernstein-0 a0 a1 a2 a3 a4 a5 d h)
    (ap₂ (λ z w. z ∷ w) (bernstein-1 a0 a1 a2 a3 a4 a5 d h)
    (ap₂ (λ z w. z ∷ w) (bernstein-2 a0 a1 a2 a3 a4 a5 d h)
    (ap₂ (λ z w. z ∷ w) (bernstein-3 a0 a1 a2 a3 a4 a5 d h)
    (ap₂ (λ z w. z ∷ w) (bernstein-4 a0 a1 a2 a3 a4 a5 d h)
    (ap (λ z. z ∷ []) (bernstein-5 a0 a1 a2 a3 a4 a5 d h))))))

pub numerators_are_bernstein : (a : List ℤ) (d : ℕ) → length a ≡ 6 → 1 ≤ d
    → all_over (d * 10) (numerators a) ≡ bernstein_coefficients (all_over d a)
numerators_are_bernstein a d h positive =
    let P : List ℤ → Type 0 = λ q. all_over (d * 10) (numerators q) ≡ bernstein_coefficients (all_over d q) in
    subst P (sym (six_are_all a h))
    (six_numerators (get_or a 0 (pos 0)) (get_or a 1 (pos 0)) (get_or a 2 (pos 0)) (get_or a 3 (pos 0))
    (get_or a 4 (pos 0)) (get_or a 5 (pos 0)) d positive)

-- k months are k/12 years
months_in_years : (k : ℕ) → over (pos 1) 12 *ℚ whole (pos k) ≡ over (pos k) 12
months_in_years k =
    ring (whole (pos k) ∷ over (pos 1) 12 ∷ []) (hlevel terms) refl ∙ sym (over_is (pos k) 12)

-- what counts months, shifted by k, is what counts years, from month k on
pub month_of_years : (q a : List ℤ) (p : List Fraction) (k d : ℕ)
    → all_over d a ≡ shifted (whole (pos k)) (all_over d q) → all_over d q ≡ stretched (over (pos 1) 12) p
    → all_over d a ≡ stretched (over (pos 1) 12) (shifted (over (pos k) 12) p)
month_of_years q a p k d shift units =
    shift ∙ ap (shifted (whole (pos k))) units ∙ shifted-stretched (whole (pos k)) (over (pos 1) 12) p
    ∙ ap (λ b. stretched (over (pos 1) 12) (shifted b p)) (months_in_years k)

-- six numbers are the numerators
pub record NumeratorsAre (a : List ℤ) (b0 b1 b2 b3 b4 b5 : ℤ) : Type 0 where
  pub first : b0 ≡ numerator-0 a
  pub second : b1 ≡ numerator-1 a
  pub third : b2 ≡ numerator-2 a
  pub fourth : b3 ≡ numerator-3 a
  pub fifth : b4 ≡ numerator-4 a
  pub sixth : b5 ≡ numerator-5 a

list_of_numerators : (a : List ℤ) (b0 b1 b2 b3 b4 b5 : ℤ) → NumeratorsAre a b0 b1 b2 b3 b4 b5
    → b0 ∷ b1 ∷ b2 ∷ b3 ∷ b4 ∷ b5 ∷ [] ≡ numerators a
list_of_numerators a b0 b1 b2 b3 b4 b5 given =
    rw (given.first, given.second, given.third, given.fourth, given.fifth, given.sixth) refl

pub given_numerators : (a : List ℤ) (b0 b1 b2 b3 b4 b5 : ℤ) → length a ≡ 6 → NumeratorsAre a b0 b1 b2 b3 b4 b5
    → (den : ℕ) → 1 ≤ den
    → all_over (den * 10) (b0 ∷ b1 ∷ b2 ∷ b3 ∷ b4 ∷ b5 ∷ []) ≡ bernstein_coefficients (all_over den a)
given_numerators a b0 b1 b2 b3 b4 b5 h given den positive =
    ap (all_over (den * 10)) (list_of_numerators a b0 b1 b2 b3 b4 b5 given)
    ∙ numerators_are_bernstein a den h positive

-- each of six numbers is small
each_of_six : (b0 b1 b2 b3 b4 b5 : ℤ) (m : ℕ) → unsigned_abs b0 ≤ m → unsigned_abs b1 ≤ m → unsigned_abs b2 ≤ m
    → unsigned_abs b3 ≤ m → unsigned_abs b4 ≤ m → unsigned_abs b5 ≤ m
    → (j : ℕ) → unsigned_abs (get_or (b0 ∷ b1 ∷ b2 ∷ b3 ∷ b4 ∷ b5 ∷ []) j (pos 0)) ≤ m
each_of_six b0 b1 b2 b3 b4 b5 m h0 h1 h2 h3 h4 h5 zero = h0
each_of_six b0 b1 b2 b3 b4 b5 m h0 h1 h2 h3 h4 h5 (suc zero) = h1
each_of_six b0 b1 b2 b3 b4 b5 m h0 h1 h2 h3 h4 h5 (suc (suc zero)) = h2
each_of_six b0 b1 b2 b3 b4 b5 m h0 h1 h2 h3 h4 h5 (suc (suc (suc zero))) = h3
each_of_six b0 b1 b2 b3 b4 b5 m h0 h1 h2 h3 h4 h5 (suc (suc (suc (suc zero)))) = h4
each_of_six b0 b1 b2 b3 b4 b5 m h0 h1 h2 h3 h4 h5 (suc (suc (suc (suc (suc zero))))) = h5
each_of_six b0 b1 b2 b3 b4 b5 m h0 h1 h2 h3 h4 h5 (suc (suc (suc (suc (suc (suc j)))))) = omega arith

numerator_size : (a weights : List ℤ) (n : ℕ) → greatest_size weights ≤ 10
    → unsigned_abs (whole_value_at (weighted (take n (drop 0 a)) weights) 1) ≤ 10 * value_of_sizes a 1
numerator_size a weights n h = row_size a weights 0 n 10 1 h

whole_numerator_size : (a weights : List ℤ) → greatest_size weights ≤ 10
    → unsigned_abs (whole_value_at (weighted a weights) 1) ≤ 10 * value_of_sizes a 1
whole_numerator_size a weights h =
    omega (arith, whole_value-size (weighted a weights) 1, weighted_within a weights 10 1 h)

pub given_sizes : (a : List ℤ) (b0 b1 b2 b3 b4 b5 : ℤ) → NumeratorsAre a b0 b1 b2 b3 b4 b5
    → (j : ℕ) → unsigned_abs (get_or (b0 ∷ b1 ∷ b2 ∷ b3 ∷ b4 ∷ b5 ∷ []) j (pos 0)) ≤ 10 * value_of_sizes a 1
given_sizes a b0 b1 b2 b3 b4 b5 given =
    let P : List ℤ → Type 0 = λ q. (j : ℕ) → unsigned_abs (get_or q j (pos 0)) ≤ 10 * value_of_sizes a 1 in
    subst P (sym (list_of_numerators a b0 b1 b2 b3 b4 b5 given))
    (each_of_six (numerator-0 a) (numerator-1 a) (numerator-2 a) (numerator-3 a) (numerator-4 a) (numerator-5 a)
    (10 * value_of_sizes a 1)
    (numerator_size a (pos 10 ∷ []) 1 (omega arith))
    (numerator_size a (pos 10 ∷ pos 2 ∷ []) 2 (omega arith))
    (numerator_size a (pos 10 ∷ pos 4 ∷ pos 1 ∷ []) 3 (omega arith))
    (numerator_size a (pos 10 ∷ pos 6 ∷ pos 3 ∷ pos 1 ∷ []) 4 (omega arith))
    (numerator_size a (pos 10 ∷ pos 8 ∷ pos 6 ∷ pos 4 ∷ pos 2 ∷ []) 5 (omega arith))
    (whole_numerator_size a (pos 10 ∷ pos 10 ∷ pos 10 ∷ pos 10 ∷ pos 10 ∷ pos 10 ∷ []) (omega arith)))

denominators : (den : ℕ) → 2488320 * den ≡ den * 12 ^ 5 * 10
denominators den = omega arith

-- the numerators of what counts months are those of the month of what counts years
pub month_coefficients : (q a b : List ℤ) (p : ℕ → List Fraction) (k : ℕ)
    → ((den : ℕ) → 1 ≤ den → all_over (den * 10) b ≡ bernstein_coefficients (all_over den a))
    → ((den : ℕ) → all_over den a ≡ shifted (whole (pos k)) (all_over den q))
    → ((den : ℕ) → 1 ≤ den → 1 ≤ 12 → all_over (den * 12 ^ 5) q ≡ stretched (over (pos 1) 12) (p den))
    → (den : ℕ) → 1 ≤ den → all_over (2488320 * den) b
    ≡ bernstein_coefficients (stretched (over (pos 1) 12) (shifted (over (pos k) 12) (p den)))
month_coefficients q a b p k bernstein shift units den positive =
    ap (λ d. all_over d b) (denominators den)
    ∙ bernstein (den * 12 ^ 5) (omega arith)
    ∙ ap bernstein_coefficients
    (month_of_years q a (p den) k (den * 12 ^ 5) (shift (den * 12 ^ 5)) (units den positive (omega arith)))

-- what the month's numbers are at most
pub month_sizes : (p q a b : List ℤ) (k : ℕ) → q ≡ p
    → value_of_sizes a 1 ≤ 32 * value_of_sizes q (max k 1)
    → ((j : ℕ) → unsigned_abs (get_or b j (pos 0)) ≤ 10 * value_of_sizes a 1)
    → (j : ℕ) → unsigned_abs (get_or b j (pos 0)) ≤ 320 * value_of_sizes p (max k 1)
month_sizes p q a b k same size sizes j = omega (arith, sizes j, ap (λ c. value_of_sizes c (max k 1)) same)

pub units_within : (p : List ℤ) (k : ℕ) → 320 * value_of_sizes p (max k 1) < 2 ^ 126 → value_of_sizes p 1 < 2 ^ 126
units_within p k h = omega (arith, value_of_sizes-grows p 1 (max k 1) (omega arith))

pub shift_within : (p q : List ℤ) (k : ℕ) → q ≡ p → 320 * value_of_sizes p (max k 1) < 2 ^ 126
    → 10 * value_of_sizes q (max k 1) < 2 ^ 126
shift_within p q k same h = omega (arith, ap (λ c. value_of_sizes c (max k 1)) same)

pub bernstein_within : (p q a : List ℤ) (k : ℕ) → q ≡ p → value_of_sizes a 1 ≤ 32 * value_of_sizes q (max k 1)
    → 320 * value_of_sizes p (max k 1) < 2 ^ 126 → 10 * value_of_sizes a 1 < 2 ^ 126
bernstein_within p q a k same size h = omega (arith, ap (λ c. value_of_sizes c (max k 1)) same)
