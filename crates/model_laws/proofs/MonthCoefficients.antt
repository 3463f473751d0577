-- The whole numerators over a month stand for the coefficients of a polynomial over that month.
use Rattle.std.specs.Prelude.{◌≡◌, ℕ, zero, suc, pos, ◌+◌, ◌-◌, ◌*◌, ◌/◌, ◌^◌, ◌<◌, ◌≤◌, ℤ, ◌*ℤ◌}
use Rattle.std.specs.Prelude.{List, [], ◌∷◌, length, map, refl}
use Rattle.std.proofs.Common.{ap, sym, ◌∙◌, arith, lit≤}
use mathlib.Core.Path.{ap₂}
use Rattle.frac_laws.specs.Fraction.{Fraction, over, whole, ◌+ℚ◌, ◌*ℚ◌}
use Rattle.frac_laws.specs.Sums.{sum_to, power}
use Rattle.frac_laws.specs.Lists.{number_at}
use Rattle.frac_laws.specs.Polynomials.{shifted, stretched, all_over}
use Rattle.frac_laws.specs.Bernstein.{binomial, bernstein_coefficient}
use Rattle.frac_laws.proofs.FractionTerms.{ring, terms}
use Rattle.frac_laws.proofs.Sums.{sum_to_ext, sum_to_first}
use Rattle.frac_laws.proofs.Quotients.{over_is, over_add, over_mul, whole_mul}
use Rattle.frac_laws.proofs.Powers.{whole_power}
use Rattle.whole_laws.specs.Whole.{list_of, whole_sum}
use Rattle.model_specs.specs.MonthNumbers.{coefficient_at, month_coefficient, bernstein_numerator}
use Rattle.model_laws.specs.NumberLaws.{month_polynomial, CurveNumeratorsStandForBernstein}
use Rattle.model_laws.specs.NumberLaws.{PaymentNumeratorsStandForBernstein}

-- a sum of whole numbers over one denominator
over-whole_sum : (n : ℕ) (f : ℕ → ℤ) (d : ℕ) → over (whole_sum (list_of n f)) d ≡ sum_to n (λ i. over (f i) d)
over-whole_sum zero f d = over_is (pos 0) d ∙ ring (over (pos 1) d ∷ []) (hlevel terms) refl
over-whole_sum (suc n) f d =
    over_add (f 0) (whole_sum (list_of n (λ i. f (suc i)))) d
    ∙ ap (λ z. over (f 0) d +ℚ z) (over-whole_sum n (λ i. f (suc i)) d)
    ∙ sym (sum_to_first n (λ i. over (f i) d))

-- one term of a coefficient
term-is : (a k n e : ℕ) (c : ℤ) (d : ℕ) → over (pos (a * k ^ n * e) *ℤ c) d
    ≡ whole (pos a) *ℚ whole (pos e) *ℚ power (whole (pos k)) n *ℚ (whole c *ℚ over (pos 1) d)
term-is a k n e c d =
    over_is (pos (a * k ^ n * e) *ℤ c) d
    ∙ rw (
      whole_mul (pos (a * k ^ n * e)) c,
      whole_mul (pos (a * k ^ n)) (pos e),
      whole_mul (pos a) (pos (k ^ n)),
      whole_power k n,
    )
    (ring (whole (pos a) ∷ whole (pos e) ∷ power (whole (pos k)) n ∷ whole c ∷ over (pos 1) d ∷ [])
    (hlevel terms) refl)

-- a coefficient over a month, as a sum of fractions
month_coefficient-is : (c : List ℤ) (k i d : ℕ) → over (month_coefficient c k i) d
    ≡ sum_to (6 - i) (λ n. whole (pos (binomial (i + n) i)) *ℚ whole (pos (12 ^ (5 - (i + n))))
    *ℚ power (whole (pos k)) n *ℚ (whole (coefficient_at c (i + n)) *ℚ over (pos 1) d))
month_coefficient-is c k i d =
    over-whole_sum (6 - i) (λ n. pos (binomial (i + n) i * k ^ n * 12 ^ (5 - (i + n))) *ℤ coefficient_at c (i + n)) d
    ∙ sum_to_ext (6 - i) (λ n b. term-is (binomial (i + n) i) k n (12 ^ (5 - (i + n))) (coefficient_at c (i + n)) d)

-- the months since a start, in years
month_start : (k : ℕ) → over (pos (k * 1 + 0)) (12 * 1) ≡ whole (pos k) *ℚ over (pos 1) 12
month_start k = ap (λ n. over (pos n) 12) (months k) ∙ over_is (pos k) 12
  where
    months : (k : ℕ) → k * 1 + 0 ≡ k
    months k = omega arith

-- a part of a denominator
unit_of : (den : ℕ) → 1 ≤ den → over (pos 1) (248832 * den) ≡ over (pos 1) 248832 *ℚ over (pos 1) den
unit_of den some = sym (over_mul (pos 1) (pos 1) 248832 den (lit≤ tt) some)

-- the coefficient of u^i over a month, for a curve of six coefficients over a denominator
abbrev spread : Fraction → Fraction → List Fraction → ℕ → Fraction
spread k e x i = sum_to (6 - i) (λ n. whole (pos (binomial (i + n) i)) *ℚ whole (pos (12 ^ (5 - (i + n))))
    *ℚ power k n *ℚ (number_at x (i + n) *ℚ (over (pos 1) 248832 *ℚ e)))

abbrev moved : Fraction → List Fraction → ℕ → Fraction
moved k x i = number_at (stretched (over (pos 1) 12) (shifted (k *ℚ over (pos 1) 12) x)) i

curve_coefficients : (k e a b c d f g : Fraction) (i : ℕ) → i < 6
    → spread k e (a ∷ b ∷ c ∷ d ∷ f ∷ g ∷ []) i
    ≡ moved k ((a *ℚ e) ∷ (b *ℚ e) ∷ (c *ℚ e) ∷ (d *ℚ e) ∷ (f *ℚ e) ∷ (g *ℚ e) ∷ []) i
curve_coefficients k e a b c d f g zero h =
    ring (k ∷ e ∷ a ∷ b ∷ c ∷ d ∷ f ∷ g ∷ []) (hlevel terms) refl
curve_coefficients k e a b c d f g (suc zero) h =
    ring (k ∷ e ∷ a ∷ b ∷ c ∷ d ∷ f ∷ g ∷ []) (hlevel terms) refl
curve_coefficients k e a b c d f g (suc (suc zero)) h =
    ring (k ∷ e ∷ a ∷ b ∷ c ∷ d ∷ f ∷ g ∷ []) (hlevel terms) refl
curve_coefficients k e a b c d f g (suc (suc (suc zero))) h =
    ring (k ∷ e ∷ a ∷ b ∷ c ∷ d ∷ f ∷ g ∷ []) (hlevel terms) refl
curve_coefficients k e a b c d f g (suc (suc (suc (suc zero)))) h =
    ring (k ∷ e ∷ a ∷ b ∷ c ∷ d ∷ f ∷ g ∷ []) (hlevel terms) refl
curve_coefficients k e a b c d f g (suc (suc (suc (suc (suc zero))))) h =
    ring (k ∷ e ∷ a ∷ b ∷ c ∷ d ∷ f ∷ g ∷ []) (hlevel terms) refl
curve_coefficients k e a b c d f g (suc (suc (suc (suc (suc (suc i)))))) h = absurd (omega arith)

-- and for a payment of four
payment_coefficients : (k e a b c d : Fraction) (i : ℕ) → i < 6 → spread k e (a ∷ b ∷ c ∷ d ∷ []) i
    ≡ moved k ((a *ℚ e) ∷ (b *ℚ e) ∷ (c *ℚ e) ∷ (d *ℚ e) ∷ []) i
payment_coefficients k e a b c d zero h =
    ring (k ∷ e ∷ a ∷ b ∷ c ∷ d ∷ []) (hlevel terms) refl
payment_coefficients k e a b c d (suc zero) h =
    ring (k ∷ e ∷ a ∷ b ∷ c ∷ d ∷ []) (hlevel terms) refl
payment_coefficients k e a b c d (suc (suc zero)) h =
    ring (k ∷ e ∷ a ∷ b ∷ c ∷ d ∷ []) (hlevel terms) refl
payment_coefficients k e a b c d (suc (suc (suc zero))) h =
    ring (k ∷ e ∷ a ∷ b ∷ c ∷ d ∷ []) (hlevel terms) refl
payment_coefficients k e a b c d (suc (suc (suc (suc zero)))) h =
    ring (k ∷ e ∷ a ∷ b ∷ c ∷ d ∷ []) (hlevel terms) refl
payment_coefficients k e a b c d (suc (suc (suc (suc (suc zero))))) h =
    ring (k ∷ e ∷ a ∷ b ∷ c ∷ d ∷ []) (hlevel terms) refl
payment_coefficients k e a b c d (suc (suc (suc (suc (suc (suc i)))))) h = absurd (omega arith)

-- whole coefficients as fractions, and over a denominator
whole-at : (c : List ℤ) (m : ℕ) → whole (coefficient_at c m) ≡ number_at (map whole c) m
whole-at [] m = refl
whole-at (x ∷ c) zero = refl
whole-at (x ∷ c) (suc m) = whole-at c m

all_over-is : (den : ℕ) (c : List ℤ) → all_over den c ≡ map (λ x. whole x *ℚ over (pos 1) den) c
all_over-is den [] = refl
all_over-is den (x ∷ c) = ap₂ (λ y ys. y ∷ ys) (over_is x den) (all_over-is den c)

-- the sum that a whole coefficient stands for
coefficient-spread : (den k i : ℕ) (c : List ℤ) → 1 ≤ den → over (month_coefficient c k i) (248832 * den)
    ≡ spread (whole (pos k)) (over (pos 1) den) (map whole c) i
coefficient-spread den k i c some = month_coefficient-is c k i (248832 * den)
    ∙ sum_to_ext (6 - i) (λ n b. ap₂ (λ x u. whole (pos (binomial (i + n) i)) *ℚ whole (pos (12 ^ (5 - (i + n))))
    *ℚ power (whole (pos k)) n *ℚ (x *ℚ u)) (whole-at c (i + n)) (unit_of den some))

-- the polynomial over a month, from where it is moved to
coefficient-moved : (den k i : ℕ) (c : List ℤ)
    → moved (whole (pos k)) (map (λ x. whole x *ℚ over (pos 1) den) c) i ≡ number_at (month_polynomial den c k) i
coefficient-moved den k i c = ap₂ (λ start x. number_at (stretched (over (pos 1) 12) (shifted start x)) i)
    (sym (month_start k)) (sym (all_over-is den c))

curve-coefficient : (den k i : ℕ) (c : List ℤ) → 1 ≤ den → i < 6 → length c ≡ 6
    → over (month_coefficient c k i) (248832 * den) ≡ number_at (month_polynomial den c k) i
curve-coefficient den k i (x ∷ y ∷ z ∷ u ∷ v ∷ w ∷ []) some within six =
    coefficient-spread den k i (x ∷ y ∷ z ∷ u ∷ v ∷ w ∷ []) some
    ∙ curve_coefficients (whole (pos k)) (over (pos 1) den) (whole x) (whole y) (whole z) (whole u) (whole v) (whole w)
    i within
    ∙ coefficient-moved den k i (x ∷ y ∷ z ∷ u ∷ v ∷ w ∷ [])
curve-coefficient den k i [] some within six = absurd (omega arith)
curve-coefficient den k i (x ∷ []) some within six = absurd (omega arith)
curve-coefficient den k i (x ∷ y ∷ []) some within six = absurd (omega arith)
curve-coefficient den k i (x ∷ y ∷ z ∷ []) some within six = absurd (omega arith)
curve-coefficient den k i (x ∷ y ∷ z ∷ u ∷ []) some within six = absurd (omega arith)
curve-coefficient den k i (x ∷ y ∷ z ∷ u ∷ v ∷ []) some within six = absurd (omega arith)
curve-coefficient den k i (x ∷ y ∷ z ∷ u ∷ v ∷ w ∷ t ∷ c) some within six = absurd (omega arith)

payment-coefficient : (k i : ℕ) (c : List ℤ) → i < 6 → length c ≡ 4
    → over (month_coefficient c k i) 248832 ≡ number_at (month_polynomial 1 c k) i
payment-coefficient k i (x ∷ y ∷ z ∷ u ∷ []) within four =
    coefficient-spread 1 k i (x ∷ y ∷ z ∷ u ∷ []) (lit≤ tt)
    ∙ payment_coefficients (whole (pos k)) (over (pos 1) 1) (whole x) (whole y) (whole z) (whole u) i within
    ∙ coefficient-moved 1 k i (x ∷ y ∷ z ∷ u ∷ [])
payment-coefficient k i [] within four = absurd (omega arith)
payment-coefficient k i (x ∷ []) within four = absurd (omega arith)
payment-coefficient k i (x ∷ y ∷ []) within four = absurd (omega arith)
payment-coefficient k i (x ∷ y ∷ z ∷ []) within four = absurd (omega arith)
payment-coefficient k i (x ∷ y ∷ z ∷ u ∷ v ∷ c) within four = absurd (omega arith)

-- the weight of a coefficient in a Bernstein coefficient
weight-is : (q b den : ℕ) (x : ℤ) → 1 ≤ den → over (pos (b * q) *ℤ x) (2488320 * den)
    ≡ whole (pos b) *ℚ whole (pos q) *ℚ (whole x *ℚ (over (pos 1) 2488320 *ℚ over (pos 1) den))
weight-is q b den x some = over_is (pos (b * q) *ℤ x) (2488320 * den)
    ∙ rw (
      whole_mul (pos (b * q)) x,
      whole_mul (pos b) (pos q),
      sym (over_mul (pos 1) (pos 1) 2488320 den (lit≤ tt) some),
    )
    (ring (whole (pos b) ∷ whole (pos q) ∷ whole x ∷ over (pos 1) den ∷ []) (hlevel terms) refl)

weighted-is : (b den : ℕ) (x : ℤ) (n : ℕ) → 1 ≤ den → over (pos b) n *ℚ over x (248832 * den)
    ≡ whole (pos b) *ℚ over (pos 1) n *ℚ (whole x *ℚ (over (pos 1) 248832 *ℚ over (pos 1) den))
weighted-is b den x n some =
    ap₂ (λ p q. p *ℚ q) (over_is (pos b) n)
    (over_is x (248832 * den) ∙ ap (λ u. whole x *ℚ u) (unit_of den some))

weight-stands : (b i den : ℕ) (x : ℤ) → i < 6 → 1 ≤ den
    → over (pos (b * (10 / binomial 5 i)) *ℤ x) (2488320 * den) ≡ over (pos b) (binomial 5 i) *ℚ over x (248832 * den)
weight-stands b zero den x h some = weight-is 10 b den x some
    ∙ ring (whole (pos b) ∷ whole x ∷ over (pos 1) den ∷ []) (hlevel terms) refl ∙ sym (weighted-is b den x 1 some)
weight-stands b (suc zero) den x h some = weight-is 2 b den x some
    ∙ ring (whole (pos b) ∷ whole x ∷ over (pos 1) den ∷ []) (hlevel terms) refl ∙ sym (weighted-is b den x 5 some)
weight-stands b (suc (suc zero)) den x h some = weight-is 1 b den x some
    ∙ ring (whole (pos b) ∷ whole x ∷ over (pos 1) den ∷ []) (hlevel terms) refl ∙ sym (weighted-is b den x 10 some)
weight-stands b (suc (suc (suc zero))) den x h some = weight-is 1 b den x some
    ∙ ring (whole (pos b) ∷ whole x ∷ over (pos 1) den ∷ []) (hlevel terms) refl ∙ sym (weighted-is b den x 10 some)
weight-stands b (suc (suc (suc (suc zero)))) den x h some = weight-is 2 b den x some
    ∙ ring (whole (pos b) ∷ whole x ∷ over (pos 1) den ∷ []) (hlevel terms) refl ∙ sym (weighted-is b den x 5 some)
weight-stands b (suc (suc (suc (suc (suc zero))))) den x h some = weight-is 10 b den x some
    ∙ ring (whole (pos b) ∷ whole x ∷ over (pos 1) den ∷ []) (hlevel terms) refl ∙ sym (weighted-is b den x 1 some)
weight-stands b (suc (suc (suc (suc (suc (suc i)))))) den x h some = absurd (omega arith)

-- numerators whose coefficients stand for those of a polynomial
numerator-stands : (den k j : ℕ) (c : List ℤ) → 1 ≤ den → j < 6
    → ((i : ℕ) → i < 6 → over (month_coefficient c k i) (248832 * den) ≡ number_at (month_polynomial den c k) i)
    → over (bernstein_numerator c k j) (2488320 * den) ≡ bernstein_coefficient (month_polynomial den c k) j
numerator-stands den k j c some within stand =
    over-whole_sum (suc j) (λ i. pos (binomial j i * (10 / binomial 5 i)) *ℤ month_coefficient c k i) (2488320 * den)
    ∙ sum_to_ext (suc j) (λ i b. weight-stands (binomial j i) i den (month_coefficient c k i) (omega arith) some
    ∙ ap (λ z. over (pos (binomial j i)) (binomial 5 i) *ℚ z) (stand i (omega arith)))

pub curve_numerators_stand : CurveNumeratorsStandForBernstein
curve_numerators_stand den k j c some within six =
    numerator-stands den k j c some within (λ i b. curve-coefficient den k i c some b six)

pub payment_numerators_stand : PaymentNumeratorsStandForBernstein
payment_numerators_stand k j c within four =
    numerator-stands 1 k j c (lit≤ tt) within (λ i b. payment-coefficient k i c b four)
