-- The Bernstein numerators of a month are those of the product's month numbers.
use Rattle.std.proofs.Common.{◌≡◌, ℕ, ◌+◌, ◌*◌, ◌<◌, ◌≤◌, ℤ, pos, ◌≤ℤ◌, List, [], ◌∷◌, length}
use Rattle.std.proofs.Common.{arith, refl, ap, sym, ◌∙◌}
use mathlib.Core.Path.{ap₂}
use Rattle.std.proofs.lemmas.Int.{ints}
use Rattle.frac_laws.specs.Fraction.{Fraction, over}
use Rattle.frac_laws.specs.Polynomials.{all_over, shifted, stretched}
use Rattle.frac_laws.specs.Bernstein.{bernstein_coefficient, bernstein_coefficients}
use Rattle.frac_laws.proofs.Quotients.{cross_of_over_equal}
use Rattle.frac_laws.proofs.WholeProducts.{product_le_cancel}
use Rattle.named_numbers.specs.Numbers.{months_of_year, bernstein_unit}
use Rattle.model_specs.specs.MonthNumbers.{bernstein_numerator, bernstein_numerators}
use Rattle.model_laws.specs.NumberLaws.{month_polynomial}
use Rattle.model_laws.proofs.MonthCoefficients.{curve_numerators_stand}
use Rattle.whole_laws.proofs.Numbers.{whole_antisym}

whole_le : (n m : ℤ) → n ≡ m → n ≤ℤ m
whole_le n m h = omega (arith, ints)

pub over_is_one_to_one : (n m : ℤ) (d : ℕ) → 1 ≤ d → over n d ≡ over m d → n ≡ m
over_is_one_to_one n m d h e =
    let cross = cross_of_over_equal n m d d h h e in
    whole_antisym n m (product_le_cancel n m d (omega arith) (whole_le _ _ cross))
    (product_le_cancel m n d (omega arith) (whole_le _ _ (sym cross)))

pub all_over_is_one_to_one : (ns ms : List ℤ) (d : ℕ) → 1 ≤ d → all_over d ns ≡ all_over d ms → ns ≡ ms
all_over_is_one_to_one [] [] d h e = refl
all_over_is_one_to_one [] (m ∷ ms) d h e = cc
all_over_is_one_to_one (n ∷ ns) [] d h e = cc
all_over_is_one_to_one (n ∷ ns) (m ∷ ms) d h e =
    let first : over n d ≡ over m d = cc in
    let rest : all_over d ns ≡ all_over d ms = cc in
    ap₂ (λ z w. z ∷ w) (over_is_one_to_one n m d h first) (all_over_is_one_to_one ns ms d h rest)

-- the polynomial over month k since its start, by the part of the month from 0 to 1
abbrev pub month_of : List ℤ → ℕ → List Fraction
month_of c k = stretched (over (pos 1) months_of_year) (shifted (over (pos k) months_of_year) (all_over 1 c))

month_polynomial_is : (c : List ℤ) (k : ℕ) → month_polynomial 1 c k ≡ month_of c k
month_polynomial_is c k =
    let same : k * 1 + 0 ≡ k = omega arith in
    ap (λ z. stretched (over (pos 1) months_of_year) (shifted (over (pos z) months_of_year) (all_over 1 c))) same

stands : (c : List ℤ) (k j : ℕ) → j < 6 → length c ≡ 6
    → over (bernstein_numerator c k j) bernstein_unit
    ≡ bernstein_coefficient (month_of c k) j
stands c k j below six =
    curve_numerators_stand 1 k j c (omega arith) below six
    ∙ ap (λ p. bernstein_coefficient p j) (month_polynomial_is c k)

numerators_stand : (c : List ℤ) (k : ℕ) → length c ≡ 6
    → all_over bernstein_unit (bernstein_numerators c k)
    ≡ bernstein_coefficients (month_of c k)
numerators_stand c k six =
    ap₂ (λ z w. z ∷ w) (stands c k 0 (omega arith) six)
    (ap₂ (λ z w. z ∷ w) (stands c k 1 (omega arith) six)
    (ap₂ (λ z w. z ∷ w) (stands c k 2 (omega arith) six)
    (ap₂ (λ z w. z ∷ w) (stands c k 3 (omega arith) six)
    (ap₂ (λ z w. z ∷ w) (stands c k 4 (omega arith) six)
    (ap (λ z. z ∷ []) (stands c k 5 (omega arith) six))))))

-- what stands for the coefficients are the numerators
pub numerators_are : (c b : List ℤ) (k : ℕ) → length c ≡ 6
    → all_over (bernstein_unit * 1) b
    ≡ bernstein_coefficients (month_of c k)
    → b ≡ bernstein_numerators c k
numerators_are c b k six h =
    all_over_is_one_to_one b (bernstein_numerators c k) bernstein_unit (omega arith)
    (h ∙ sym (numerators_stand c k six))
