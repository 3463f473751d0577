-- Lists of four, as arrays of four are, and two zeros behind them, which make polynomials of degree five.
use Rattle.std.proofs.Common.{◌≡◌, ℕ, zero, suc, ◌*◌, ◌<◌, ◌≤◌, ℤ, pos, List, [], ◌∷◌, ◌++◌, length}
use Rattle.std.proofs.Common.{arith, refl, ap, sym, subst, ◌∙◌, inl, inr}
use Rattle.std.proofs.lemmas.Bool.{cases_lt}
use Rattle.frac_laws.specs.Polynomials.{all_over}
use Rattle.frac_laws.specs.Bernstein.{bernstein_coefficients}
use Rattle.named_numbers.specs.Numbers.{bernstein_unit}
use Rattle.model_specs.specs.RecordRules.{IsBounded}
use Rattle.model_specs.specs.MonthNumbers.{coefficient_at, bernstein_numerators}
use Rattle.model_laws.proofs.MonthNumerators.{month_of, numerators_are}
use Rattle.whole_laws.proofs.ShortLists.{four_are_all}

-- two zeros behind the coefficients
abbrev pub padded : List ℤ → List ℤ
padded p = p ++ pos 0 ∷ pos 0 ∷ []

pub length-padded : (p : List ℤ) → length p ≡ 4 → length (padded p) ≡ 6
length-padded p h =
    let P : List ℤ → Type 0 = λ q. length (padded q) ≡ 6 in
    subst P (sym (four_are_all p h)) refl

pub padded-within : (c : List ℤ) (i : ℕ) → i < length c → coefficient_at (padded c) i ≡ coefficient_at c i
padded-within [] i inside = absurd (omega arith)
padded-within (x ∷ c) zero inside = refl
padded-within (x ∷ c) (suc i) inside = padded-within c i (omega arith)

pub padded-past : (c : List ℤ) (i : ℕ) → length c ≤ i → coefficient_at (padded c) i ≡ pos 0
padded-past [] zero past = refl
padded-past [] (suc zero) past = refl
padded-past [] (suc (suc i)) past = refl
padded-past (x ∷ c) zero past = absurd (omega arith)
padded-past (x ∷ c) (suc i) past = padded-past c i (omega arith)

-- zeros are bounded
pub padded_bounded : (c : List ℤ) (s : ℕ) → IsBounded c s → IsBounded (padded c) s
padded_bounded c s bounded = λ i inside.
    elim (cases_lt i (length c)) [
      | inl below ↦ rw (padded-within c i below) (bounded i below)
      | inr past ↦ rw (padded-past c i past) (omega arith)
    ]

-- and change no Bernstein numerator
pub padded_numerators : (p : List ℤ) (k : ℕ) → length p ≡ 4
    → bernstein_numerators (padded p) k ≡ bernstein_numerators p k
padded_numerators p k h =
    let P : List ℤ → Type 0 = λ q. bernstein_numerators (padded q) k ≡ bernstein_numerators q k in
    subst P (sym (four_are_all p h)) refl

-- a payment's four coefficients with two zeros behind them have the numerators of the payment
pub payment_numerators_are : (c p b : List ℤ) (k : ℕ) → length c ≡ 4 → p ≡ padded c
    → all_over (bernstein_unit * 1) b
    ≡ bernstein_coefficients (month_of p k)
    → b ≡ bernstein_numerators c k
payment_numerators_are c p b k four zeros h =
    numerators_are p b k (ap length zeros ∙ length-padded c four) h
    ∙ ap (λ q. bernstein_numerators q k) zeros ∙ padded_numerators c k four
