-- The premium pattern in a month.
use Rattle.std.proofs.Common.{◌≡◌, ℕ, zero, suc, ◌*◌, ◌^◌, ◌<◌, ◌≤◌, ℤ, pos, List, [], ◌∷◌, get_or}
use Rattle.std.proofs.Common.{Bool, true, false, cond, arith, refl, ap, sym, subst, ◌∙◌, inl, inr}
use Rattle.std.specs.Prelude.{All, map, unsigned_abs, nat_lt, nat_le, ◌==◌, ◌&&◌}
use Rattle.std.proofs.Math.Nat.{mul-zero, pow-zero}
use Rattle.std.proofs.lemmas.Bool.Decides.{eqb_tells, nat_tests}
use Rattle.std.proofs.lemmas.List.Elements.{All-replicate}
use Rattle.named_numbers.specs.Numbers.{most_amount, most_coefficient, bernstein_unit}
use Rattle.model_specs.specs.Product.{Step, PremiumPattern}
use Rattle.model_specs.specs.Payments.{constant_step, continuous_pattern, sojourn_at, step_at}
use Rattle.model_specs.specs.RecordRules.{IsBoundedStep}
use Rattle.model_specs.specs.MonthNumbers.{bernstein_numerators}
use Rattle.payment_plan.specs.Payments.{Payments, pattern_of}
use Rattle.payment_plan.specs.Steps.{steps_in_state}
use Rattle.payment_plan.specs.Tables.{is_payer, pays_in_month}

-- an amount of 1 or of 0
abbrev pub unit_amount : Bool → ℤ
unit_amount b = cond b (pos 1) (pos 0)

-- the steps of a payer: 1 up to the month until, and 0 from there on
payer_steps : (steps : List Step) (payers : List ℕ) (state : ℕ)
    → steps_in_state (map (λ i. record { state = i; steps = steps }) payers) state
    ≡ cond (is_payer payers state) steps []
payer_steps steps [] state = refl
payer_steps steps (payer ∷ payers) state =
    elim (eqb_tells payer state) [
      | inl here ↦ rw here.0 refl
      | inr other ↦ rw other.0 (payer_steps steps payers state)
    ]

starts_late : (a b : ℕ) → nat_lt a b ≡ true → nat_le b a ≡ false
starts_late a b h = grind (arith, nat_tests)

starts_early : (a b : ℕ) → nat_lt a b ≡ false → nat_le b a ≡ true
starts_early a b h = grind (arith, nat_tests)

from_the_start : (month : ℕ) → nat_le 0 month ≡ true
from_the_start month = grind (arith, nat_tests)

two_steps : (until month : ℕ)
    → (step_at (constant_step 0 (pos 1) ∷ constant_step until (pos 0) ∷ []) month).c
    ≡ (constant_step 0 (unit_amount (nat_lt month until))).c
two_steps until month = cases (nat_lt month until) refl
  where
    cases : (b : Bool) → nat_lt month until ≡ b
        → (step_at (constant_step 0 (pos 1) ∷ constant_step until (pos 0) ∷ []) month).c
        ≡ (constant_step 0 (unit_amount (nat_lt month until))).c
    cases true h = rw (from_the_start month, starts_late month until h, h) refl
    cases false h = rw (from_the_start month, starts_early month until h, h) refl

continuous_rate : (pattern : PremiumPattern) (state month : ℕ)
    → (sojourn_at (continuous_pattern pattern) state month).c
    ≡ (constant_step 0 (unit_amount (nat_lt month pattern.until && is_payer pattern.payers state))).c
continuous_rate pattern state month =
    let steps = constant_step 0 (pos 1) ∷ constant_step pattern.until (pos 0) ∷ [] in
    ap (λ s. (step_at s month).c)
    (payer_steps (constant_step 0 (pos 1) ∷ constant_step pattern.until (pos 0) ∷ []) pattern.payers state)
    ∙ by_payer (is_payer pattern.payers state)
  where
    with_true : (b : Bool) → b ≡ (b && true)
    with_true true = refl
    with_true false = refl

    with_false : (b : Bool) → false ≡ (b && false)
    with_false true = refl
    with_false false = refl

    by_payer : (b : Bool)
        → (step_at (cond b (constant_step 0 (pos 1) ∷ constant_step pattern.until (pos 0) ∷ []) []) month).c
        ≡ (constant_step 0 (unit_amount (nat_lt month pattern.until && b))).c
    by_payer true =
        two_steps pattern.until month
        ∙ ap (λ v. (constant_step 0 (unit_amount v)).c) (with_true (nat_lt month pattern.until))
    by_payer false = ap (λ v. (constant_step 0 (unit_amount v)).c) (with_false (nat_lt month pattern.until))

pub pattern_rate : (p : Payments) (state month : ℕ)
    → (sojourn_at (pattern_of p) state month).c
    ≡ (constant_step 0 (unit_amount (pays_in_month p.pattern state month))).c
pattern_rate p state month = cases (p.pattern.every == 0) refl
  where
    cases : (b : Bool) → (p.pattern.every == 0) ≡ b
        → (sojourn_at (pattern_of p) state month).c
        ≡ (constant_step 0 (unit_amount (pays_in_month p.pattern state month))).c
    cases true h = rw h (continuous_rate p.pattern state month)
    cases false h = rw h refl

-- a constant of 1 or 0 is bounded
pub one_numerators : (k : ℕ)
    → bernstein_numerators (pos 1 ∷ pos 0 ∷ pos 0 ∷ pos 0 ∷ []) k
    ≡ pos 2488320 ∷ pos 2488320 ∷ pos 2488320 ∷ pos 2488320 ∷ pos 2488320 ∷ pos 2488320 ∷ []
one_numerators k = simp (mul-zero, pow-zero)

pub no_numerators : (k : ℕ)
    → bernstein_numerators (pos 0 ∷ pos 0 ∷ pos 0 ∷ pos 0 ∷ []) k ≡ pos 0 ∷ pos 0 ∷ pos 0 ∷ pos 0 ∷ pos 0 ∷ pos 0 ∷ []
no_numerators k = simp (mul-zero, pow-zero)

six_within : (n : ℤ) (l : ℕ) → unsigned_abs n ≤ l
    → All (λ b. unsigned_abs b ≤ l) (n ∷ n ∷ n ∷ n ∷ n ∷ n ∷ [])
six_within n l h =
    All-replicate (λ b. unsigned_abs b ≤ l) 6 n h

unit_coefficients : (b : Bool) (s i : ℕ) → i < 4
    → unsigned_abs (get_or (unit_amount b ∷ pos 0 ∷ pos 0 ∷ pos 0 ∷ []) i (pos 0)) * s ^ i ≤ most_coefficient
unit_coefficients true s zero below = omega (arith, pow-zero s)
unit_coefficients false s zero below = omega arith
unit_coefficients b s (suc zero) below = omega arith
unit_coefficients b s (suc (suc zero)) below = omega arith
unit_coefficients b s (suc (suc (suc zero))) below = omega arith
unit_coefficients b s (suc (suc (suc (suc i)))) below = absurd (omega arith)

unit_amounts : (b : Bool) (k : ℕ)
    → All (λ n. unsigned_abs n ≤ most_amount * bernstein_unit)
    (bernstein_numerators (constant_step 0 (unit_amount b)).c k)
unit_amounts true k =
    subst (All (λ n. unsigned_abs n ≤ most_amount * bernstein_unit)) (sym (one_numerators k))
    (six_within (pos 2488320) (most_amount * bernstein_unit) (omega arith))
unit_amounts false k =
    subst (All (λ n. unsigned_abs n ≤ most_amount * bernstein_unit)) (sym (no_numerators k))
    (six_within (pos 0) (most_amount * bernstein_unit) (omega arith))

pub unit_bounded : (b : Bool) (s : ℕ) → IsBoundedStep (constant_step 0 (unit_amount b)).c s
unit_bounded b s =
    record { coefficients = unit_coefficients b s; amounts = λ k below. unit_amounts b k }
