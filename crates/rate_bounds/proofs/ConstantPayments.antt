-- Constant payments obey rules 10 to 14.
use Rattle.std.proofs.Common.{◌≡◌, ◌≢◌, ℕ, zero, suc, ◌-◌, ◌*◌, ◌^◌, ◌<◌, ◌≤◌, ℤ, pos, List, [], ◌∷◌, length}
use Rattle.std.proofs.Common.{arith, refl, ap, sym, subst}
use Rattle.std.specs.Prelude.{All, unsigned_abs, slice_index}
use Rattle.std.proofs.lemmas.List.Elements.{All-nil, All-cons, All-replicate}
use Rattle.std.proofs.Math.Nat.{pow-zero}
use mathlib.Core.Path.{ap₂}
use Rattle.model_specs.specs.Product.{Step, Sojourn, Lump, PremiumPattern, no_pattern}
use Rattle.model_specs.specs.Payments.{constant_step}
use Rattle.model_specs.specs.MonthNumbers.{bernstein_numerator, coefficient_at}
use Rattle.model_specs.specs.RecordRules.{IsBoundedStep, IsPayment, IsBoundedPayment}
use Rattle.payment_plan.specs.Payments.{Payments, IsAllowed, HasGoodPayments}
use Rattle.whole_laws.proofs.Members.{All-one, All-two}

six_alike : (f : ℕ → ℤ) (z : ℤ) → ((j : ℕ) → j < 6 → f j ≡ z)
    → f 0 ∷ f 1 ∷ f 2 ∷ f 3 ∷ f 4 ∷ f 5 ∷ [] ≡ z ∷ z ∷ z ∷ z ∷ z ∷ z ∷ []
six_alike f z h = ap₂ (λ x xs. x ∷ xs) (h 0 (omega arith)) (ap₂ (λ x xs. x ∷ xs) (h 1 (omega arith))
    (ap₂ (λ x xs. x ∷ xs) (h 2 (omega arith)) (ap₂ (λ x xs. x ∷ xs) (h 3 (omega arith))
    (ap₂ (λ x xs. x ∷ xs) (h 4 (omega arith)) (ap (λ x. x ∷ []) (h 5 (omega arith)))))))

-- the coefficients of a constant amount
abbrev pub constant : ℕ → List ℤ
constant a = pos a ∷ pos 0 ∷ pos 0 ∷ pos 0 ∷ []

numerator_is : (a k j : ℕ) → j < 6 → bernstein_numerator (constant a) k j ≡ pos (2488320 * a)
numerator_is a k zero below = rw (pow-zero k) (ap (λ n. pos n) (omega arith))
numerator_is a k (suc zero) below = rw (pow-zero k) (ap (λ n. pos n) (omega arith))
numerator_is a k (suc (suc zero)) below = rw (pow-zero k) (ap (λ n. pos n) (omega arith))
numerator_is a k (suc (suc (suc zero))) below = rw (pow-zero k) (ap (λ n. pos n) (omega arith))
numerator_is a k (suc (suc (suc (suc zero)))) below = rw (pow-zero k) (ap (λ n. pos n) (omega arith))
numerator_is a k (suc (suc (suc (suc (suc zero))))) below = rw (pow-zero k) (ap (λ n. pos n) (omega arith))
numerator_is a k (suc (suc (suc (suc (suc (suc j)))))) below = absurd (omega arith)

first_fits : (a s : ℕ) → a ≤ 10 ^ 12 → a * s ^ 0 ≤ 10 ^ 22
first_fits a s most = omega (arith, ap (λ p. a * p) (pow-zero s))

coefficients_fit : (a s i : ℕ) → a ≤ 10 ^ 12 → i < 4 → unsigned_abs (coefficient_at (constant a) i) * s ^ i ≤ 10 ^ 22
coefficients_fit a s zero most below = first_fits a s most
coefficients_fit a s (suc zero) most below = omega arith
coefficients_fit a s (suc (suc zero)) most below = omega arith
coefficients_fit a s (suc (suc (suc zero))) most below = omega arith
coefficients_fit a s (suc (suc (suc (suc i)))) most below = absurd (omega arith)

constant_is_bounded : (a s : ℕ) → a ≤ 10 ^ 12 → IsBoundedStep (constant a) s
constant_is_bounded a s most = record {
  coefficients = λ i below. coefficients_fit a s i most below;
  amounts = λ k below.
      subst (All (λ b. unsigned_abs b ≤ 10 ^ 12 * 2488320))
      (sym (six_alike (bernstein_numerator (constant a) k) (pos (2488320 * a)) (numerator_is a k)))
      (All-replicate (λ b. unsigned_abs b ≤ 10 ^ 12 * 2488320) 6 (pos (2488320 * a)) (omega arith));
}

-- the steps of a payment that never changes
abbrev pub steady : ℕ → List Step
steady a = constant_step 0 (pos a) ∷ []

starts_at_0 : (months k : ℕ) → 1 ≤ months → k < 1 → slice_index (0 ∷ []) k < months
starts_at_0 months zero some below = some
starts_at_0 months (suc k) some below = absurd (omega arith)

steady_is_payment : (months a : ℕ) → 1 ≤ months → IsPayment months (steady a)
steady_is_payment months a some = record {
  four = All-cons (λ s. length s.c ≡ 4) (constant_step 0 (pos a)) [] refl (All-nil (λ s. length s.c ≡ 4));
  starts = record {
    some = omega arith;
    first = refl;
    rising = λ k below. absurd (omega arith);
    below = λ k below. starts_at_0 months k some below;
  };
}

steady_is_bounded : (months a : ℕ) → a ≤ 10 ^ 12 → IsBoundedPayment months (steady a)
steady_is_bounded months a most zero below = constant_is_bounded a (months - 0) most
steady_is_bounded months a most (suc k) below = absurd (omega arith)

-- payments of a product without lumps and premiums
abbrev pub paid : ℕ → ℕ → List (List Step) → List Sojourn → Payments
paid states months sums sojourns = record {
  states = states;
  months = months;
  sums = sums;
  sojourns = sojourns;
  lumps = [];
  pattern = no_pattern;
}

allowed : (states months : ℕ) (sums : List (List Step)) (sojourns : List Sojourn) → 1 ≤ states → states ≤ 12
    → 1 ≤ months → months ≤ 1200
    → HasGoodPayments (paid states months sums sojourns) → IsAllowed (paid states months sums sojourns)
allowed states months sums sojourns some most some_month most_months payments = record {
  some_state = some;
  most_states = most;
  some_month = some_month;
  most_months = most_months;
  payments = payments;
  lumps = record {
    dates = All-nil (λ l. l.month ≤ months);
    states = All-nil (λ l. l.state < states);
    amounts = All-nil (λ (l : Lump). unsigned_abs l.amount ≤ 10 ^ 12);
    distinct = λ i j lower inside. absurd (omega arith);
  };
  pattern = record {
    payers = All-nil (λ i. i < states);
    distinct = λ i j lower inside. absurd (omega arith);
    until_above_0 = λ h. absurd (omega arith);
    until_within = omega arith;
    every = omega arith;
    never_until = λ h. refl;
    never_every = λ h. refl;
  };
}

-- a sojourn rate that never changes
abbrev pub steady_in : ℕ → ℕ → Sojourn
steady_in a state = record { state = state; steps = steady a }

two_places : (i j : ℕ) → i < j → j < 2 → slice_index (0 ∷ 1 ∷ []) i ≢ slice_index (0 ∷ 1 ∷ []) j
two_places zero zero lower inside = absurd (omega arith)
two_places zero (suc zero) lower inside = λ same. absurd (omega arith)
two_places zero (suc (suc j)) lower inside = absurd (omega arith)
two_places (suc i) j lower inside = absurd (omega arith)

-- one state that pays at one rate
pub flat_is_allowed : (months a : ℕ) → 1 ≤ months → months ≤ 1200 → a ≤ 10 ^ 12
    → IsAllowed (paid 1 months [] (steady_in a 0 ∷ []))
flat_is_allowed months a some most small =
    allowed 1 months [] (steady_in a 0 ∷ []) (omega arith) (omega arith) some most
    (record {
      states = All-one (λ (s : Sojourn). s.state < 1) (steady_in a 0) (omega arith);
      distinct = λ i j lower inside. absurd (omega arith);
      sojourns = All-one (λ s. IsPayment months s.steps) (steady_in a 0) (steady_is_payment months a some);
      sums = All-nil (λ steps. 1 ≤ length steps → IsPayment months steps);
      bounded_sojourns = All-one (λ s. IsBoundedPayment months s.steps) (steady_in a 0)
          (steady_is_bounded months a small);
      bounded_sums = All-nil (IsBoundedPayment months);
    })

-- two states that pay at one rate, and both transitions between them the same amount
pub exchange_is_allowed : (months a : ℕ) → 1 ≤ months → months ≤ 1200 → a ≤ 10 ^ 12
    → IsAllowed (paid 2 months (steady a ∷ steady a ∷ []) (steady_in a 0 ∷ steady_in a 1 ∷ []))
exchange_is_allowed months a some most small =
    allowed 2 months (steady a ∷ steady a ∷ []) (steady_in a 0 ∷ steady_in a 1 ∷ []) (omega arith) (omega arith)
    some most
    (record {
      states = All-two (λ (s : Sojourn). s.state < 2) (steady_in a 0) (steady_in a 1) (omega arith) (omega arith);
      distinct = two_places;
      sojourns = All-two (λ s. IsPayment months s.steps) (steady_in a 0) (steady_in a 1)
          (steady_is_payment months a some)
          (steady_is_payment months a some);
      sums = All-two (λ steps. 1 ≤ length steps → IsPayment months steps) (steady a) (steady a)
          (λ h. steady_is_payment months a some) (λ h. steady_is_payment months a some);
      bounded_sojourns = All-two (λ s. IsBoundedPayment months s.steps) (steady_in a 0) (steady_in a 1)
          (steady_is_bounded months a small) (steady_is_bounded months a small);
      bounded_sums = All-two (IsBoundedPayment months) (steady a) (steady a) (steady_is_bounded months a small)
          (steady_is_bounded months a small);
    })

-- the same for parts that are equal to these
pub exchange_parts_are_allowed : (months a : ℕ) (sums : List (List Step)) (sojourns : List Sojourn) (lumps : List Lump)
    (pattern : PremiumPattern) → sums ≡ steady a ∷ steady a ∷ [] → sojourns ≡ steady_in a 0 ∷ steady_in a 1 ∷ []
    → lumps ≡ [] → pattern ≡ no_pattern → 1 ≤ months → months ≤ 1200 → a ≤ 10 ^ 12
    → IsAllowed (record {
      states = 2;
      months = months;
      sums = sums;
      sojourns = sojourns;
      lumps = lumps;
      pattern = pattern;
    })
exchange_parts_are_allowed months a sums sojourns lumps pattern h k l m some most small =
    rw (h, k, l, m) (exchange_is_allowed months a some most small)

pub flat_parts_are_allowed : (months a : ℕ) (sums : List (List Step)) (sojourns : List Sojourn) (lumps : List Lump)
    (pattern : PremiumPattern) → sums ≡ [] → sojourns ≡ steady_in a 0 ∷ [] → lumps ≡ [] → pattern ≡ no_pattern
    → 1 ≤ months → months ≤ 1200 → a ≤ 10 ^ 12
    → IsAllowed (record {
      states = 1;
      months = months;
      sums = sums;
      sojourns = sojourns;
      lumps = lumps;
      pattern = pattern;
    })
flat_parts_are_allowed months a sums sojourns lumps pattern h k l m some most small =
    rw (h, k, l, m) (flat_is_allowed months a some most small)
