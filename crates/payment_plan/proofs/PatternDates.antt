-- The premium pattern at a date.
use Rattle.std.proofs.Common.{◌≡◌, ℕ, zero, suc, ◌*◌, ◌/◌, ◌%◌, ◌<◌, ◌≤◌, ℤ, pos, List, [], ◌∷◌}
use Rattle.std.proofs.Common.{Bool, true, false, cond, arith, refl, ap, sym, subst, ◌∙◌, inl, inr}
use Rattle.std.specs.Prelude.{Option, Some, None, find, map, flat_map, filter_map, option_map, nat_lt, ◌==◌, ◌&&◌, ◌||◌}
use Rattle.std.specs.Int.{div_ceil}
use Rattle.std.specs.List.{list_any}
use Rattle.std.specs.Option.{option_or}
use Rattle.std.proofs.Math.Nat.{mul-le-mul_right, mul_comm, div-add-mod, mod-lt, mul-mod_left}
use Rattle.std.proofs.lemmas.Bool.Decides.{eqb_tells, nat_tests}
use Rattle.std.proofs.lemmas.Bool.{eqb-true, eq-eqb}
use Rattle.std.proofs.lemmas.List.Folds.{find-append}
use Rattle.whole_laws.specs.Whole.{list_of, places}
use Rattle.model_specs.specs.Product.{Lump, PremiumPattern}
use Rattle.model_specs.specs.Payments.{lumps_at, continuous_pattern, dated_pattern, pattern_dates}
use Rattle.payment_plan.specs.Payments.{Payments, pattern_of}
use Rattle.payment_plan.specs.Tables.{payer_at, payers_in_order, pays_at_date}
use Rattle.whole_laws.proofs.Places.{places-agree, places-none}
use Rattle.whole_laws.proofs.Tests.{both_pass}
use Rattle.std.proofs.lemmas.Bool.{cases_lt}

-- the lumps of 1 at a date
abbrev pub ones_at : List ℕ → ℕ → List Lump
ones_at payers d = map (λ i. record { month = d; state = i; amount = pos 1 }) payers

-- the first lump of a date and a state, with its state
abbrev pub first_at : List Lump → ℕ → ℕ → Option (ℕ × ℤ)
first_at lumps date i =
    let pair : Lump → ℕ × ℤ = λ l. (i, l.amount) in
    option_map pair (find (λ l. (l.month == date) && (l.state == i)) lumps)

-- at the date the payers have a lump each
ones_here : (payers : List ℕ) (d i : ℕ) → first_at (ones_at payers d) d i ≡ payer_at payers i
ones_here [] d i = refl
ones_here (payer ∷ payers) d i =
    elim (eqb_tells payer i) [
      | inl here ↦ rw (eq-eqb d d refl, here.0) refl
      | inr other ↦ rw (eq-eqb d d refl, other.0) (ones_here payers d i)
    ]

-- and at another date there is none
ones_elsewhere : (payers : List ℕ) (d date i : ℕ) → (d == date) ≡ false
    → find (λ l. (l.month == date) && (l.state == i)) (ones_at payers d) ≡ None
ones_elsewhere [] d date i h = refl
ones_elsewhere (payer ∷ payers) d date i h = rw h (ones_elsewhere payers d date i h)

no_second : (first second : Option Lump) (i : ℕ) (o : Option (ℕ × ℤ)) (b : Bool)
    → option_map (λ l. (i, l.amount)) first ≡ o
    → option_map (λ l. (i, l.amount)) second ≡ cond b o None
    → option_map (λ l. (i, l.amount)) (option_or first second) ≡ o
no_second (Some l) second i o b h k = h
no_second None second i o true h k = k
no_second None second i o false h k = k ∙ h

-- the lumps of all dates of the pattern
pub ones_of : (dates payers : List ℕ) (date i : ℕ)
    → first_at (flat_map (ones_at payers) dates) date i
    ≡ cond (list_any (λ d. d == date) dates) (payer_at payers i) None
ones_of [] payers date i = refl
ones_of (d ∷ dates) payers date i =
    let test : Lump → Bool = λ l. (l.month == date) && (l.state == i) in
    elim (eqb_tells d date) [
      | inl here ↦
          rw (here.0, find-append test (ones_at payers d) (flat_map (ones_at payers) dates))
          (no_second (find test (ones_at payers d)) (find test (flat_map (ones_at payers) dates)) i (payer_at payers i)
          (list_any (λ e. e == date) dates)
          (subst (λ e. first_at (ones_at payers d) e i ≡ payer_at payers i) here.1 (ones_here payers d i))
          (ones_of dates payers date i))
      | inr other ↦
          rw (
            other.0,
            find-append test (ones_at payers d) (flat_map (ones_at payers) dates),
            ones_elsewhere payers d date i other.0,
          ) (ones_of dates payers date i)
    ]

-- a test that two places pass is passed by one of all
passed_by : (test : ℕ → Bool) (n : ℕ) (p : ℕ → ℕ) (k : ℕ) → k < n → test (p k) ≡ true
    → list_any test (list_of n p) ≡ true
passed_by test zero p k below h = absurd (omega arith)
passed_by test (suc n) p zero below h = rw h refl
passed_by test (suc n) p (suc k) below h =
    rw (passed_by test n (λ i. p (suc i)) k (omega arith) h) (or_true (test (p 0)))
  where
    or_true : (b : Bool) → (b || true) ≡ true
    or_true true = refl
    or_true false = refl

passes_at : (test : ℕ → Bool) (n : ℕ) (p : ℕ → ℕ) → list_any test (list_of n p) ≡ true
    → (k : ℕ) × (k < n) × (test (p k) ≡ true)
passes_at test zero p h = cc
passes_at test (suc n) p h = first (λ rest. passes_at test n (λ i. p (suc i)) rest) (test (p 0)) refl
  where
    first : (list_any test (list_of n (λ i. p (suc i))) ≡ true → (k : ℕ) × (k < n) × (test (p (suc k)) ≡ true))
        → (b : Bool) → test (p 0) ≡ b → (k : ℕ) × (k < suc n) × (test (p k) ≡ true)
    first later true here = (0, omega arith, here)
    first later false here = let there = later (rw here at h) in (suc there.0, omega (arith, there.1), there.2)

map-list_of : {A : Type 0} (f : ℕ → A) (n : ℕ) (p : ℕ → ℕ) → map f (list_of n p) ≡ list_of n (λ i. f (p i))
map-list_of f zero p = refl
map-list_of f (suc n) p = ap (λ xs. f (p 0) ∷ xs) (map-list_of f n (λ i. p (suc i)))

-- the dates k e below until are those of the first places
below_until : (until e k : ℕ) → 1 ≤ e → k < div_ceil until e → k * e < until
below_until until e k some h =
    elim (cases_lt k (until / e)) [
      | inl below ↦
          let next : suc k ≤ until / e = omega arith in
          omega (arith, mul-le-mul_right e next, mul_comm e (until / e), div-add-mod until e)
      | inr upto ↦
          let last : k ≡ until / e = omega arith in
          let more : 1 ≤ until % e = omega arith in
          omega (arith, ap (λ j. j * e) last, mul_comm e (until / e), div-add-mod until e)
    ]

place_of : (until e k : ℕ) → 1 ≤ e → k * e < until → k < div_ceil until e
place_of until e k some h =
    elim (cases_lt k (until / e)) [
      | inl below ↦ omega arith
      | inr upto ↦
          elim (cases_lt k (suc (until / e))) [
            | inl same ↦
                let last : k ≡ until / e = omega arith in
                let more : 1 ≤ until % e =
                omega (arith, ap (λ j. j * e) last, mul_comm e (until / e), div-add-mod until e) in
                omega arith
            | inr above ↦
                absurd (omega (
                  arith,
                  mul-le-mul_right e above,
                  mul_comm e (until / e),
                  div-add-mod until e,
                  mod-lt until {m = e} (omega arith),
                ))
          ]
    ]

same_answer : (a b : Bool) → (a ≡ true → b ≡ true) → (b ≡ true → a ≡ true) → a ≡ b
same_answer true b h k = sym (h refl)
same_answer false true h k = k refl
same_answer false false h k = refl

is_below : (a b : ℕ) → nat_lt a b ≡ true → a < b
is_below a b h = grind (arith, nat_tests)

tests_below : (a b : ℕ) → a < b → nat_lt a b ≡ true
tests_below a b h = grind (arith, nat_tests)

-- the pattern's dates are the multiples of every below until
pub dates_tell : (until e date : ℕ) → 1 ≤ e
    → list_any (λ d. d == date) (map (λ k. k * e) (places (div_ceil until e)))
    ≡ (nat_lt date until && (date % e == 0))
dates_tell until e date some =
    ap (list_any (λ d. d == date)) (map-list_of (λ k. k * e) (div_ceil until e) (λ i. i))
    ∙ same_answer (list_any (λ d. d == date) (list_of (div_ceil until e) (λ k. k * e)))
    (nat_lt date until && (date % e == 0)) there back
  where
    there : list_any (λ d. d == date) (list_of (div_ceil until e) (λ k. k * e)) ≡ true
        → (nat_lt date until && (date % e == 0)) ≡ true
    there h =
        let k = passes_at (λ d. d == date) (div_ceil until e) (λ k. k * e) h in
        let is : k.0 * e ≡ date = eqb-true (k.0 * e) date k.2 in
        let below : date < until = omega (arith, below_until until e k.0 some k.1, is) in
        let whole : date % e ≡ 0 = ap (λ d. d % e) (sym is) ∙ mul-mod_left k.0 e in
        rw (tests_below date until below) (eq-eqb (date % e) 0 whole)

    back : (nat_lt date until && (date % e == 0)) ≡ true
        → list_any (λ d. d == date) (list_of (div_ceil until e) (λ k. k * e)) ≡ true
    back h =
        let parts = both_pass (nat_lt date until) (date % e == 0) h in
        let whole : date % e ≡ 0 = eqb-true (date % e) 0 parts.1 in
        let is : date / e * e ≡ date = omega (arith, mul_comm e (date / e), div-add-mod date e) in
        let below : date / e * e < until = omega (arith, is_below date until parts.0) in
        passed_by (λ d. d == date) (div_ceil until e) (λ k. k * e) (date / e)
        (place_of until e (date / e) some below) (eq-eqb (date / e * e) date is)

nothing_dated : (states : ℕ) (pattern : PremiumPattern) (date : ℕ)
    → lumps_at states (continuous_pattern pattern) date ≡ []
nothing_dated states pattern date = places-none states (λ i. first_at [] date i) (λ i. refl)

dated_lumps_are : (states : ℕ) (pattern : PremiumPattern) (date : ℕ) → 1 ≤ pattern.every
    → lumps_at states (dated_pattern pattern) date
    ≡ cond (nat_lt date pattern.until && (date % pattern.every == 0)) (payers_in_order states pattern.payers) []
dated_lumps_are states pattern date some =
    places-agree states _ _ (λ i below. ones_of (pattern_dates pattern) pattern.payers date i
    ∙ ap (λ b. cond b (payer_at pattern.payers i) None) (dates_tell pattern.until pattern.every date some))
    ∙ all_or_none (nat_lt date pattern.until && (date % pattern.every == 0))
  where
    all_or_none : (b : Bool) → filter_map (λ i. cond b (payer_at pattern.payers i) None) (places states)
        ≡ cond b (payers_in_order states pattern.payers) []
    all_or_none true = refl
    all_or_none false = places-none states (λ i. None) (λ i. refl)

pub pattern_lumps : (p : Payments) (date : ℕ)
    → lumps_at p.states (pattern_of p) date
    ≡ cond (pays_at_date p.pattern date) (payers_in_order p.states p.pattern.payers) []
pattern_lumps p date = cases (p.pattern.every == 0) refl
  where
    not_zero : (n : ℕ) → (n == 0) ≡ false → 1 ≤ n
    not_zero zero h = cc
    not_zero (suc n) h = omega arith

    cases : (b : Bool) → (p.pattern.every == 0) ≡ b
        → lumps_at p.states (pattern_of p) date
        ≡ cond (pays_at_date p.pattern date) (payers_in_order p.states p.pattern.payers) []
    cases true h = rw h (nothing_dated p.states p.pattern date)
    cases false h = rw h (dated_lumps_are p.states p.pattern date (not_zero p.pattern.every h))
