-- The interval of a pattern's value is small, and nothing varies in a pattern but what varies in the curves.
use Rattle.std.proofs.Common.{◌≡◌, ℕ, zero, suc, ◌*◌, ◌^◌, ◌≤◌, ℤ, pos, ◌+ℤ◌, ◌≤ℤ◌, neg_ℤ}
use Rattle.std.proofs.Common.{Bool, true, false, List, [], ◌∷◌, ◌++◌, length, map, refl, sym, ◌∙◌, arith}
use Rattle.std.specs.Prelude.{◌==◌, ◌&&◌, if◌then◌else◌, nat_le, unsigned_abs}
use Rattle.std.specs.List.{list_all}
use Rattle.std.proofs.lemmas.Int.{ints}
use Rattle.std.proofs.lemmas.List.Elements.{All-nil, All-cons, All-map}
use Rattle.std.proofs.lemmas.List.Folds.{list_all-append}
use Rattle.std.proofs.Math.IntN.{pos-*ℤ-pos}
use Rattle.std.proofs.Math.Nat.{mul-le-mul}
use Rattle.std.proofs.Math.Pow.{pow_mono}
use mathlib.Core.Path.{ap₂}
use Rattle.named_numbers.specs.Numbers.{highest_degree}
use Rattle.frac_laws.specs.Fraction.{Fraction, whole, over, size, ◌≤ℚ◌}
use Rattle.frac_laws.proofs.Order.{le_trans}
use Rattle.frac_laws.proofs.Quotients.{cross_of_over_le, whole-opposite}
use Rattle.frac_laws.proofs.Sizes.{le_of_size_le, opposite_le_of_size_le}
use Rattle.frac_laws.proofs.WholeProducts.{neg-product}
use Rattle.fixed_interval.specs.declared.tables.Valued.{Valued}
use Rattle.fixed_interval.specs.Intervals.{HasEndsUpTo}
use Rattle.whole_laws.specs.Whole.{list_of}
use Rattle.model_specs.specs.Product.{Product, Sojourn, Step, PremiumPattern}
use Rattle.model_specs.specs.Payments.{Plan, payment_plan, pattern_plan, continuous_pattern, dated_pattern}
use Rattle.model_specs.specs.Payments.{constant_step, step_at, sojourn_at, sum_at}
use Rattle.model_specs.specs.Ledgers.{radius, scale}
use Rattle.model_specs.specs.Runs.{value_before_issue}
use Rattle.model_specs.specs.Stretches.{is_constant}
use Rattle.model_specs.specs.ValuationRules.{IsAdmissible}
use Rattle.model_specs.specs.Curve.{piece_at}
use Rattle.whole_laws.proofs.Found.{last-has, found-has}
use Rattle.whole_laws.proofs.Tests.{both_pass}
use Rattle.ledger_laws.proofs.GrowthFacts.{radii_small}
use Rattle.ledger_laws.proofs.MonthFacts.{admissible_obeys}
use Rattle.ledger_laws.proofs.PlanBounds.{pattern_bound}
use Rattle.moment_laws.proofs.ReserveLedger.{reserves_stay_within_scale}
use Rattle.thiele_backward.specs.Results.{IsValueAtIssue, AreConstantMonths}
use Rattle.premium_solver.specs.Quotients.{most_divisor}
use Rattle.frac_base.proofs.WholeRing.{mul_one}

-- ---- sizes

-- an interval that holds a number of at most 2^26 in size and is at most 2^66 units wide
ends_small : (lo hi : ℤ) (g width : ℕ) (x : Fraction) → g ≤ 26 → width ≤ 2 ^ 66
    → size x ≤ℚ whole (pos (2 ^ g)) → over lo (2 ^ 64) ≤ℚ x → x ≤ℚ over hi (2 ^ 64) → hi ≤ℤ (lo +ℤ pos width)
    → (unsigned_abs lo ≤ 2 ^ 100) × (unsigned_abs hi ≤ 2 ^ 100)
ends_small lo hi g width x scale narrow small above below order =
    let power : 2 ^ g ≤ 2 ^ 26 = pow_mono scale in
    let low = cross_of_over_le lo (pos (2 ^ g)) (2 ^ 64) 1 (omega arith) (omega arith)
    (le_trans above (le_of_size_le small)) in
    let least : over (neg_ℤ (pos (2 ^ g))) 1 ≤ℚ over hi (2 ^ 64) =
    rw (whole-opposite (pos (2 ^ g))) (le_trans (opposite_le_of_size_le small) below) in
    let high = cross_of_over_le (neg_ℤ (pos (2 ^ g))) hi 1 (2 ^ 64) (omega arith) (omega arith) least in
    let multiple = pos-*ℤ-pos (2 ^ g) (2 ^ 64) in
    let opposite_multiple = neg-product (pos (2 ^ g)) (2 ^ 64) in (
      omega (arith, ints, mul_one lo, mul_one hi),
      omega (arith, ints, mul_one lo, mul_one hi),
    )

-- the interval of the pattern's value
pub pattern_ends : (product : Product) (v : Valued) → IsAdmissible product
    → IsValueAtIssue product (pattern_plan product) v → HasEndsUpTo most_divisor v.interval
pattern_ends product v admissible valued =
    let well = admissible.well_formed in
    let bound = (pattern_bound product well (admissible_obeys product admissible)).scale in
    let wide = (radii_small product well (admissible_obeys product admissible) 0 (omega arith)).backward_below in
    let power : 2 ^ scale product (pattern_plan product) ≤ 2 ^ 26 = pow_mono bound in
    let width : 2 * radius product 0 * 2 ^ scale product (pattern_plan product) ≤ 2 ^ 40 * 2 ^ 26 =
    mul-le-mul {n₁ = 2 * radius product 0} {n₂ = 2 ^ 40} (omega arith) power in
    let within = (reserves_stay_within_scale product highest_degree admissible (omega arith)).1 in
    let held = valued.holds highest_degree valued.degree.highest in
    let both = ends_small v.interval.lo v.interval.hi (scale product (pattern_plan product))
    (2 * radius product 0 * 2 ^ scale product (pattern_plan product))
    (value_before_issue product (pattern_plan product) highest_degree) bound (omega arith)
    (within.lumps 0 product.start (omega arith) well.head.start) held.at_least held.at_most valued.narrow in
    record { lo = both.0; hi = both.1 }

-- ---- months in which nothing varies

-- steps of which at most the first coefficient is not 0, in a month
abbrev IsSteady : ℕ → List Step → Type 0
IsSteady month steps = is_constant (step_at steps month).c ≡ true

abbrev payer_steps : ℕ → List Step
payer_steps until = constant_step 0 (pos 1) ∷ constant_step until (pos 0) ∷ []

payer_steady : (until month : ℕ) → IsSteady month (payer_steps until)
payer_steady until month = last-has (λ s. is_constant s.c ≡ true) (λ s. nat_le s.from month) (payer_steps until)
    (constant_step 0 (pos 0)) refl
    (All-cons (λ s. is_constant s.c ≡ true) (constant_step 0 (pos 1)) (constant_step until (pos 0) ∷ []) refl
    (All-cons (λ s. is_constant s.c ≡ true) (constant_step until (pos 0)) [] refl
    (All-nil (λ s. is_constant s.c ≡ true))))

-- the pattern as a plan, continuous or dated
abbrev paid_by : PremiumPattern → Bool → Plan
paid_by pattern continuous = if continuous then continuous_pattern pattern else dated_pattern pattern

-- what the pattern pays in a state does not vary over a month
pattern_sojourn : (pattern : PremiumPattern) (state month : ℕ)
    → is_constant (sojourn_at (paid_by pattern (pattern.every == 0)) state month).c ≡ true
pattern_sojourn pattern state month = elim (pattern.every == 0)
    as (λ b. is_constant (sojourn_at (paid_by pattern b) state month).c ≡ true) [
      | true ↦ found-has (IsSteady month) (λ (s : Sojourn). s.steps) (λ s. s.state == state)
          (continuous_pattern pattern).sojourns [] refl
          (All-map (λ (s : Sojourn). IsSteady month s.steps)
          (λ i. record { state = i; steps = payer_steps pattern.until }) pattern.payers
          (λ k d b. payer_steady pattern.until month))
      | false ↦ refl
    ]

-- and it pays nothing at transitions
pattern_sum : (pattern : PremiumPattern) (e month : ℕ)
    → is_constant (sum_at (paid_by pattern (pattern.every == 0)) e month).c ≡ true
pattern_sum pattern e month = elim (pattern.every == 0)
    as (λ b. is_constant (sum_at (paid_by pattern b) e month).c ≡ true) [
      | true ↦ refl
      | false ↦ refl
    ]

all_of_list : {A : Type 0} (test : A → Bool) (n : ℕ) (f : ℕ → A) → ((i : ℕ) → test (f i) ≡ true)
    → list_all test (list_of n f) ≡ true
all_of_list test zero f h = refl
all_of_list test (suc n) f h = rw (h 0) (all_of_list test n (λ i. f (suc i)) (λ i. h (suc i)))

-- the coefficients of the curves, which come first
abbrev curves_in : Product → ℕ → List (List ℤ)
curves_in product month = (piece_at product.interest month).c ∷ map (λ t. (piece_at t.rate month).c) product.transitions

-- so each month in which nothing varies for the payments of the file is one for the pattern
pub pattern_constant : (product : Product) → AreConstantMonths product (payment_plan product)
    → AreConstantMonths product (pattern_plan product)
pattern_constant product all month below =
    let plan = payment_plan product in
    let pattern = pattern_plan product in
    let curves = curves_in product month in
    let sojourns = list_of (length product.states) (λ i. (sojourn_at plan i month).c) in
    let sums = list_of (length product.transitions) (λ e. (sum_at plan e month).c) in
    let pays = list_of (length product.states) (λ i. (sojourn_at pattern i month).c) in
    let pays_sums = list_of (length product.transitions) (λ e. (sum_at pattern e month).c) in
    let whole = both_pass (list_all is_constant (curves ++ sojourns)) (list_all is_constant sums)
    (sym (list_all-append is_constant (curves ++ sojourns) sums) ∙ all month below) in
    let first = both_pass (list_all is_constant curves) (list_all is_constant sojourns)
    (sym (list_all-append is_constant curves sojourns) ∙ whole.0) in
    let second = all_of_list is_constant (length product.states) (λ i. (sojourn_at pattern i month).c)
    (λ i. pattern_sojourn product.pattern i month) in
    let third = all_of_list is_constant (length product.transitions) (λ e. (sum_at pattern e month).c)
    (λ e. pattern_sum product.pattern e month) in
    list_all-append is_constant (curves ++ pays) pays_sums
    ∙ ap₂ (λ a b. a && b) (list_all-append is_constant curves pays ∙ ap₂ (λ a b. a && b) first.0 second) third
