-- How large the numbers of a month are.
use Rattle.std.specs.Prelude.{◌≡◌, ℕ, zero, suc, ◌+◌, ◌*◌, ◌^◌, ◌<◌, ◌≤◌, ℤ, pos, negsuc, ◌*ℤ◌, ◌≤ℤ◌, neg_ℤ}
use Rattle.std.specs.Prelude.{if◌then◌else◌, Bool, true, false, not, ◌&&◌, int_le, unsigned_abs, ◌==◌}
use Rattle.std.specs.Prelude.{Option, Some, None, find, All, List, [], ◌∷◌, length, map}
use Rattle.std.specs.Prelude.{slice_index_or, refl}
use Rattle.std.specs.Int.{div_ceil}
use Rattle.std.specs.List.{list_all}
use Rattle.std.proofs.Common.{arith, sym}
use Rattle.std.proofs.lemmas.Bool.Decides.{nat_tests}
use Rattle.std.proofs.lemmas.Int.{ints}
use Rattle.std.proofs.lemmas.List.Elements.{All-map, All-filter, All-weaker}
use Rattle.std.proofs.Math.Nat.{pow-le-pow_left}
use Rattle.whole_laws.specs.Whole.{list_of, places, greatest_whole, least_whole}
use Rattle.whole_laws.specs.Whole.{greatest_natural, natural_part}
use Rattle.model_specs.specs.Product.{Product, transition_at, no_transition}
use Rattle.model_specs.specs.MonthNumbers.{curve_numerators, month_unit, greatest_rate, exits, rho, iota, nu}
use Rattle.model_specs.specs.Growth.{kappa40}
use Rattle.model_specs.specs.ValuationRules.{obeys_rule_15, obeys_rule_16, obeys_rule_17, obeys_rule_18}
use Rattle.model_specs.specs.ValuationRules.{RuleBreak, IsAdmissible}
use Rattle.model_specs.specs.ValuationRules.{first_given, broken_in_months, broken_at_last}
use Rattle.ledger_laws.specs.MonthLaws.{AdmissibleProductsObey, exit_rates}
use Rattle.ledger_laws.specs.MonthLaws.{MonthNumbersAreSmall}
use Rattle.whole_laws.proofs.Extremes.{nothing_found, within_greatest}
use Rattle.whole_laws.proofs.Extremes.{greatest_natural-has, greatest_whole_natural}
use Rattle.whole_laws.proofs.Extremes.{least_whole-has, whole_sum_natural}
use Rattle.whole_laws.proofs.Extremes.{part_of_sum}
use Rattle.whole_laws.proofs.Members.{none-of-map, each_passes}
use Rattle.whole_laws.proofs.Tests.{le_from_test, both_pass}
use Rattle.whole_laws.proofs.ListsByPlace.{length-list_of, at-list_of, All-list_of}
use Rattle.ledger_laws.proofs.Rounding.{div_ceil_most}

-- nothing is given exactly where no part gives anything
given_none : {A : Type 0} (first : Option A) (more : List (Option A)) → first_given (first ∷ more) ≡ None
    → (first ≡ None) × (first_given more ≡ None)
given_none None more h = (refl, h)
given_none (Some x) more h = absurd (some≢none x h)
  where
    some≢none : {A : Type 0} (x : A) → Some x ≡ None → ⊥
    some≢none x h = cc

not_false : (b : Bool) → not b ≡ false → b ≡ true
not_false true h = refl
not_false false h = sym h

obeys_below : (product : Product) (rule : ℕ) (obeys : ℕ → Bool) → broken_in_months product rule obeys ≡ None
    → (m : ℕ) → m < product.months → obeys m ≡ true
obeys_below product rule obeys none m below =
    not_false (obeys m) (rw (at-list_of product.months (λ i. i) m 0 below) at
    (nothing_found (λ i. not (obeys i)) (places product.months)
    (none-of-map (λ i. record { rule = rule; place = i }) (find (λ i. not (obeys i)) (places product.months)) none)
    m 0 (rw (length-list_of product.months (λ i. i)) below)))

none_broken : (a b c d : Option RuleBreak) → first_given (a ∷ b ∷ c ∷ d ∷ []) ≡ None
    → (a ≡ None) × (b ≡ None) × (c ≡ None) × (d ≡ None)
none_broken a b c d h =
    let first = given_none a (b ∷ c ∷ d ∷ []) h in
    let second = given_none b (c ∷ d ∷ []) first.1 in
    let third = given_none c (d ∷ []) second.1 in
    (first.0, second.0, third.0, (given_none d [] third.1).0)

pub admissible_obeys : AdmissibleProductsObey
admissible_obeys product admissible month below =
    let none = none_broken (broken_in_months product 15 (obeys_rule_15 product))
    (broken_in_months product 16 (obeys_rule_16 product)) (broken_in_months product 17 (obeys_rule_17 product))
    (broken_at_last product) admissible.valuation in
    record {
      interest = obeys_below product 15 (obeys_rule_15 product) none.0 month below;
      rates = obeys_below product 16 (obeys_rule_16 product) none.1 month below;
      exits = obeys_below product 17 (obeys_rule_17 product) none.2 month below;
    }

-- and rule 18, at which the last part looks
pub admissible_obeys_18 : (product : Product) → IsAdmissible product → obeys_rule_18 product ≡ true
admissible_obeys_18 product admissible =
    unbroken (obeys_rule_18 product) (record { rule = 18; place = 0 })
    (none_broken (broken_in_months product 15 (obeys_rule_15 product))
    (broken_in_months product 16 (obeys_rule_16 product)) (broken_in_months product 17 (obeys_rule_17 product))
    (broken_at_last product) admissible.valuation).3
  where
    some≢none : {A : Type 0} (x : A) → Some x ≡ None → ⊥
    some≢none x h = cc

    unbroken : (obeys : Bool) (broken : RuleBreak) → (if obeys then None else Some broken) ≡ None → obeys ≡ true
    unbroken true broken h = refl
    unbroken false broken h = absurd (some≢none broken h)

-- the sizes of numbers from -1/50 to 1/4 of a unit
size_most : (b : ℤ) (u : ℕ) → neg_ℤ (pos u) ≤ℤ (pos 50 *ℤ b) → (pos 4 *ℤ b) ≤ℤ pos u → unsigned_abs b * 4 ≤ u
size_most (pos n) u low high = omega (arith, ints)
size_most (negsuc n) u low high = omega (arith, ints)

below_zero_most : (b : ℤ) (u : ℕ) → neg_ℤ (pos u) ≤ℤ (pos 50 *ℤ b) → natural_part (neg_ℤ b) * 50 ≤ u
below_zero_most (pos zero) u low = omega arith
below_zero_most (pos (suc n)) u low = omega arith
below_zero_most (negsuc n) u low = omega (arith, ints)

abbrev IsInterest : ℕ → ℤ → Type 0
IsInterest u b = (neg_ℤ (pos u) ≤ℤ (pos 50 *ℤ b)) × ((pos 4 *ℤ b) ≤ℤ pos u)

interest_within : (xs : List ℤ) (u : ℕ)
    → list_all (λ b. int_le (neg_ℤ (pos u)) (pos 50 *ℤ b) && int_le (pos 4 *ℤ b) (pos u)) xs ≡ true
    → All (IsInterest u) xs
interest_within xs u h k d b =
    let parts = both_pass (int_le (neg_ℤ (pos u)) (pos 50 *ℤ slice_index_or xs k d))
    (int_le (pos 4 *ℤ slice_index_or xs k d) (pos u))
    (each_passes (λ b. int_le (neg_ℤ (pos u)) (pos 50 *ℤ b) && int_le (pos 4 *ℤ b) (pos u)) xs h k d b) in
    (le_from_test _ _ parts.0, le_from_test _ _ parts.1)

iota_within : (xs : List ℤ) (u : ℕ) → All (IsInterest u) xs → greatest_natural (map unsigned_abs xs) * 4 ≤ u
iota_within xs u h = greatest_natural-has (λ n. n * 4 ≤ u) (map unsigned_abs xs) (omega arith)
    (All-map (λ n. n * 4 ≤ u) unsigned_abs xs (λ k d b. size_most (slice_index_or xs k d) u (h k d b).0 (h k d b).1))

nu_within : (xs : List ℤ) (u : ℕ) → All (IsInterest u) xs → natural_part (neg_ℤ (least_whole xs)) * 50 ≤ u
nu_within xs u h = least_whole-has (λ z. natural_part (neg_ℤ z) * 50 ≤ u) xs (omega arith)
    (λ k d b. below_zero_most (slice_index_or xs k d) u (h k d b).0)

-- the greatest rate of a transition
rate_natural : (product : Product) (month e : ℕ) → obeys_rule_16 product month ≡ true
    → e < length product.transitions → pos 0 ≤ℤ greatest_rate product e month
rate_natural product month e rule below =
    natural (curve_numerators (transition_at product e).rate month)
    (each_passes (λ t. list_all (int_le (pos 0)) (curve_numerators t.rate month)) product.transitions rule
    e no_transition below)
  where
    natural : (xs : List ℤ) → list_all (int_le (pos 0)) xs ≡ true → pos 0 ≤ℤ greatest_whole xs
    natural xs h = greatest_whole_natural xs
        (λ k d b. le_from_test (pos 0) (slice_index_or xs k d) (each_passes (int_le (pos 0)) xs h k d b))

-- each exit is a transition
pub exits_below : (product : Product) (state : ℕ) → All (λ e. e < length product.transitions) (exits product state)
exits_below product state = All-filter (λ e. (transition_at product e).from == state)
    (λ e. e < length product.transitions) (places (length product.transitions))
    (All-list_of (λ e. e < length product.transitions) (length product.transitions) (λ e. e) (λ e below. below))

exits_natural : (product : Product) (month i : ℕ) → obeys_rule_16 product month ≡ true
    → pos 0 ≤ℤ exit_rates product month i
exits_natural product month i rule =
    whole_sum_natural (map (λ e. greatest_rate product e month) (exits product i))
    (All-map (λ z. pos 0 ≤ℤ z) (λ e. greatest_rate product e month) (exits product i)
    (All-weaker (λ e. e < length product.transitions) (λ e. pos 0 ≤ℤ greatest_rate product e month)
    (λ e below. rate_natural product month e rule below) (exits product i) (exits_below product i)))

-- a transition's rate is a part of what its state's exits add up to
rate_within : (product : Product) (month e : ℕ) → obeys_rule_16 product month ≡ true
    → e < length product.transitions
    → greatest_rate product e month ≤ℤ exit_rates product month (transition_at product e).from
rate_within product month e rule below =
    let all = length product.transitions in
    rw (at-list_of all (λ i. i) e 0 below) at
    (part_of_sum (λ i. greatest_rate product i month)
    (λ i. (transition_at product i).from == (transition_at product e).from) (places all) e 0
    (rw (length-list_of all (λ i. i)) below)
    (rw (at-list_of all (λ i. i) e 0 below) (same_state (transition_at product e).from))
    (All-list_of (λ i. pos 0 ≤ℤ greatest_rate product i month) all (λ i. i)
    (λ i inside. rate_natural product month i rule inside)))
  where
    same_state : (n : ℕ) → (n == n) ≡ true
    same_state n = grind (arith, nat_tests)

le_through : (a b c : ℤ) → a ≤ℤ b → b ≤ℤ c → a ≤ℤ c
le_through a b c h k = omega (arith, ints)

-- the growth of a cell at the limits
natural_part_most : (z : ℤ) (m : ℕ) → z ≤ℤ pos m → natural_part z ≤ m
natural_part_most (pos n) m h = omega (arith, ints)
natural_part_most (negsuc n) m h = omega arith

phi_most : (r i u : ℕ) → 1 ≤ u → r ≤ 2 * u → i * 4 ≤ u
    → div_ceil (2 ^ 40 * (5 * r + 6 * i)) (768 * u) ≤ 16464041302
phi_most r i u some rates interest =
    div_ceil_most (2 ^ 40 * (5 * r + 6 * i)) (768 * u) 16464041302 (omega arith) (omega arith)

square_most : (phi : ℕ) → phi ≤ 16464041302 → div_ceil (9 * phi ^ 2) (2 ^ 44) ≤ 138674177
square_most phi most =
    let square : phi ^ 2 ≤ 16464041302 ^ 2 = pow-le-pow_left most 2 in
    div_ceil_most (9 * phi ^ 2) (2 ^ 44) 138674177 (omega arith) (omega (arith, square))

nu_share_most : (n u : ℕ) → 1 ≤ u → n * 50 ≤ u → div_ceil (2 ^ 40 * n) (192 * u) ≤ 114532462
nu_share_most n u some most = div_ceil_most (2 ^ 40 * n) (192 * u) 114532462 (omega arith) (omega arith)

sum_most : (a b : ℕ) → a ≤ 138674177 → b ≤ 114532462 → a + b ≤ 253206639
sum_most a b h k = omega arith

growth_most : (r i n u : ℕ) → 1 ≤ u → r ≤ 2 * u → i * 4 ≤ u → n * 50 ≤ u
    → div_ceil (9 * div_ceil (2 ^ 40 * (5 * r + 6 * i)) (768 * u) ^ 2) (2 ^ 44) + div_ceil (2 ^ 40 * n) (192 * u)
    ≤ 253206639
growth_most r i n u some rates interest below =
    sum_most (div_ceil (9 * div_ceil (2 ^ 40 * (5 * r + 6 * i)) (768 * u) ^ 2) (2 ^ 44))
    (div_ceil (2 ^ 40 * n) (192 * u))
    (square_most (div_ceil (2 ^ 40 * (5 * r + 6 * i)) (768 * u)) (phi_most r i u some rates interest))
    (nu_share_most n u some below)

unit_most : (den : ℕ) → den ≤ 10 ^ 12 → 2488320 * den ≤ 2488320 * 10 ^ 12
unit_most den most = omega arith

unit_least : (den : ℕ) → 1 ≤ den → 2488320 ≤ 2488320 * den
unit_least den some = omega arith

pub month_numbers : MonthNumbersAreSmall
month_numbers product month well rules =
    let some : 1 ≤ month_unit product = omega (arith, unit_least product.den well.head.some_denominator) in
    let interest = interest_within (curve_numerators product.interest month) (month_unit product) rules.interest in
    let iota_most : iota product month * 4 ≤ month_unit product =
    iota_within (curve_numerators product.interest month) (month_unit product) interest in
    let nu_most : nu product month * 50 ≤ month_unit product =
    nu_within (curve_numerators product.interest month) (month_unit product) interest in
    let rho_most : rho product month ≤ℤ pos (2 * month_unit product) = le_from_test _ _ rules.exits in
    let kappa : kappa40 product month ≤ 253206639 = growth_most (natural_part (rho product month))
    (iota product month) (nu product month) (month_unit product) some
    (natural_part_most (rho product month) (2 * month_unit product) rho_most) iota_most nu_most in
    record {
      some_unit = unit_least product.den well.head.some_denominator;
      unit_most = unit_most product.den well.head.largest_denominator;
      rates_most = λ e below. le_through (greatest_rate product e month)
          (exit_rates product month (transition_at product e).from) (pos (2 * month_unit product))
          (rate_within product month e rules.rates below)
          (le_through (exit_rates product month (transition_at product e).from) (rho product month)
          (pos (2 * month_unit product))
          (within_greatest (length product.states) (exit_rates product month) (transition_at product e).from
          (well.transitions.from e no_transition below)) rho_most);
      rates_natural = λ e below. rate_natural product month e rules.rates below;
      exits_natural = λ i. exits_natural product month i rules.rates;
      exits_most = λ i below. le_through (exit_rates product month i) (rho product month)
          (pos (2 * month_unit product))
          (within_greatest (length product.states) (exit_rates product month) i below) rho_most;
      rho_natural = greatest_whole_natural (list_of (length product.states) (exit_rates product month))
          (All-list_of (λ z. pos 0 ≤ℤ z) (length product.states) (exit_rates product month)
          (λ i below. exits_natural product month i rules.rates));
      rho_most = rho_most;
      iota_most = iota_most;
      nu_most = nu_most;
      kappa_most = kappa;
      kappa_below = below_power (kappa40 product month) kappa;
    }
  where
    below_power : (k : ℕ) → k ≤ 253206639 → k ≤ 2 ^ 28
    below_power k h = omega arith
