-- Rules 15 to 17 of a month, from the greatest and the least of its numbers.
use Rattle.std.proofs.Common.{◌≡◌, ℕ, ◌*◌, ◌^◌, ℤ, pos, neg_ℤ, ◌*ℤ◌, ◌-ℤ◌, ◌≤ℤ◌, FitsSigned, List, [], ◌∷◌}
use Rattle.std.proofs.Common.{Bool, true, false, arith, refl, ap, sym, ◌∙◌, length}
use Rattle.std.specs.Prelude.{int_le, ◌&&◌, map, slice_index_or}
use Rattle.std.specs.List.{list_all}
use Rattle.std.specs.Int.{int_max, int_min, w128}
use Rattle.std.proofs.lemmas.Int.{ints}
use Rattle.std.proofs.lemmas.List.Folds.{list_all-map}
use Rattle.whole_laws.specs.Whole.{greatest_whole, least_whole}
use Rattle.whole_laws.proofs.ListsByPlace.{map-list_of, list_of_places}
use Rattle.model_specs.specs.Product.{Product, Transition, no_transition}
use Rattle.model_specs.specs.MonthNumbers.{curve_numerators, month_unit, rho}
use Rattle.model_specs.specs.ValuationRules.{obeys_rule_15, obeys_rule_16, obeys_rule_17}
use Rattle.rate_bounds.specs.declared.curves.MonthCurves.{MonthCurves}
use Rattle.rate_bounds.specs.MonthRates.{least_of, least_rate}
use Rattle.rate_bounds.specs.declared.rules.MonthRule.{MonthRule}
use Rattle.rate_bounds.specs.declared.rules.MonthRule.TheVariants.{Interest, Intensities, Exits}
use Rattle.rate_bounds.specs.Breaks.{obeys}
use Rattle.rate_bounds.specs.MonthTables.{AreCurves}
use Rattle.rate_bounds.proofs.LeastAndGreatest.{all_by_least, all_by_greatest, list_all-both}

lowest_of_two : (unit : ℕ) (a b : ℤ) → int_le (neg_ℤ (pos unit)) (pos 50 *ℤ int_min a b)
    ≡ (int_le (neg_ℤ (pos unit)) (pos 50 *ℤ a) && int_le (neg_ℤ (pos unit)) (pos 50 *ℤ b))
lowest_of_two unit a b = grind (arith, ints)

highest_of_two : (unit : ℕ) (a b : ℤ) → int_le (pos 4 *ℤ int_max a b) (pos unit)
    ≡ (int_le (pos 4 *ℤ a) (pos unit) && int_le (pos 4 *ℤ b) (pos unit))
highest_of_two unit a b = grind (arith, ints)

zero_is_not_lower : (unit : ℕ) → int_le (neg_ℤ (pos unit)) (pos 50 *ℤ pos 0) ≡ true
zero_is_not_lower unit = grind (arith, ints)

zero_is_not_higher : (unit : ℕ) → int_le (pos 4 *ℤ pos 0) (pos unit) ≡ true
zero_is_not_higher unit = grind (arith, ints)

-- rule 15 for numbers over a unit
pub interest_by_extremes : (unit : ℕ) (xs : List ℤ)
    → list_all (λ b. int_le (neg_ℤ (pos unit)) (pos 50 *ℤ b) && int_le (pos 4 *ℤ b) (pos unit)) xs
    ≡ (int_le (neg_ℤ (pos unit)) (pos 50 *ℤ least_whole xs) && int_le (pos 4 *ℤ greatest_whole xs) (pos unit))
interest_by_extremes unit xs =
    let Low : ℤ → Bool = λ b. int_le (neg_ℤ (pos unit)) (pos 50 *ℤ b) in
    let High : ℤ → Bool = λ b. int_le (pos 4 *ℤ b) (pos unit) in
    list_all-both Low High xs
    ∙ ap (λ b. b && list_all High xs)
    (all_by_least Low xs (record { none = zero_is_not_lower unit; lesser = lowest_of_two unit }))
    ∙ ap (λ b. Low (least_whole xs) && b)
    (all_by_greatest High xs (record { none = zero_is_not_higher unit; greater = highest_of_two unit }))

natural_of_two : (a b : ℤ) → int_le (pos 0) (int_min a b) ≡ (int_le (pos 0) a && int_le (pos 0) b)
natural_of_two a b = grind (arith, ints)

natural_by_least : (xs : List ℤ) → list_all (int_le (pos 0)) xs ≡ int_le (pos 0) (least_whole xs)
natural_by_least xs = all_by_least (int_le (pos 0)) xs (record { none = refl; lesser = natural_of_two })

list_all-same : {A : Type 0} (P Q : A → Bool) (xs : List A) → ((x : A) → P x ≡ Q x) → list_all P xs ≡ list_all Q xs
list_all-same P Q [] same = refl
list_all-same P Q (x ∷ xs) same =
    ap (λ b. b && list_all P xs) (same x) ∙ ap (λ b. Q x && b) (list_all-same P Q xs same)

-- rule 16 from the least number of all intensities
pub rates_by_least : (p : Product) (month : ℕ) → obeys_rule_16 p month ≡ int_le (pos 0) (least_rate p month)
unfolding least_rate least_of
rates_by_least p month =
    let least_in : Transition → ℤ = λ t. least_whole (curve_numerators t.rate month) in
    list_all-same (λ t. list_all (int_le (pos 0)) (curve_numerators t.rate month)) (λ t. int_le (pos 0) (least_in t))
    p.transitions (λ t. natural_by_least (curve_numerators t.rate month))
    ∙ sym (list_all-map (int_le (pos 0)) least_in p.transitions)
    ∙ natural_by_least (map least_in p.transitions)
    ∙ ap (λ xs. int_le (pos 0) (least_whole xs))
    (ap (map least_in) (sym (list_of_places p.transitions no_transition))
    ∙ map-list_of least_in (length p.transitions) (λ e. slice_index_or p.transitions e no_transition))

-- rule 15 as the program answers it, from the least and the greatest number of the interest
pub rule_15_is : (product : Product) (month : ℕ) (curves : MonthCurves) → AreCurves product month curves
    → (unit : ℤ) (is_low is_high : Bool) → unit ≡ pos (month_unit product)
    → is_low ≡ int_le (neg_ℤ unit) (pos 50 *ℤ curves.low) → is_high ≡ int_le (pos 4 *ℤ curves.high) unit
    → (is_low && is_high) ≡ obeys_rule_15 product month
rule_15_is product month curves are unit is_low is_high unit_is low_answer high_answer =
    let numbers = curve_numerators product.interest month in
    ap (λ b. b && is_high) (low_answer ∙ ap (λ z. int_le (neg_ℤ z) (pos 50 *ℤ curves.low)) unit_is
    ∙ ap (λ z. int_le (neg_ℤ (pos (month_unit product))) (pos 50 *ℤ z)) are.low)
    ∙ ap (λ b. int_le (neg_ℤ (pos (month_unit product))) (pos 50 *ℤ least_whole numbers) && b)
    (high_answer ∙ ap (λ z. int_le (pos 4 *ℤ curves.high) z) unit_is
    ∙ ap (λ z. int_le (pos 4 *ℤ z) (pos (month_unit product))) are.high)
    ∙ sym (interest_by_extremes (month_unit product) numbers)

pub rule_16_is : (product : Product) (month : ℕ) (curves : MonthCurves) → AreCurves product month curves
    → int_le (pos 0) curves.least ≡ obeys_rule_16 product month
rule_16_is product month curves are = ap (int_le (pos 0)) are.least ∙ sym (rates_by_least product month)

pub rule_17_is : (product : Product) (month : ℕ) (curves : MonthCurves) → AreCurves product month curves
    → (unit : ℤ) → unit ≡ pos (month_unit product) → int_le curves.rho (pos 2 *ℤ unit) ≡ obeys_rule_17 product month
rule_17_is product month curves are unit unit_is =
    ap (λ z. int_le z (pos 2 *ℤ unit)) are.rho ∙ ap (λ u. int_le (rho product month) (pos 2 *ℤ u)) unit_is
    ∙ ap (int_le (rho product month)) (twice (month_unit product))
  where
    twice : (u : ℕ) → pos 2 *ℤ pos u ≡ pos (2 * u)
    twice u = omega (arith, ints)

pub minus_fits : (unit : ℤ) → pos 1 ≤ℤ unit → unit ≤ℤ pos (2 ^ 62) → FitsSigned w128 (pos 0 -ℤ unit)
minus_fits unit some most = omega (arith, ints)

-- a number of at least minus the unit, times 50
pub lowest_product_fits : (number unit lower : ℤ) → unit ≤ℤ pos (2 ^ 62) → int_le (pos 0 -ℤ unit) number ≡ true
    → lower ≡ int_min number (pos 0) → FitsSigned w128 (pos 50 *ℤ lower)
lowest_product_fits number unit lower most within is = rw is (grind (arith, ints))

pub above_the_lowest : (number unit lower : ℤ) → pos 1 ≤ℤ unit → int_le (pos 0 -ℤ unit) number ≡ true
    → lower ≡ int_min number (pos 0)
    → int_le (pos 0 -ℤ unit) (pos 50 *ℤ lower) ≡ int_le (neg_ℤ unit) (pos 50 *ℤ number)
above_the_lowest number unit lower some within is = rw is (grind (arith, ints))

-- the two tests one after the other
pub rule_15_by_both : (is_low is_high answer : Bool) → is_low ≡ true → (is_low && is_high) ≡ answer → is_high ≡ answer
rule_15_by_both is_low is_high answer passes is = rw passes at is

pub rule_15_by_lowest : (is_low is_high answer : Bool) → is_low ≡ false → (is_low && is_high) ≡ answer → is_low ≡ answer
rule_15_by_lowest is_low is_high answer fails is = fails ∙ rw fails at is

-- whether a rule holds, by its name
pub by_interest : (rule : MonthRule) (product : Product) (month : ℕ) (answer : Bool) → rule ≡ Interest
    → answer ≡ obeys_rule_15 product month → answer ≡ obeys rule product month
unfolding obeys
by_interest rule product month answer is h = rw is h

pub by_intensities : (rule : MonthRule) (product : Product) (month : ℕ) (answer : Bool) → rule ≡ Intensities
    → answer ≡ obeys_rule_16 product month → answer ≡ obeys rule product month
unfolding obeys
by_intensities rule product month answer is h = rw is h

pub by_exits : (rule : MonthRule) (product : Product) (month : ℕ) (answer : Bool) → rule ≡ Exits
    → answer ≡ obeys_rule_17 product month → answer ≡ obeys rule product month
unfolding obeys
by_exits rule product month answer is h = rw is h
