-- Rules 3 to 14 of a product that is given, by tests that compute.
use Rattle.std.specs.Prelude.{◌≡◌, ◌≢◌, ℕ, suc, ◌*◌, ◌+◌, ◌^◌, ◌<◌, ◌≤◌, Bool, true, not, ◌==◌, nat_le, List, [], ◌∷◌}
use Rattle.std.specs.Prelude.{unsigned_abs, map, length, if◌then◌else◌}
use Rattle.std.specs.List.{list_all}
use Rattle.std.proofs.Common.{lit<}
use Rattle.std.proofs.lemmas.Bool.{leb-true, le-leb}
use Rattle.model_specs.specs.Names.{IsGoodName}
use Rattle.model_specs.specs.Product.{Product}
use Rattle.model_specs.specs.RecordRules.{HasGoodNames, HasGoodHead, HasGoodTransitions, HasGoodCurves}
use Rattle.model_specs.specs.RecordRules.{HasGoodPayments, HasGoodLumps}
use Rattle.model_specs.specs.RecordRules.{IsCurve, IsBoundedCurve, IsPayment, IsBoundedPayment}
use Rattle.cover_product.proofs.DecidedRules.{all_by, numbers_differ, distinct_by, all_true, all_pass}
use Rattle.cover_product.proofs.DecidedRules.{is_good_name, good_name, is_curve, curve_by, curve_is_bounded}
use Rattle.cover_product.proofs.DecidedRules.{bounded_curve, is_payment, payment_by, is_bounded_payment}
use Rattle.cover_product.proofs.DecidedRules.{bounded_payment}
use Rattle.whole_laws.proofs.Tests.{other_numbers}

-- names, whose distinct states are told apart by a number of their names
abbrev pub tests_names : (List ℕ → ℕ) → Product → List Bool
tests_names number product = all_true (is_good_name 40 product.name) ∷ nat_le 1 (length product.states)
    ∷ nat_le (length product.states) 12 ∷ list_all (λ s. all_true (is_good_name 24 s)) product.states
    ∷ numbers_differ number [] product.states ∷ []

pub names_by : (number : List ℕ → ℕ) (product : Product) → all_true (tests_names number product) ≡ true
    → HasGoodNames product
names_by number product h =
    let test = all_pass (tests_names number product) h in
    record {
      name = good_name 40 product.name (test 0 true (lit< tt));
      some_state = leb-true 1 (length product.states) (test 1 true (lit< tt));
      at_most_twelve = leb-true (length product.states) 12 (test 2 true (lit< tt));
      states = all_by (λ s. all_true (is_good_name 24 s)) (IsGoodName 24) product.states (λ s g. good_name 24 s g)
          (test 3 true (lit< tt));
      distinct = distinct_by number [] product.states (test 4 true (lit< tt));
    }

-- term, denominator and start
abbrev pub tests_head : Product → List Bool
tests_head product = nat_le 1 product.months ∷ nat_le product.months 1200 ∷ nat_le 1 product.den
    ∷ nat_le product.den (10 ^ 12) ∷ nat_le (suc product.start) (length product.states) ∷ []

pub head_by : (product : Product) → all_true (tests_head product) ≡ true → HasGoodHead product
head_by product h =
    let test = all_pass (tests_head product) h in
    record {
      some_month = leb-true 1 product.months (test 0 true (lit< tt));
      at_most_a_century = leb-true product.months 1200 (test 1 true (lit< tt));
      some_denominator = leb-true 1 product.den (test 2 true (lit< tt));
      largest_denominator = leb-true product.den (10 ^ 12) (test 3 true (lit< tt));
      start = leb-true (suc product.start) (length product.states) (test 4 true (lit< tt));
    }

-- two places as one number
abbrev pub number_of : ℕ × ℕ → ℕ
number_of pair = 12 * pair.0 + pair.1

-- transitions
abbrev pub tests_transitions : Product → List Bool
tests_transitions product = list_all (λ t. nat_le (suc t.from) (length product.states)) product.transitions
    ∷ list_all (λ t. nat_le (suc t.to) (length product.states)) product.transitions
    ∷ list_all (λ t. not (t.from == t.to)) product.transitions
    ∷ numbers_differ number_of (0, 0) (map (λ t. (t.from, t.to)) product.transitions) ∷ []

pub transitions_by : (product : Product) → all_true (tests_transitions product) ≡ true → HasGoodTransitions product
transitions_by product h =
    let test = all_pass (tests_transitions product) h in
    let states = length product.states in
    record {
      from = all_by (λ t. nat_le (suc t.from) states) (λ t. t.from < states) product.transitions
          (λ t g. leb-true (suc t.from) states g) (test 0 true (lit< tt));
      to = all_by (λ t. nat_le (suc t.to) states) (λ t. t.to < states) product.transitions
          (λ t g. leb-true (suc t.to) states g) (test 1 true (lit< tt));
      different = all_by (λ t. not (t.from == t.to)) (λ t. t.from ≢ t.to) product.transitions
          (λ t g. other_numbers t.from t.to g) (test 2 true (lit< tt));
      distinct = distinct_by number_of (0, 0) (map (λ t. (t.from, t.to)) product.transitions) (test 3 true (lit< tt));
    }

-- curves
abbrev pub tests_curves : Product → List Bool
tests_curves product = all_true (is_curve product.months product.interest)
    ∷ list_all (λ t. all_true (is_curve product.months t.rate)) product.transitions
    ∷ curve_is_bounded product.months product.interest
    ∷ list_all (λ t. curve_is_bounded product.months t.rate) product.transitions ∷ []

pub curves_by : (product : Product) → all_true (tests_curves product) ≡ true → HasGoodCurves product
curves_by product h =
    let test = all_pass (tests_curves product) h in
    let months = product.months in
    record {
      interest = curve_by months product.interest (test 0 true (lit< tt));
      rates = all_by (λ t. all_true (is_curve months t.rate)) (λ t. IsCurve months t.rate) product.transitions
          (λ t g. curve_by months t.rate g) (test 1 true (lit< tt));
      bounded_interest = bounded_curve months product.interest (test 2 true (lit< tt));
      bounded_rates = all_by (λ t. curve_is_bounded months t.rate) (λ t. IsBoundedCurve months t.rate)
          product.transitions (λ t g. bounded_curve months t.rate g) (test 3 true (lit< tt));
    }

-- payments
abbrev pub tests_payments : Product → List Bool
tests_payments product = list_all (λ s. nat_le (suc s.state) (length product.states)) product.sojourns
    ∷ numbers_differ (λ i. i) 0 (map (λ s. s.state) product.sojourns)
    ∷ list_all (λ s. all_true (is_payment product.months s.steps)) product.sojourns
    ∷ list_all (λ t. if nat_le 1 (length t.sum) then all_true (is_payment product.months t.sum) else true)
    product.transitions
    ∷ list_all (λ s. all_true (is_bounded_payment product.months s.steps)) product.sojourns
    ∷ list_all (λ t. all_true (is_bounded_payment product.months t.sum)) product.transitions ∷ []

pub payments_by : (product : Product) → all_true (tests_payments product) ≡ true → HasGoodPayments product
payments_by product h =
    let test = all_pass (tests_payments product) h in
    let states = length product.states in
    let months = product.months in
    record {
      states = all_by (λ s. nat_le (suc s.state) states) (λ s. s.state < states) product.sojourns
          (λ s g. leb-true (suc s.state) states g) (test 0 true (lit< tt));
      distinct = distinct_by (λ i. i) 0 (map (λ s. s.state) product.sojourns) (test 1 true (lit< tt));
      sojourns = all_by (λ s. all_true (is_payment months s.steps)) (λ s. IsPayment months s.steps) product.sojourns
          (λ s g. payment_by months s.steps g) (test 2 true (lit< tt));
      sums = all_by (λ t. if nat_le 1 (length t.sum) then all_true (is_payment months t.sum) else true)
          (λ t. 1 ≤ length t.sum → IsPayment months t.sum) product.transitions
          (λ t g some. payment_by months t.sum (rw (le-leb 1 (length t.sum) some) at g)) (test 3 true (lit< tt));
      bounded_sojourns = all_by (λ s. all_true (is_bounded_payment months s.steps))
          (λ s. IsBoundedPayment months s.steps) product.sojourns (λ s g. bounded_payment months s.steps g)
          (test 4 true (lit< tt));
      bounded_sums = all_by (λ t. all_true (is_bounded_payment months t.sum)) (λ t. IsBoundedPayment months t.sum)
          product.transitions (λ t g. bounded_payment months t.sum g) (test 5 true (lit< tt));
    }

-- lumps
abbrev pub tests_lumps : Product → List Bool
tests_lumps product = list_all (λ l. nat_le l.month product.months) product.lumps
    ∷ list_all (λ l. nat_le (suc l.state) (length product.states)) product.lumps
    ∷ list_all (λ l. nat_le (unsigned_abs l.amount) (10 ^ 12)) product.lumps
    ∷ numbers_differ number_of (0, 0) (map (λ l. (l.month, l.state)) product.lumps) ∷ []

pub lumps_by : (product : Product) → all_true (tests_lumps product) ≡ true → HasGoodLumps product
lumps_by product h =
    let test = all_pass (tests_lumps product) h in
    let states = length product.states in
    record {
      dates = all_by (λ l. nat_le l.month product.months) (λ l. l.month ≤ product.months) product.lumps
          (λ l g. leb-true l.month product.months g) (test 0 true (lit< tt));
      states = all_by (λ l. nat_le (suc l.state) states) (λ l. l.state < states) product.lumps
          (λ l g. leb-true (suc l.state) states g) (test 1 true (lit< tt));
      amounts = all_by (λ l. nat_le (unsigned_abs l.amount) (10 ^ 12)) (λ l. unsigned_abs l.amount ≤ 10 ^ 12)
          product.lumps (λ l g. leb-true (unsigned_abs l.amount) (10 ^ 12) g) (test 2 true (lit< tt));
      distinct = distinct_by number_of (0, 0) (map (λ l. (l.month, l.state)) product.lumps) (test 3 true (lit< tt));
    }
