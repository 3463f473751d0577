-- The loads and the pay of a product's payments and of its premium pattern.
use Rattle.std.specs.Prelude.{◌≡◌, ℕ, ◌+◌, ◌*◌, ◌^◌, ◌<◌, ◌≤◌, ℤ, pos, negsuc, ◌+ℤ◌, ◌≤ℤ◌}
use Rattle.std.specs.Prelude.{true, false, ◌==◌, ◌&&◌, nat_le, if◌then◌else◌, unsigned_abs, find, option_map}
use Rattle.std.specs.Prelude.{All, List, [], ◌∷◌, length, map, sum, slice_index_or}
use Rattle.std.specs.Int.{div_ceil}
use Rattle.std.proofs.Common.{arith}
use Rattle.std.proofs.lemmas.Int.{ints}
use Rattle.std.proofs.lemmas.Nat.{mul-le}
use Rattle.std.proofs.lemmas.List.Elements.{All-nil, All-cons, All-head, All-tail, All-map, All-weaker}
use Rattle.std.proofs.lemmas.List.Sums.{sum_by-cons}
use Rattle.std.proofs.Math.Nat.{mul-le-mul_right}
use Rattle.whole_laws.specs.Whole.{list_of, places, whole_sum, greatest_natural, natural_part}
use Rattle.model_specs.specs.Product.{Product, Step, Transition, Sojourn, Lump, PremiumPattern}
use Rattle.model_specs.specs.Payments.{Plan, payment_plan, pattern_plan, constant_step, step_at, sojourn_at, sum_at}
use Rattle.model_specs.specs.Payments.{continuous_pattern, dated_pattern, pattern_dates, lumps_at}
use Rattle.model_specs.specs.MonthNumbers.{month_unit, greatest_rate, exits}
use Rattle.model_specs.specs.Growth.{load, state_pay, sum_size, greatest_sum}
use Rattle.model_specs.specs.Ledgers.{greatest_lump}
use Rattle.model_specs.specs.RecordRules.{IsWellFormed, IsPayment, IsBoundedPayment}
use Rattle.ledger_laws.specs.MonthLaws.{HasSmallNumbers, exit_rates}
use Rattle.ledger_laws.specs.PaymentLaws.{HasLoadsWithin, HasPayWithin, PaymentLoadsAreSmall}
use Rattle.ledger_laws.specs.PaymentLaws.{PatternLoadsAreSmall, PaymentsPayLittle, PatternPaysLittle}
use Rattle.whole_laws.proofs.Extremes.{greatest_natural_most, whole_sum_natural}
use Rattle.whole_laws.proofs.Found.{last-has, place-has, found-has, given-has, filter_map-has}
use Rattle.whole_laws.proofs.Found.{flat_map-has}
use Rattle.whole_laws.proofs.ListsByPlace.{All-list_of}
use Rattle.ledger_laws.proofs.Loads.{load_zero, load_one, load_of_payment, load_of_none}
use Rattle.ledger_laws.proofs.MonthFacts.{exits_below, month_numbers}
use Rattle.ledger_laws.proofs.Rounding.{div_ceil_most}

-- the greatest lump of a date
pub lump_most : (product : Product) (plan : Plan) (date most : ℕ) → All (λ l. unsigned_abs l.amount ≤ most) plan.lumps
    → greatest_lump product plan date ≤ most
lump_most product plan date most all =
    greatest_natural_most (map (λ l. unsigned_abs l.1) (lumps_at (length product.states) plan date)) most
    (All-map (λ n. n ≤ most) (λ (l : ℕ × ℤ). unsigned_abs l.1) (lumps_at (length product.states) plan date)
    (filter_map-has (λ (l : ℕ × ℤ). unsigned_abs l.1 ≤ most)
    (λ i. option_map (λ l. (i, l.amount)) (find (λ l. (l.month == date) && (l.state == i)) plan.lumps))
    (places (length product.states))
    (λ i. given-has (λ (l : ℕ × ℤ). unsigned_abs l.1 ≤ most) (λ l. (i, l.amount))
    (λ l. (l.month == date) && (l.state == i)) plan.lumps all)))

-- the payments of a product
module _ (product : Product) (well : IsWellFormed product) where
  sojourn_steps : (s : Sojourn) (m : ℕ) → m < product.months → IsPayment product.months s.steps
      → IsBoundedPayment product.months s.steps → load (step_at s.steps m) m ≤ 9 * 10 ^ 12
  sojourn_steps s m below payment bounded = load_of_payment product.months m s.steps below payment bounded

  sojourn_load : (i m : ℕ) → m < product.months → load (sojourn_at (payment_plan product) i m) m ≤ 9 * 10 ^ 12
  sojourn_load i m below =
      found-has (λ steps. load (step_at steps m) m ≤ 9 * 10 ^ 12) (λ s. s.steps) (λ s. s.state == i)
      product.sojourns [] (load_of_none m)
      (λ k d b. sojourn_steps (slice_index_or product.sojourns k d) m below (well.payments.sojourns k d b)
      (well.payments.bounded_sojourns k d b))

  sum_steps : (steps : List Step) (m : ℕ) → m < product.months
      → (1 ≤ length steps → IsPayment product.months steps) → IsBoundedPayment product.months steps
      → load (step_at steps m) m ≤ 9 * 10 ^ 12
  sum_steps [] m below payment bounded = load_of_none m
  sum_steps (s ∷ steps) m below payment bounded =
      load_of_payment product.months m (s ∷ steps) below (payment (omega arith)) bounded

  sum_load : (e m : ℕ) → m < product.months → load (sum_at (payment_plan product) e m) m ≤ 9 * 10 ^ 12
  sum_load e m below =
      place-has (λ steps. load (step_at steps m) m ≤ 9 * 10 ^ 12) (map (λ t. t.sum) product.transitions) e []
      (load_of_none m)
      (All-map (λ steps. load (step_at steps m) m ≤ 9 * 10 ^ 12) (λ (t : Transition). t.sum) product.transitions
      (λ k d b. sum_steps (slice_index_or product.transitions k d).sum m below (well.payments.sums k d b)
      (well.payments.bounded_sums k d b)))

  sum_size_most : (steps : List Step) → (1 ≤ length steps → IsPayment product.months steps)
      → IsBoundedPayment product.months steps → sum_size product.months steps ≤ 9 * 10 ^ 12
  sum_size_most [] payment bounded = omega arith
  sum_size_most (s ∷ steps) payment bounded =
      greatest_natural_most (list_of product.months (λ m. load (step_at (s ∷ steps) m) m)) (9 * 10 ^ 12)
      (All-list_of (λ n. n ≤ 9 * 10 ^ 12) product.months (λ m. load (step_at (s ∷ steps) m) m)
      (λ m below. sum_steps (s ∷ steps) m below payment bounded))

  greatest_sum_most : greatest_sum product (payment_plan product) ≤ 9 * 10 ^ 12
  greatest_sum_most =
      greatest_natural_most (map (sum_size product.months) (map (λ t. t.sum) product.transitions)) (9 * 10 ^ 12)
      (All-map (λ n. n ≤ 9 * 10 ^ 12) (sum_size product.months) (map (λ t. t.sum) product.transitions)
      (All-map (λ steps. sum_size product.months steps ≤ 9 * 10 ^ 12) (λ (t : Transition). t.sum) product.transitions
      (λ k d b. sum_size_most (slice_index_or product.transitions k d).sum (well.payments.sums k d b)
      (well.payments.bounded_sums k d b))))

pub payment_loads : PaymentLoadsAreSmall
payment_loads product well = record {
  sojourns = sojourn_load product well;
  sums = sum_load product well;
  greatest_sum = greatest_sum_most product well;
  lumps = λ date. lump_most product (payment_plan product) date (10 ^ 12) well.lumps.amounts;
}

-- the steps of the pattern pay 0 or 1
abbrev PaysOneAtMost : ℕ → Step → Type 0
PaysOneAtMost month step = load step month ≤ 1

pattern_step : (until month : ℕ)
    → load (step_at (constant_step 0 (pos 1) ∷ constant_step until (pos 0) ∷ []) month) month ≤ 1
pattern_step until month = last-has (PaysOneAtMost month) (λ s. nat_le s.from month)
    (constant_step 0 (pos 1) ∷ constant_step until (pos 0) ∷ []) (constant_step 0 (pos 0))
    (omega (arith, load_zero 0 month))
    (All-cons (PaysOneAtMost month) (constant_step 0 (pos 1)) (constant_step until (pos 0) ∷ [])
    (omega (arith, load_one 0 month))
    (All-cons (PaysOneAtMost month) (constant_step until (pos 0)) [] (omega (arith, load_zero until month))
    (All-nil (PaysOneAtMost month))))

pub no_step_pays : (month most : ℕ) → load (step_at [] month) month ≤ most
no_step_pays month most = omega (arith, load_zero 0 month)

continuous_loads : (product : Product) (pattern : PremiumPattern)
    → HasLoadsWithin product (continuous_pattern pattern) 1 0 1
continuous_loads product pattern = record {
  sojourns = λ i m below. found-has (λ steps. load (step_at steps m) m ≤ 1) (λ (s : Sojourn). s.steps)
      (λ s. s.state == i) (continuous_pattern pattern).sojourns [] (no_step_pays m 1)
      (All-map (λ (s : Sojourn). load (step_at s.steps m) m ≤ 1)
      (λ i. record { state = i; steps = constant_step 0 (pos 1) ∷ constant_step pattern.until (pos 0) ∷ [] })
      pattern.payers (λ k d b. pattern_step pattern.until m));
  sums = λ e m below. no_step_pays m 0;
  greatest_sum = omega arith;
  lumps = λ date. lump_most product (continuous_pattern pattern) date 1
      (All-nil (λ (l : Lump). unsigned_abs l.amount ≤ 1));
}

dated_loads : (product : Product) (pattern : PremiumPattern) → HasLoadsWithin product (dated_pattern pattern) 1 0 1
dated_loads product pattern = record {
  sojourns = λ i m below. no_step_pays m 1;
  sums = λ e m below. no_step_pays m 0;
  greatest_sum = omega arith;
  lumps = λ date. lump_most product (dated_pattern pattern) date 1
      (flat_map-has (λ (l : Lump). unsigned_abs l.amount ≤ 1)
      (λ d. map (λ i. record { month = d; state = i; amount = pos 1 }) pattern.payers) (pattern_dates pattern)
      (λ d. All-map (λ (l : Lump). unsigned_abs l.amount ≤ 1)
      (λ i. record { month = d; state = i; amount = pos 1 }) pattern.payers
      (λ k e b. omega arith)));
}

pub pattern_loads : PatternLoadsAreSmall
pattern_loads product = elim (product.pattern.every == 0) as (λ b. HasLoadsWithin product
    (if b then continuous_pattern product.pattern else dated_pattern product.pattern) 1 0 1) [
      | true ↦ continuous_loads product product.pattern
      | false ↦ dated_loads product product.pattern
    ]

-- rates times loads add up to at most the rates' sum times the greatest load
rates_times_loads : (es : List ℕ) (rate : ℕ → ℤ) (loads : ℕ → ℕ) (most : ℕ) → All (λ e. pos 0 ≤ℤ rate e) es
    → ((e : ℕ) → loads e ≤ most)
    → sum (map (λ e. natural_part (rate e) * loads e) es) ≤ natural_part (whole_sum (map rate es)) * most
rates_times_loads [] rate loads most natural within = omega arith
rates_times_loads (e ∷ es) rate loads most natural within =
    one_more (rate e) (whole_sum (map rate es)) (loads e) (sum (map (λ e. natural_part (rate e) * loads e) es)) most
    (sum (map (λ e. natural_part (rate e) * loads e) (e ∷ es)))
    (All-head (λ e. pos 0 ≤ℤ rate e) e es natural)
    (whole_sum_natural (map rate es) (All-map (λ z. pos 0 ≤ℤ z) rate es (All-tail (λ e. pos 0 ≤ℤ rate e) e es natural)))
    (within e)
    (rates_times_loads es rate loads most (All-tail (λ e. pos 0 ≤ℤ rate e) e es natural) within)
    (sum_by-cons (λ x. x) (natural_part (rate e) * loads e) (map (λ e. natural_part (rate e) * loads e) es))
  where
    one_more : (a b : ℤ) (load rest most total : ℕ) → pos 0 ≤ℤ a → pos 0 ≤ℤ b → load ≤ most
        → rest ≤ natural_part b * most → total ≡ natural_part a * load + rest
        → total ≤ natural_part (a +ℤ b) * most
    one_more (pos a) (pos b) load rest most total h k within more is =
        let first : a * load ≤ a * most = mul-le a load a most (omega arith) within in
        let both : (a + b) * most ≡ a * most + b * most = omega arith in
        omega (arith, first, both, more, is)
    one_more (negsuc a) b load rest most total h k within more is = absurd (omega (arith, ints))
    one_more (pos a) (negsuc b) load rest most total h k within more is = absurd (omega (arith, ints))

natural_most : (z : ℤ) (m : ℕ) → z ≤ℤ pos m → natural_part z ≤ m
natural_most (pos n) m h = omega (arith, ints)
natural_most (negsuc n) m h = omega arith

-- what a state pays
pub state_most : (product : Product) (plan : Plan) (month i rate sum : ℕ) → HasSmallNumbers product month
    → load (sojourn_at plan i month) month ≤ rate → ((e : ℕ) → load (sum_at plan e month) month ≤ sum)
    → i < length product.states → state_pay product plan month i ≤ (rate + 2 * sum) * month_unit product
state_most product plan month i rate sum small sojourn sums below =
    total (load (sojourn_at plan i month) month) (month_unit product) (natural_part (exit_rates product month i))
    rate sum _
    sojourn
    (natural_most (exit_rates product month i) (2 * month_unit product) (small.exits_most i below))
    (rates_times_loads (exits product i) (λ e. greatest_rate product e month)
    (λ e. load (sum_at plan e month) month) sum
    (All-weaker (λ e. e < length product.transitions) (λ e. pos 0 ≤ℤ greatest_rate product e month)
    small.rates_natural (exits product i) (exits_below product i)) sums)
  where
    total : (load unit rates rate sum paid : ℕ) → load ≤ rate → rates ≤ 2 * unit → paid ≤ rates * sum
        → load * unit + paid ≤ (rate + 2 * sum) * unit
    total load unit rates rate sum paid h k p =
        let first : load * unit ≤ rate * unit = mul-le load unit rate unit h (omega arith) in
        let second : rates * sum ≤ 2 * unit * sum = mul-le rates sum (2 * unit) sum k (omega arith) in
        let both : (rate + 2 * sum) * unit ≡ rate * unit + 2 * unit * sum = grind arith in
        omega (arith, first, second, both, p)

cell_most : (greatest unit state cell : ℕ) → 1 ≤ unit → greatest ≤ state * unit → 16 * state ≤ 3 * cell
    → div_ceil (1024 * greatest) (192 * unit) ≤ cell
cell_most greatest unit state cell some within enough =
    let shares : 16 * state * unit ≤ 3 * cell * unit = mul-le-mul_right unit enough in
    let left : 16 * state * unit ≡ 16 * (state * unit) = grind arith in
    let right : 3 * cell * unit ≡ 3 * (cell * unit) = grind arith in
    let whole : cell * (192 * unit) ≡ 192 * (cell * unit) = grind arith in
    div_ceil_most (1024 * greatest) (192 * unit) cell (omega arith)
    (omega (arith, shares, left, right, whole, within))

pub pay_within : (product : Product) (plan : Plan) (month rate sum lump cell : ℕ) → HasSmallNumbers product month
    → month < product.months → HasLoadsWithin product plan rate sum lump → 16 * (rate + 2 * sum) ≤ 3 * cell
    → HasPayWithin product plan month (rate + 2 * sum) cell
pay_within product plan month rate sum lump cell small below loads enough = record {
  states = states;
  cells = cell_most (greatest_natural (list_of (length product.states) (state_pay product plan month)))
      (month_unit product) (rate + 2 * sum) cell (omega (arith, small.some_unit))
      (greatest_natural_most (list_of (length product.states) (state_pay product plan month))
      ((rate + 2 * sum) * month_unit product)
      (All-list_of (λ n. n ≤ (rate + 2 * sum) * month_unit product) (length product.states)
      (state_pay product plan month) states))
      enough;
}
  where
    states : (i : ℕ) → i < length product.states
        → state_pay product plan month i ≤ (rate + 2 * sum) * month_unit product
    states i inside = state_most product plan month i rate sum small (loads.sojourns i month below)
        (λ e. loads.sums e month below) inside

pub payments_pay : PaymentsPayLittle
payments_pay product month well rules below =
    pay_within product (payment_plan product) month (9 * 10 ^ 12) (9 * 10 ^ 12) (10 ^ 12) (144 * 10 ^ 12)
    (month_numbers product month well rules) below (payment_loads product well) (omega arith)

pub pattern_pays : PatternPaysLittle
pattern_pays product month well rules below =
    pay_within product (pattern_plan product) month 1 0 1 6
    (month_numbers product month well rules) below (pattern_loads product) (omega arith)
