-- The payments of a plan in a cell of a product.
use Rattle.std.specs.Prelude.{◌≡◌, ℕ, zero, suc, pos, negsuc, ◌+◌, ◌-◌, ◌*◌, ◌^◌, ◌<◌, ◌≤◌, ℤ, ◌≤ℤ◌, ◌-ℤ◌}
use Rattle.std.specs.Prelude.{unsigned_abs, ◌==◌, nat_le, Option, Some, None, option_map, unwrap_or, sum}
use Rattle.std.specs.Prelude.{find, map, List, [], ◌∷◌, length, slice_index_or}
use Rattle.std.proofs.Common.{refl, ap, sym, ◌∙◌, arith, lit≤, pow_pos}
use Rattle.std.proofs.lemmas.Int.{ints}
use Rattle.std.proofs.lemmas.Grind.{div_ceil_times}
use Rattle.std.proofs.lemmas.List.Sums.{sum_by-cons}
use Rattle.std.proofs.Math.IntN.{pos-*ℤ-pos}
use mathlib.Core.Path.{ap₂}
use Rattle.product_cells.specs.MonthFractions as fractions
use Rattle.frac_laws.specs.Fraction.{Fraction, over, whole, size, ◌+ℚ◌, ◌*ℚ◌, ◌≤ℚ◌}
use Rattle.frac_laws.specs.Sums.{sum_to, sum_of_list}
use Rattle.frac_laws.specs.Lists.{number_at}
use Rattle.frac_laws.proofs.FractionTerms.{ring, terms}
use Rattle.frac_laws.proofs.Linear.{linear, claims, natural, ◌⊞◌, ◌⊠◌, ◌·◌}
use Rattle.frac_laws.proofs.Order.{le_trans, le_of_equal}
use Rattle.frac_laws.proofs.Norms.{size_zero}
use Rattle.frac_laws.proofs.Quotients.{over_add, over_mul, over_scale, whole_add, whole_mul, whole_le, inverse}
use Rattle.frac_laws.proofs.Sums.{sum_to_ext}
use Rattle.frac_laws.proofs.LedgerFacts.{rounded_up_le}
use Rattle.frac_laws.proofs.QuotientFacts.{over-zero}
use Rattle.whole_laws.specs.Whole.{list_of, places, greatest_whole, least_whole, greatest_natural, natural_part}
use Rattle.model_specs.specs.Product.{Product, Step, transition_at}
use Rattle.model_specs.specs.Payments.{Plan, step_at, sojourn_at, sum_at, constant_step}
use Rattle.model_specs.specs.MonthNumbers.{bernstein_numerator, month_unit, greatest_rate, exits}
use Rattle.model_specs.specs.Growth.{load, state_pay, pay, sum_size, greatest_sum, kappa40}
use Rattle.model_specs.specs.Ledgers.{scale}
use Rattle.model_specs.specs.RecordRules.{IsWellFormed}
use Rattle.model_specs.specs.Cells.{Direction, Forward, cells_of_32, amount_cell, transition_between}
use Rattle.ledger_laws.specs.MonthLaws.{ObeysMonthRules}
use Rattle.whole_laws.proofs.Extremes.{greatest_natural_least, greatest_whole_most, least_whole_least}
use Rattle.whole_laws.proofs.Extremes.{within_greatest}
use Rattle.whole_laws.proofs.Found.{last-has, place-has, found-has}
use Rattle.whole_laws.proofs.ListsByPlace.{length-list_of, at-list_of, All-list_of}
use Rattle.ledger_laws.proofs.Loads.{load_zero}
use Rattle.ledger_laws.proofs.BoundFacts.{scale_bounds_parts, scale_bounds_ledger, cells_add, never_falls_by_months}
use Rattle.ledger_laws.proofs.Rounding.{rises_far}
use Rattle.ledger_laws.specs.BoundLaws.{bound_with_lumps, bound_inside}
use Rattle.model_specs.specs.Ledgers.{bound_before_term, greatest_lump}
use Rattle.std.proofs.lemmas.List.Elements.{All-nil}
use Rattle.cell_bounds.specs.CellBounds.{load_bound, HasSmallPayments, HasSmallSums, first_bound, later_bound}
use Rattle.cell_bounds.specs.ScaledSystems.{scaling}
use Rattle.product_cells.proofs.CurveCells.{over_mono, payment_small, per_cell-at, size-of_cell}
use Rattle.product_cells.proofs.CurveCells.{payment_parts, size_covered, spread_covered}
use Rattle.product_cells.proofs.FoundTransitions.{found_natural, found_has, found_total}
use Rattle.product_cells.specs.MonthFractions.{found_value, rate_of, rates_of, rate_loads, sum_loads, size_of_step}
use Rattle.product_cells.specs.MonthFractions.{spread_of_step, sum_sizes, sum_spreads, most_paid_of}
use Rattle.model_laws.proofs.PlanSteps.{HasFour, HasFourEach}
use Rattle.product_cells.proofs.ProductCurves.{above_least, within_sizes, within_natural_part}
use Rattle.product_cells.proofs.ProductCurves.{over_product, some_unit, cell_here}

-- a payment of four coefficients in a cell, by its load
module _ (step : Step) (month : ℕ) (four : length step.c ≡ 4) where
  abbrev number : ℕ → ℤ
  number = bernstein_numerator step.c (month - step.from)

  abbrev most : ℕ
  most = size_of_step step month

  abbrev spread : ℕ
  spread = spread_of_step step month

  sizes : (j : ℕ) → j ≤ 5 → unsigned_abs (number j) ≤ most
  sizes j d = within_sizes 6 number j (omega (arith, d))

  apart : (i j : ℕ) → i ≤ 5 → j ≤ 5 → (number i -ℤ number j) ≤ℤ pos spread
  apart i j b d = within_natural_part _ _ (between (number i) (number j) (greatest_whole (list_of 6 number))
      (least_whole (list_of 6 number)) (within_greatest 6 number i (omega (arith, b)))
      (above_least 6 number j (omega (arith, d))))
    where
      between : (x y g l : ℤ) → x ≤ℤ g → l ≤ℤ y → (x -ℤ y) ≤ℤ (g -ℤ l)
      between x y g l h k = omega (arith, ints, h, k)

  spread_most : spread ≤ 2 * most
  spread_most = part _ most (gap (greatest_whole (list_of 6 number)) (least_whole (list_of 6 number)) most
      (greatest_whole_most (list_of 6 number) (pos most) (omega (arith, ints))
      (All-list_of (λ z. z ≤ℤ pos most) 6 number (λ j b. high (number j) most (sizes j (omega (arith, b))))))
      (least_whole_least (list_of 6 number) (pos 0 -ℤ pos most) (omega (arith, ints))
      (All-list_of (λ z. (pos 0 -ℤ pos most) ≤ℤ z) 6 number (λ j b. low (number j) most (sizes j (omega (arith, b)))))))
    where
      high : (z : ℤ) (n : ℕ) → unsigned_abs z ≤ n → z ≤ℤ pos n
      high (pos z) n h = omega (arith, ints, h)
      high (negsuc z) n h = omega (arith, ints, h)

      low : (z : ℤ) (n : ℕ) → unsigned_abs z ≤ n → (pos 0 -ℤ pos n) ≤ℤ z
      low (pos z) n h = omega (arith, ints, h)
      low (negsuc z) n h = omega (arith, ints, h)

      gap : (g l : ℤ) (m : ℕ) → g ≤ℤ pos m → (pos 0 -ℤ pos m) ≤ℤ l → (g -ℤ l) ≤ℤ pos (2 * m)
      gap g l m h k = omega (arith, ints, h, k)

      part : (z : ℤ) (m : ℕ) → z ≤ℤ pos (2 * m) → natural_part z ≤ 2 * m
      part (pos n) m h = omega (arith, ints, h)
      part (negsuc n) m h = omega arith

  covered : most + 4 * spread ≤ 2488320 * load step month
  covered = turned (most + 4 * spread) (load step month) (div_ceil_times (most + 4 * spread) 2488320 (lit≤ tt)).0
    where
      turned : (n q : ℕ) → n ≤ q * 2488320 → n ≤ 2488320 * q
      turned n q h = omega (arith, h)

  pub amount_small : (direction : Direction) (cell : ℕ) → cell < 32 → (m : ℕ)
      → size (number_at (amount_cell (cells_of_32 direction) step month cell) m)
      ≤ℚ whole (pos (load step month)) *ℚ load_bound m
  amount_small direction cell inside m =
      payment_small direction (month - step.from) cell step.c inside four most spread (load step month) sizes apart
      spread_most covered m

  -- by its size and spread
  pub amount_parts : (direction : Direction) (cell : ℕ) → cell < 32 → (m : ℕ)
      → size (number_at (amount_cell (cells_of_32 direction) step month cell) m)
      ≤ℚ over (pos most) 2488320 *ℚ first_bound m +ℚ over (pos spread) 2488320 *ℚ later_bound m
  amount_parts direction cell inside m =
      payment_parts direction (month - step.from) cell step.c inside four most spread (load step month) sizes apart
      spread_most covered m

  pub amount_covered : over (pos most) 2488320 +ℚ whole (pos 4) *ℚ over (pos spread) 2488320
      ≤ℚ whole (pos (load step month))
  amount_covered =
      size_covered Forward (month - step.from) 0 step.c (lit≤ tt) four most spread (load step month) sizes apart
      spread_most covered

  pub amount_spread : whole (pos 9) *ℚ over (pos spread) 2488320 ≤ℚ whole (pos 2) *ℚ whole (pos (load step month))
  amount_spread =
      spread_covered Forward (month - step.from) 0 step.c (lit≤ tt) four most spread (load step month) sizes apart
      spread_most covered

step_four : (steps : List Step) (month : ℕ) → HasFour steps → length (step_at steps month).c ≡ 4
step_four steps month four =
    last-has (λ step. length step.c ≡ 4) (λ s. nat_le s.from month) steps (constant_step 0 (pos 0)) refl four

-- naturals over a unit add up
over_plus : (a b d : ℕ) → over (pos (a + b)) d ≡ over (pos a) d +ℚ over (pos b) d
over_plus a b d = over_add (pos a) (pos b) d

naturals_sum : (es : List ℕ) (f : ℕ → ℕ) (u : ℕ)
    → sum_of_list (map (λ e. over (pos (f e)) u) es) ≡ over (pos (sum (map f es))) u
naturals_sum [] f u = sym (over-zero u)
naturals_sum (e ∷ es) f u =
    ap (λ z. over (pos (f e)) u +ℚ z) (naturals_sum es f u)
    ∙ sym (over_plus (f e) (sum (map f es)) u)
    ∙ ap (λ n. over (pos n) u) (sym (sum_by-cons (λ x. x) (f e) (map f es)))

module _ (product : Product) (plan : Plan) (month : ℕ) (formed : IsWellFormed product)
    (rules : ObeysMonthRules product month) (below : month < product.months) (four : HasFourEach plan) where
  abbrev u : ℕ
  u = month_unit product

  abbrev rate : ℕ → Fraction
  rate = rate_loads plan month

  abbrev load_of : ℕ → Fraction
  load_of = fractions.load_of plan month

  abbrev sums : ℕ → ℕ → Fraction
  sums = sum_loads product plan month

  abbrev paid_of : ℕ → ℕ
  paid_of e = natural_part (greatest_rate product e month) * load (sum_at plan e month) month

  -- the most that a state pays a year
  abbrev most_paid : ℕ
  most_paid = most_paid_of product plan month

  abbrev x : Fraction
  x = fractions.most_paid product plan month

  load_natural : (e : ℕ) → whole (pos 0) ≤ℚ load_of e
  load_natural e = natural (load (sum_at plan e month) month) 1

  paid_is : (e : ℕ) → rate_of product month e *ℚ load_of e ≡ over (pos (paid_of e)) (month_unit product)
  paid_is e =
      over_mul (pos (natural_part (greatest_rate product e month))) (pos (load (sum_at plan e month) month))
      (month_unit product) 1 (some_unit product month formed rules) (lit≤ tt)
      ∙ ap₂ over (pos-*ℤ-pos (natural_part (greatest_rate product e month)) (load (sum_at plan e month) month))
      (once (month_unit product))
    where
      once : (n : ℕ) → n * 1 ≡ n
      once n = omega arith

  found_paid : (found : Option ℕ) → found_value (rate_of product month) found *ℚ found_value load_of found
      ≡ found_value (λ e. over (pos (paid_of e)) (month_unit product)) found
  found_paid None = ring [] (hlevel terms) refl
  found_paid (Some e) = paid_is e

  exits_paid : (i : ℕ)
      → sum_to (length product.states) (λ j. rates_of product month i j *ℚ sums i j)
      ≤ℚ over (pos (sum (map paid_of (exits product i)))) (month_unit product)
  exits_paid i =
      le_trans (le_of_equal (sum_to_ext (length product.states) (λ j b. found_paid (transition_between product i j))))
      (le_trans (found_total (λ e. (transition_at product e).from) (λ e. (transition_at product e).to)
      (λ e. over (pos (paid_of e)) (month_unit product)) (λ e. natural (paid_of e) (month_unit product))
      (length product.states) i (places (length product.transitions)))
      (le_of_equal (naturals_sum (exits product i) paid_of (month_unit product))))

  whole_over : (n : ℕ) → whole (pos n) ≡ over (pos (n * month_unit product)) (month_unit product)
  whole_over n =
      sym (over_scale (pos n) 1 (month_unit product) (lit≤ tt) (some_unit product month formed rules))
      ∙ ap₂ over (pos-*ℤ-pos n (month_unit product)) (once (month_unit product))
    where
      once : (n : ℕ) → 1 * n ≡ n
      once n = omega arith

  state_paid : (i : ℕ) → i < length product.states
      → rate i +ℚ sum_to (length product.states) (λ j. rates_of product month i j *ℚ sums i j) ≤ℚ x
  state_paid i b =
      let loads = load (sojourn_at plan i month) month in
      let paid = sum (map paid_of (exits product i)) in
      let within : state_pay product plan month i ≤ most_paid =
      rw (at-list_of (length product.states) (state_pay product plan month) i 0 b) at
      (greatest_natural_least (list_of (length product.states) (state_pay product plan month)) i 0
      (rw (length-list_of (length product.states) (state_pay product plan month)) b)) in
      let total : whole (pos loads) +ℚ over (pos paid) (month_unit product) ≤ℚ x =
      le_trans (le_of_equal (ap (λ z. z +ℚ over (pos paid) (month_unit product)) (whole_over loads)
      ∙ sym (over_plus (loads * month_unit product) paid (month_unit product))))
      (over_mono (pos (state_pay product plan month i)) (pos most_paid) (month_unit product)
      (omega (arith, ints, within))) in
      let exits_part = sum_to (length product.states) (λ j. rates_of product month i j *ℚ sums i j) in
      linear (whole (pos loads) ∷ exits_part ∷ over (pos paid) (month_unit product) ∷ x ∷ [])
      (exits_paid i ⊞ total) (hlevel claims) refl

  pub sums_four : (e : ℕ) → length (sum_at plan e month).c ≡ 4
  sums_four e = step_four (slice_index_or plan.sums e []) month
      (place-has HasFour plan.sums e [] (All-nil (λ step. length step.c ≡ 4)) four.sums)

  sojourns_four : (i : ℕ) → length (sojourn_at plan i month).c ≡ 4
  sojourns_four i = step_four (unwrap_or (option_map (λ s. s.steps) (find (λ s. s.state == i) plan.sojourns)) []) month
      (found-has HasFour (λ s. s.steps) (λ s. s.state == i) plan.sojourns [] (All-nil (λ step. length step.c ≡ 4))
      four.sojourns)

  -- no sum is greater than the greatest
  steps_most : (steps : List Step) → load (step_at steps month) month ≤ sum_size product.months steps
  steps_most [] = omega (arith, load_zero 0 month)
  steps_most (step ∷ steps) =
      rw (at-list_of product.months (λ m. load (step_at (step ∷ steps) m) m) month 0 below) at
      (greatest_natural_least (list_of product.months (λ m. load (step_at (step ∷ steps) m) m)) month 0
      (rw (length-list_of product.months (λ m. load (step_at (step ∷ steps) m) m)) below))

  sizes_within : (sizes : List (List Step)) (e : ℕ)
      → sum_size product.months (slice_index_or sizes e []) ≤ greatest_natural (map (sum_size product.months) sizes)
  sizes_within [] e = omega arith
  sizes_within (steps ∷ sizes) zero = omega arith
  sizes_within (steps ∷ sizes) (suc e) = omega (arith, sizes_within sizes e)

  sum_most : (e : ℕ) → load (sum_at plan e month) month ≤ greatest_sum product plan
  sum_most e = omega (arith, steps_most (slice_index_or plan.sums e []), sizes_within plan.sums e)

  pub small_payments : (direction : Direction) (cell : ℕ) (inside : cell < 32)
      → HasSmallPayments (cell_here product month formed rules plan direction cell inside)
      (rates_of product month) rate sums x (whole (pos (greatest_sum product plan)))
  small_payments direction cell inside = record {
    rate_natural = λ i. natural (load (sojourn_at plan i month) month) 1;
    sum_natural = λ i j. found_natural load_of load_natural (transition_between product i j);
    sojourn = λ i m.
        let step = sojourn_at plan i month in
        le_trans (le_of_equal (ap size (per_cell-at direction (amount_cell (cells_of_32 direction) step month cell) m)))
        (size-of_cell (number_at (amount_cell (cells_of_32 direction) step month cell) m) _
        (amount_small step month (sojourns_four i) direction cell inside m));
    sums = λ i j m. found_has (λ found. size (number_at (unwrap_or (option_map
        (λ e. amount_cell (cells_of_32 direction) (sum_at plan e month) month cell) found) []) m)
        ≤ℚ found_value load_of found *ℚ load_bound m) _ (places (length product.transitions))
        (le_of_equal (size_zero ∙ ring (load_bound m ∷ []) (hlevel terms) refl))
        (All-list_of (λ e. size (number_at (amount_cell (cells_of_32 direction) (sum_at plan e month) month cell) m)
        ≤ℚ load_of e *ℚ load_bound m) (length product.transitions) (λ e. e)
        (λ e b. amount_small (sum_at plan e month) month (sums_four e) direction cell inside m));
    states = state_paid;
    greatest_sum = λ i j. found_has (λ found. found_value load_of found ≤ℚ whole (pos (greatest_sum product plan))) _
        (places (length product.transitions)) (natural (greatest_sum product plan) 1)
        (All-list_of (λ e. load_of e ≤ℚ whole (pos (greatest_sum product plan))) (length product.transitions) (λ e. e)
        (λ e b. whole_le (omega (arith, ints, sum_most e))));
  }

  -- sums by their sizes and spreads
  abbrev largest_of : ℕ → Fraction
  largest_of e = over (pos (size_of_step (sum_at plan e month) month)) 2488320

  abbrev apart_of : ℕ → Fraction
  apart_of e = over (pos (spread_of_step (sum_at plan e month) month)) 2488320

  abbrev largest : ℕ → ℕ → Fraction
  largest = sum_sizes product plan month

  abbrev aparts : ℕ → ℕ → Fraction
  aparts = sum_spreads product plan month

  pub small_sums : (direction : Direction) (cell : ℕ) (inside : cell < 32)
      → HasSmallSums (cell_here product month formed rules plan direction cell inside) sums largest aparts
  small_sums direction cell inside = record {
    largest_natural = λ i j. found_natural largest_of (λ e. natural _ 2488320) (transition_between product i j);
    apart_natural = λ i j. found_natural apart_of (λ e. natural _ 2488320) (transition_between product i j);
    parts = λ i j m. found_has (λ found. size (number_at (unwrap_or (option_map
        (λ e. amount_cell (cells_of_32 direction) (sum_at plan e month) month cell) found) []) m)
        ≤ℚ found_value largest_of found *ℚ first_bound m +ℚ found_value apart_of found *ℚ later_bound m) _
        (places (length product.transitions))
        (le_of_equal (size_zero ∙ ring (first_bound m ∷ later_bound m ∷ []) (hlevel terms) refl))
        (All-list_of (λ e. size (number_at (amount_cell (cells_of_32 direction) (sum_at plan e month) month cell) m)
        ≤ℚ largest_of e *ℚ first_bound m +ℚ apart_of e *ℚ later_bound m) (length product.transitions) (λ e. e)
        (λ e b. amount_parts (sum_at plan e month) month (sums_four e) direction cell inside m));
    loads = λ i j. found_has (λ found. found_value largest_of found +ℚ whole (pos 4) *ℚ found_value apart_of found
        ≤ℚ found_value load_of found) _ (places (length product.transitions))
        (linear [] (natural 0 1) (hlevel claims) refl)
        (All-list_of (λ e. largest_of e +ℚ whole (pos 4) *ℚ apart_of e ≤ℚ load_of e) (length product.transitions)
        (λ e. e) (λ e b. amount_covered (sum_at plan e month) month (sums_four e)));
    spreads = λ i j. found_has (λ found. whole (pos 9) *ℚ found_value apart_of found
        ≤ℚ whole (pos 2) *ℚ found_value load_of found) _ (places (length product.transitions))
        (linear [] (natural 0 1) (hlevel claims) refl)
        (All-list_of (λ e. whole (pos 9) *ℚ apart_of e ≤ℚ whole (pos 2) *ℚ load_of e) (length product.transitions)
        (λ e. e) (λ e b. amount_spread (sum_at plan e month) month (sums_four e)));
  }

  pub x_natural : whole (pos 0) ≤ℚ x
  x_natural = natural most_paid (month_unit product)

  -- pay covers x
  pub pay_covers : over (pos 16) 3 *ℚ x ≤ℚ whole (pos (pay product plan month))
  pay_covers =
      let rounded = rounded_up_le (1024 * most_paid) (192 * month_unit product)
      (omega (arith, some_unit product month formed rules)) in
      let parts = over_product 1024 most_paid 192 (month_unit product) (lit≤ tt)
      (some_unit product month formed rules) in
      linear (x ∷ whole (pos (pay product plan month)) ∷ []) (rw parts at rounded) (hlevel claims) refl

  -- so it is at most 6 G
  pub scaled_x : scaling (scale product plan) *ℚ x ≤ℚ whole (pos 6)
  scaled_x =
      let G = 2 ^ scale product plan in
      let paid = (scale_bounds_parts product plan).pays month below in
      let most : whole (pos (pay product plan month)) ≤ℚ whole (pos 32) *ℚ whole (pos G) =
      le_trans (whole_le (omega (arith, ints, paid)))
      (le_of_equal (ap whole (sym (pos-*ℤ-pos 32 G)) ∙ whole_mul (pos 32) (pos G))) in
      let unit = inverse G (pow_pos (scale product plan)) in
      linear (x ∷ whole (pos (pay product plan month)) ∷ whole (pos G) ∷ scaling (scale product plan) ∷ [])
      ((pay_covers ⊠ natural 1 G) ⊠ natural 3 16 ⊞ (most ⊠ natural 1 G) ⊠ natural 3 16 ⊞ whole (pos 6) · unit)
      (hlevel claims) refl

  -- the greatest sum and a month's pay are together at most G
  ledger_room : 1024 * greatest_sum product plan + 32 * pay product plan month ≤ 1024 * 2 ^ scale product plan
  ledger_room =
      let ledger = scale_bounds_ledger product plan in
      let from_start : bound_before_term product plan 0 ≤ bound_before_term product plan (product.months - suc month) =
      rises_far (bound_before_term product plan) (never_falls_by_months product plan) 0 (product.months - suc month)
      (omega arith) in
      let paid = cells_add (kappa40 product month) (pay product plan month)
      (bound_with_lumps product plan (suc month)) 32 in
      let last = ledger.1.cells month 32 below (lit≤ tt) in
      joined (1024 * greatest_sum product plan) (32 * pay product plan month)
      (bound_before_term product plan (product.months - suc month)) (1024 * greatest_lump product plan (suc month))
      (bound_inside product plan month 32) (1024 * 2 ^ scale product plan) from_start paid last
    where
      joined : (start pays before lumps after limit : ℕ) → start ≤ before → before + lumps + pays ≤ after
          → after ≤ limit → start + pays ≤ limit
      joined start pays before lumps after limit h k l = omega (arith, h, k, l)

  -- so the greatest sum, divided by G, leaves room for a sixth of what is paid
  pub scaled_room : scaling (scale product plan) *ℚ whole (pos (greatest_sum product plan))
      +ℚ over (pos 1) 6 *ℚ (scaling (scale product plan) *ℚ x) ≤ℚ whole (pos 1)
  scaled_room =
      let G = 2 ^ scale product plan in
      let S = greatest_sum product plan in
      let p = pay product plan month in
      let room : whole (pos 1024) *ℚ whole (pos S) +ℚ whole (pos 32) *ℚ whole (pos p)
      ≤ℚ whole (pos 1024) *ℚ whole (pos G) =
      rw (times 1024 S, times 32 p, times 1024 G, ← whole_add (pos (1024 * S)) (pos (32 * p)))
      (whole_le (order (1024 * S + 32 * p) (1024 * G) ledger_room)) in
      let unit = inverse G (pow_pos (scale product plan)) in
      linear (x ∷ whole (pos p) ∷ whole (pos S) ∷ whole (pos G) ∷ scaling (scale product plan) ∷ [])
      ((pay_covers ⊠ natural 1 G) ⊠ natural 1 32 ⊞ (room ⊠ natural 1 G) ⊠ natural 1 1024 ⊞ whole (pos 1) · unit)
      (hlevel claims) refl
    where
      times : (a b : ℕ) → whole (pos a) *ℚ whole (pos b) ≡ whole (pos (a * b))
      times a b = sym (ap whole (sym (pos-*ℤ-pos a b)) ∙ whole_mul (pos a) (pos b))

      order : (a b : ℕ) → a ≤ b → pos a ≤ℤ pos b
      order a b h = omega (arith, ints, h)
