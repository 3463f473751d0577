-- The curves of a cell of a product that obeys rules 15 to 17 in its month.
use Rattle.std.specs.Prelude.{◌≡◌, ℕ, zero, suc, pos, negsuc, ◌+◌, ◌-◌, ◌*◌, ◌^◌, ◌<◌, ◌≤◌, ℤ, ◌≤ℤ◌, neg_ℤ}
use Rattle.std.specs.Prelude.{unsigned_abs, nat_le, int_le, true, Option, Some, None, option_map, unwrap_or}
use Rattle.std.specs.Prelude.{map, All, List, [], ◌∷◌, length, slice_index_or}
use Rattle.std.specs.Int.{div_ceil}
use Rattle.std.specs.List.{list_all}
use Rattle.std.proofs.Common.{refl, ap, sym, ◌∙◌, arith, lit≤}
use Rattle.std.proofs.lemmas.Int.{ints, clamps}
use Rattle.std.proofs.lemmas.List.Elements.{All-head, All-tail, All-weaker}
use Rattle.std.proofs.Math.IntN.{pos-*ℤ-pos}
use Rattle.std.proofs.Math.Nat.{pow-suc, pow-zero}
use mathlib.Core.Path.{ap₂}
use Rattle.product_cells.specs.MonthFractions as fractions
use Rattle.frac_laws.specs.Fraction.{Fraction, over, whole, size, ◌+ℚ◌, ◌*ℚ◌, ◌≤ℚ◌}
use Rattle.frac_laws.specs.Sums.{sum_to, sum_of_list}
use Rattle.frac_laws.specs.Lists.{number_at}
use Rattle.frac_laws.proofs.FractionTerms.{ring, terms}
use Rattle.frac_laws.proofs.Linear.{linear, claims, natural, ◌⊞◌, ◌⊠◌}
use Rattle.frac_laws.proofs.Order.{le_trans, le_of_equal}
use Rattle.frac_laws.proofs.Norms.{size_zero}
use Rattle.frac_laws.proofs.Quotients.{over_is, over_add, over_mul, over_le_of_cross, whole_add, whole_mul}
use Rattle.frac_laws.proofs.LedgerFacts.{rounded_up_le}
use Rattle.frac_laws.proofs.QuotientFacts.{over-zero}
use Rattle.cell_laws.specs.Tame.{growth_of}
use Rattle.whole_laws.specs.Whole.{list_of, places, whole_sum, least_whole, greatest_natural}
use Rattle.whole_laws.specs.Whole.{natural_part}
use Rattle.model_specs.specs.Curve.{Piece, piece_at, zero_piece}
use Rattle.model_specs.specs.Product.{Product, transition_at, no_transition}
use Rattle.model_specs.specs.Payments.{Plan}
use Rattle.model_specs.specs.MonthNumbers.{bernstein_numerator, curve_numerators, month_unit, greatest_rate, exits}
use Rattle.model_specs.specs.MonthNumbers as numbers
use Rattle.model_specs.specs.Growth.{phi40, kappa40}
use Rattle.model_specs.specs.RecordRules.{IsWellFormed, IsCurve}
use Rattle.model_specs.specs.Cells.{Direction, CellCurves, cells_of_32, cell_curves, curve_cell, transition_between}
use Rattle.model_specs.specs.Systems.{intensity_at}
use Rattle.ledger_laws.specs.MonthLaws.{ObeysMonthRules, HasSmallNumbers, exit_rates}
use Rattle.whole_laws.proofs.Extremes.{greatest_natural_least}
use Rattle.whole_laws.proofs.Extremes.{within_greatest}
use Rattle.whole_laws.proofs.Found.{last-has}
use Rattle.whole_laws.proofs.Tests.{le_from_test}
use Rattle.whole_laws.proofs.ListsByPlace.{length-list_of, at-list_of, All-list_of}
use Rattle.whole_laws.proofs.Members.{each_passes, at-map}
use Rattle.ledger_laws.proofs.MonthFacts.{month_numbers, exits_below}
use Rattle.cell_bounds.specs.CellBounds.{rate_bound, mean_at, of_cell, HasSmallCurves, HasSmallMonth}
use Rattle.cell_bounds.specs.CellBounds.{CountsGrowth}
use Rattle.product_cells.proofs.CurveCells.{over_mono, rate_small, rate_mean, interest_small, interest_mean}
use Rattle.product_cells.proofs.FoundTransitions.{found_natural, found_has, found_total}
use Rattle.product_cells.specs.MonthFractions.{found_value, rho_of, iota_of, nu_of, phi_of, rates_of}

-- members of a list by places
pub in_list : {A : Type 0} (P : A → Type 0) (n : ℕ) (f : ℕ → A) → All P (list_of n f) → (i : ℕ) → i < n → P (f i)
in_list P n f all i b =
    rw (at-list_of n f i (f 0) b) at (all i (f 0) (rw (length-list_of n f) b))

pub least_within : (xs : List ℤ) (k : ℕ) (d : ℤ) → k < length xs → least_whole xs ≤ℤ slice_index_or xs k d
least_within [] k d b = absurd (omega arith)
least_within (x ∷ []) zero d b = omega (arith, ints)
least_within (x ∷ []) (suc k) d b = absurd (omega arith)
least_within (x ∷ y ∷ xs) zero d b = omega (arith, ints, clamps)
least_within (x ∷ y ∷ xs) (suc k) d b = omega (arith, ints, clamps, least_within (y ∷ xs) k d (omega arith))

pub above_least : (n : ℕ) (f : ℕ → ℤ) (i : ℕ) → i < n → least_whole (list_of n f) ≤ℤ f i
above_least n f i b = rw (at-list_of n f i (pos 0) b) at
    (least_within (list_of n f) i (pos 0) (rw (length-list_of n f) b))

pub within_sizes : (n : ℕ) (f : ℕ → ℤ) (i : ℕ) → i < n
    → unsigned_abs (f i) ≤ greatest_natural (map unsigned_abs (list_of n f))
within_sizes n f i b =
    rw (at-map unsigned_abs (list_of n f) i (pos 0), at-list_of n f i (pos 0) b) at
    (greatest_natural_least (map unsigned_abs (list_of n f)) i 0 (mapped n f i b))
  where
    mapped : (n : ℕ) (f : ℕ → ℤ) (i : ℕ) → i < n → i < length (map unsigned_abs (list_of n f))
    mapped zero f i b = absurd (omega (arith, b))
    mapped (suc n) f zero b = omega arith
    mapped (suc n) f (suc i) b = omega (arith, mapped n (λ k. f (suc k)) i (omega (arith, b)))

pub natural_part-is : (z : ℤ) → pos 0 ≤ℤ z → pos (natural_part z) ≡ z
natural_part-is (pos n) h = refl
natural_part-is (negsuc n) h = absurd (omega (arith, ints, h))

pub within_natural_part : (z y : ℤ) → z ≤ℤ y → z ≤ℤ pos (natural_part y)
within_natural_part z (pos n) h = h
within_natural_part z (negsuc n) h = omega (arith, ints, h)

below_zero : (least z : ℤ) → least ≤ℤ z → neg_ℤ (pos (natural_part (neg_ℤ least))) ≤ℤ z
below_zero (pos zero) z h = omega (arith, ints, h)
below_zero (pos (suc n)) z h = omega (arith, ints, h)
below_zero (negsuc n) z h = omega (arith, ints, h)

-- rates over a unit add up to their sum
rates_sum : (es : List ℕ) (r : ℕ → ℤ) (u : ℕ) → All (λ e. pos 0 ≤ℤ r e) es
    → sum_of_list (map (λ e. over (pos (natural_part (r e))) u) es) ≡ over (whole_sum (map r es)) u
rates_sum [] r u all = sym (over-zero u)
rates_sum (e ∷ es) r u all =
    ap₂ ◌+ℚ◌ (ap (λ z. over z u) (natural_part-is (r e) (All-head (λ e. pos 0 ≤ℤ r e) e es all)))
    (rates_sum es r u (All-tail (λ e. pos 0 ≤ℤ r e) e es all))
    ∙ sym (over_add (r e) (whole_sum (map r es)) u)

pub over_product : (a b c d : ℕ) → 1 ≤ c → 1 ≤ d → over (pos (a * b)) (c * d) ≡ over (pos a) c *ℚ over (pos b) d
over_product a b c d hc hd =
    ap (λ z. over z (c * d)) (sym (pos-*ℤ-pos a b)) ∙ sym (over_mul (pos a) (pos b) c d hc hd)

square-is : (p : ℕ) → p ^ 2 ≡ p * p
square-is p = pow-suc p 1 ∙ ap (λ z. z * p) (pow-suc p 0 ∙ ap (λ z. z * p) (pow-zero p) ∙ once p)
  where
    once : (p : ℕ) → 1 * p ≡ p
    once p = omega arith

-- six coefficients of a piece
piece_six : (months month : ℕ) (pieces : List Piece) → IsCurve months pieces
    → length (piece_at pieces month).c ≡ 6
piece_six months month pieces curve =
    last-has (λ piece. length piece.c ≡ 6) (λ piece. nat_le piece.from month) pieces zero_piece refl curve.six

module _ (product : Product) (month : ℕ) (formed : IsWellFormed product) (rules : ObeysMonthRules product month) where
  abbrev u : ℕ
  u = month_unit product

  numbers_small : HasSmallNumbers product month
  numbers_small = month_numbers product month formed rules

  pub some_unit : 1 ≤ month_unit product
  some_unit = omega (arith, numbers_small.some_unit)

  -- the month's numbers as fractions
  abbrev rho : Fraction
  rho = rho_of product month

  abbrev iota : Fraction
  iota = iota_of product month

  abbrev nu : Fraction
  nu = nu_of product month

  abbrev rate_of : ℕ → Fraction
  rate_of = fractions.rate_of product month

  abbrev rates : ℕ → ℕ → Fraction
  rates = rates_of product month

  most_two : (n : ℕ) → n ≤ 2 * month_unit product → over (pos n) (month_unit product) ≤ℚ whole (pos 2)
  most_two n h = over_le_of_cross (pos n) (pos 2) (month_unit product) 1 some_unit (lit≤ tt) (omega (arith, ints, h))

  most_quarter : (n : ℕ) → n * 4 ≤ month_unit product → over (pos n) (month_unit product) ≤ℚ over (pos 1) 4
  most_quarter n h = over_le_of_cross (pos n) (pos 1) (month_unit product) 4 some_unit (lit≤ tt)
      (omega (arith, ints, h))

  natural_part_most : (z : ℤ) (m : ℕ) → z ≤ℤ pos m → natural_part z ≤ m
  natural_part_most (pos n) m h = omega (arith, ints, h)
  natural_part_most (negsuc n) m h = omega arith

  pub small_month : HasSmallMonth rho iota nu
  small_month = record {
    rho_natural = natural (natural_part (numbers.rho product month)) (month_unit product);
    rho_most = most_two _ (natural_part_most (numbers.rho product month) (2 * month_unit product)
        numbers_small.rho_most);
    iota_natural = natural (numbers.iota product month) (month_unit product);
    iota_most = most_quarter (numbers.iota product month) numbers_small.iota_most;
    nu_natural = natural (numbers.nu product month) (month_unit product);
  }

  -- what the growth counts
  abbrev phi : Fraction
  phi = phi_of product month

  phi_counts : of_cell (over (pos 5) 2 *ℚ rho +ℚ whole (pos 3) *ℚ iota) ≤ℚ phi
  phi_counts =
      let r = natural_part (numbers.rho product month) in
      let i = numbers.iota product month in
      let rounded = rounded_up_le (2 ^ 40 * (5 * r + 6 * i)) (768 * month_unit product) (omega (arith, some_unit)) in
      let parts = over_product (2 ^ 40) (5 * r + 6 * i) 768 (month_unit product) (lit≤ tt) some_unit in
      let top : over (pos (5 * r + 6 * i)) (month_unit product) ≡ whole (pos 5) *ℚ rho +ℚ whole (pos 6) *ℚ iota =
      over_is (pos (5 * r + 6 * i)) (month_unit product)
      ∙ ap (λ z. z *ℚ over (pos 1) (month_unit product)) (split r i)
      ∙ ring (whole (pos r) ∷ whole (pos i) ∷ over (pos 1) (month_unit product) ∷ []) (hlevel terms) refl
      ∙ ap₂ (λ x y. whole (pos 5) *ℚ x +ℚ whole (pos 6) *ℚ y) (sym (over_is (pos r) (month_unit product)))
      (sym (over_is (pos i) (month_unit product))) in
      rw (over_is (pos (phi40 product month)) (2 ^ 40))
      (linear (rho ∷ iota ∷ whole (pos (phi40 product month)) ∷ [])
      ((rw (parts, top) at rounded) ⊠ natural 1 (2 ^ 40)) (hlevel claims) refl)
    where
      split : (r i : ℕ) → whole (pos (5 * r + 6 * i)) ≡ whole (pos 5) *ℚ whole (pos r) +ℚ whole (pos 6) *ℚ whole (pos i)
      split r i = whole_add (pos (5 * r)) (pos (6 * i))
          ∙ ap₂ ◌+ℚ◌ (ap whole (sym (pos-*ℤ-pos 5 r)) ∙ whole_mul (pos 5) (pos r))
          (ap whole (sym (pos-*ℤ-pos 6 i)) ∙ whole_mul (pos 6) (pos i))

  kappa_counts : over (pos 9) 16 *ℚ (phi *ℚ phi) +ℚ over (pos 1) 192 *ℚ nu ≤ℚ growth_of (kappa40 product month)
  kappa_counts =
      let p = phi40 product month in
      let n = numbers.nu product month in
      let first = rounded_up_le (9 * p ^ 2) (2 ^ 44) (lit≤ tt) in
      let second = rounded_up_le (2 ^ 40 * n) (192 * month_unit product) (omega (arith, some_unit)) in
      let top : over (pos (9 * p ^ 2)) (2 ^ 44) ≡ over (pos 1) (2 ^ 44) *ℚ
      (whole (pos 9) *ℚ (whole (pos p) *ℚ whole (pos p))) =
      over_is (pos (9 * p ^ 2)) (2 ^ 44) ∙ ap (λ z. z *ℚ over (pos 1) (2 ^ 44)) (square p)
      ∙ ring (whole (pos p) ∷ []) (hlevel terms) refl in
      let parts = over_product (2 ^ 40) n 192 (month_unit product) (lit≤ tt) some_unit in
      rw (
        over_is (pos (kappa40 product month)) (2 ^ 40),
        over_is (pos p) (2 ^ 40),
        whole_sum_is (div_ceil (9 * p ^ 2) (2 ^ 44)) (div_ceil (2 ^ 40 * n) (192 * month_unit product)),
      )
      (linear (whole (pos p) ∷ nu ∷ whole (pos (div_ceil (9 * p ^ 2) (2 ^ 44)))
      ∷ whole (pos (div_ceil (2 ^ 40 * n) (192 * month_unit product))) ∷ [])
      ((rw top at first) ⊠ natural 1 (2 ^ 40) ⊞ (rw parts at second) ⊠ natural 1 (2 ^ 40)) (hlevel claims) refl)
    where
      whole_sum_is : (a b : ℕ) → whole (pos (a + b)) ≡ whole (pos a) +ℚ whole (pos b)
      whole_sum_is a b = whole_add (pos a) (pos b)

      square : (p : ℕ) → whole (pos (9 * p ^ 2)) ≡ whole (pos 9) *ℚ (whole (pos p) *ℚ whole (pos p))
      square p = ap whole (ap pos (ap (λ z. 9 * z) (square-is p)) ∙ sym (pos-*ℤ-pos 9 (p * p)))
          ∙ whole_mul (pos 9) (pos (p * p))
          ∙ ap (λ z. whole (pos 9) *ℚ z) (ap whole (sym (pos-*ℤ-pos p p)) ∙ whole_mul (pos p) (pos p))

  pub counts_growth : CountsGrowth rho iota nu phi (kappa40 product month)
  counts_growth = record { first = phi_counts; counted = kappa_counts }

  -- the numerators of a transition's rate
  abbrev piece : ℕ → Piece
  piece e = piece_at (transition_at product e).rate month

  numerators_natural : (e : ℕ) → e < length product.transitions → (j : ℕ) → j ≤ 5
      → pos 0 ≤ℤ bernstein_numerator (piece e).c (month - (piece e).from) j
  numerators_natural e b j d =
      le_from_test (pos 0) _
      (in_list (λ z. int_le (pos 0) z ≡ true) 6 (bernstein_numerator (piece e).c (month - (piece e).from))
      (each_passes (int_le (pos 0)) (curve_numerators (transition_at product e).rate month)
      (each_passes (λ t. list_all (int_le (pos 0)) (curve_numerators t.rate month)) product.transitions rules.rates
      e no_transition b)) j (omega (arith, d)))

  numerators_most : (e j : ℕ) → j ≤ 5
      → bernstein_numerator (piece e).c (month - (piece e).from) j
      ≤ℤ pos (natural_part (greatest_rate product e month))
  numerators_most e j d = within_natural_part _ _
      (within_greatest 6 (bernstein_numerator (piece e).c (month - (piece e).from)) j (omega (arith, d)))

  piece_length : (e : ℕ) → e < length product.transitions → length (piece e).c ≡ 6
  piece_length e b = piece_six product.months month (transition_at product e).rate
      (formed.curves.rates e no_transition b)

  rate_of_natural : (e : ℕ) → whole (pos 0) ≤ℚ rate_of e
  rate_of_natural e = natural (natural_part (greatest_rate product e month)) (month_unit product)

  rates_natural : (i j : ℕ) → whole (pos 0) ≤ℚ rates i j
  rates_natural i j = found_natural rate_of rate_of_natural (transition_between product i j)

  -- a state's exits
  exits_most : (i : ℕ) → i < length product.states → sum_to (length product.states) (rates i) ≤ℚ rho
  exits_most i b =
      le_trans (found_total (λ e. (transition_at product e).from) (λ e. (transition_at product e).to) rate_of
      rate_of_natural (length product.states) i (places (length product.transitions)))
      (le_trans (le_of_equal (rates_sum (exits product i) (λ e. greatest_rate product e month) (month_unit product)
      (All-weaker (λ e. e < length product.transitions) (λ e. pos 0 ≤ℤ greatest_rate product e month)
      numbers_small.rates_natural (exits product i) (exits_below product i))))
      (over_mono (exit_rates product month i) (pos (natural_part (numbers.rho product month))) (month_unit product)
      (within_natural_part _ _ (within_greatest (length product.states) (exit_rates product month) i b))))

  -- the curves of a cell
  module _ (plan : Plan) (direction : Direction) (cell : ℕ) (inside : cell < 32) where
    abbrev pub cell_here : CellCurves
    cell_here = cell_curves (cells_of_32 direction) product plan month cell

    abbrev rate_cell : ℕ → List Fraction
    rate_cell e = curve_cell (cells_of_32 direction) product.den (transition_at product e).rate month cell

    abbrev found_cell : Option ℕ → List Fraction
    found_cell found = unwrap_or (option_map rate_cell found) []

    -- what holds of no transition and of each, holds of the one between two states
    between : (P : Option ℕ → Type 0) → P None → ((e : ℕ) → e < length product.transitions → P (Some e))
        → (i j : ℕ) → P (transition_between product i j)
    between P bare each i j = found_has P _ (places (length product.transitions)) bare
        (All-list_of (λ e. P (Some e)) (length product.transitions) (λ e. e) each)

    intensity_small : (i j m : ℕ) → size (intensity_at cell_here i j m) ≤ℚ of_cell (rates i j *ℚ rate_bound m)
    intensity_small i j m =
        between (λ found. size (number_at (found_cell found) m) ≤ℚ of_cell (found_value rate_of found *ℚ rate_bound m))
        (le_of_equal (size_zero ∙ ring (rate_bound m ∷ []) (hlevel terms) refl))
        (λ e b. rate_small direction product.den (month - (piece e).from) cell (piece e).c
        formed.head.some_denominator inside (piece_length e b) (natural_part (greatest_rate product e month))
        (numerators_natural e b) (numerators_most e) m) i j

    mean_small : (i j : ℕ) → (whole (pos 0) ≤ℚ mean_at (intensity_at cell_here i j))
        × (mean_at (intensity_at cell_here i j) ≤ℚ of_cell (rates i j))
    mean_small i j =
        between (λ found. (whole (pos 0) ≤ℚ mean_at (number_at (found_cell found)))
        × (mean_at (number_at (found_cell found)) ≤ℚ of_cell (found_value rate_of found)))
        (le_of_equal (sym none), le_of_equal (none ∙ ring [] (hlevel terms) refl))
        (λ e b. rate_mean direction product.den (month - (piece e).from) cell (piece e).c
        formed.head.some_denominator inside (piece_length e b) (natural_part (greatest_rate product e month))
        (numerators_natural e b) (numerators_most e)) i j
      where
        none : mean_at (number_at []) ≡ whole (pos 0)
        none = ring [] (hlevel terms) refl

    abbrev interest_piece : Piece
    interest_piece = piece_at product.interest month

    interest_six : length interest_piece.c ≡ 6
    interest_six = piece_six product.months month product.interest formed.curves.interest

    abbrev interest_number : ℕ → ℤ
    interest_number = bernstein_numerator interest_piece.c (month - interest_piece.from)

    interest_sizes : (j : ℕ) → j ≤ 5 → unsigned_abs (interest_number j) ≤ numbers.iota product month
    interest_sizes j d = within_sizes 6 interest_number j (omega (arith, d))

    interest_above : (j : ℕ) → j ≤ 5 → neg_ℤ (pos (numbers.nu product month)) ≤ℤ interest_number j
    interest_above j d = below_zero (least_whole (list_of 6 interest_number)) (interest_number j)
        (above_least 6 interest_number j (omega (arith, d)))

    pub small_curves : HasSmallCurves cell_here rates rho iota nu
    small_curves =
        let mean = interest_mean direction product.den (month - interest_piece.from) cell interest_piece.c
        formed.head.some_denominator inside interest_six (numbers.iota product month) (numbers.nu product month)
        interest_sizes interest_above in
        record {
          rates_natural = rates_natural;
          exits = exits_most;
          intensity = intensity_small;
          means_natural = λ i j. (mean_small i j).0;
          means_most = λ i j. (mean_small i j).1;
          interest = interest_small direction product.den (month - interest_piece.from) cell interest_piece.c
              formed.head.some_denominator inside interest_six (numbers.iota product month)
              (numbers.nu product month) interest_sizes interest_above;
          interest_least = mean.0;
          interest_most = mean.1;
        }
