-- Curves and payments that are constant have their first coefficient in each cell, and are the same where these are.
use Rattle.std.specs.Prelude.{◌≡◌, ℕ, zero, suc, pos, ◌*◌, ◌<◌, true, ℤ, ◌-ℤ◌, unsigned_abs, ◌==◌, ◌&&◌}
use Rattle.std.specs.Prelude.{Option, Some, None, option_map, unwrap_or, IsTrue, List, [], ◌∷◌, length}
use Rattle.std.proofs.Common.{refl, ap, sym, ◌∙◌, arith}
use Rattle.std.proofs.lemmas.Int.{ints}
use Rattle.frac_laws.specs.Fraction.{Fraction, over, ◌+ℚ◌, ◌*ℚ◌}
use Rattle.frac_laws.specs.Lists.{number_at}
use Rattle.frac_laws.specs.Polynomials.{times_linear, shifted, stretched, all_over}
use Rattle.frac_laws.proofs.FractionTerms.{ring, terms}
use Rattle.frac_laws.proofs.Vectors.{number_at-add_lists, number_at-scale_list}
use Rattle.named_numbers.specs.Numbers.{months_of_year}
use Rattle.whole_laws.specs.Whole.{list_of}
use Rattle.whole_laws.proofs.ListsByPlace.{length-list_of, at-list_of}
use Rattle.whole_laws.proofs.Members.{each_passes}
use Rattle.whole_laws.proofs.Tests.{both_pass}
use Rattle.model_specs.specs.Curve.{Piece, piece_at}
use Rattle.model_specs.specs.Product.{Product, Step, transition_at}
use Rattle.model_specs.specs.Payments.{Plan, sojourn_at, sum_at}
use Rattle.model_specs.specs.Cells.{Grid, cell_curves, curve_cell, amount_cell, transition_between}
use Rattle.model_specs.specs.Systems.{interest_at, intensity_at, sojourn_rate_at, sum_paid_at}
use Rattle.model_specs.specs.MonthNumbers.{coefficient_at}
use Rattle.model_specs.specs.Stretches.{is_constant, is_constant_month, keeps_values}
use Rattle.month_stretches.specs.Parts.{interest_in, rate_in, sojourn_in, sum_in, is_same, are_same}
use Rattle.month_stretches.proofs.InParts.{keeps_in_parts}
use Rattle.cell_coeffs.proofs.FlatCells.{IsFlatCell, flat_cell, in_parts, rate_constant, sojourn_constant, sum_constant}
use Rattle.cell_coeffs.proofs.FlatCurves.{IsFlat, times_none, shifted_none, over_flat}
use Rattle.cell_coeffs.proofs.Links.{found_inside}
use Rattle.cell_coeffs.proofs.Numerators.{at-all_over}
use Rattle.constant_months.proofs.SameCells.{HaveSameNumbers}

-- ---- the first number

shifted_first : (b : Fraction) (p : List Fraction) → IsFlat p → number_at (shifted b p) 0 ≡ number_at p 0
shifted_first b [] flat = refl
shifted_first b (c ∷ p) flat =
    number_at-add_lists (c ∷ []) (times_linear b (shifted b p)) 0
    ∙ ap (λ x. c +ℚ x) (times_none b (shifted b p) (shifted_none b p flat) 0) ∙ ring (c ∷ []) (hlevel terms) refl

stretched_first : (h : Fraction) (p : List Fraction) → number_at (stretched h p) 0 ≡ number_at p 0
stretched_first h [] = refl
stretched_first h (c ∷ p) = refl

amount_first : (grid : Grid) (step : Step) (month cell : ℕ) → is_constant step.c ≡ true
    → number_at (amount_cell grid step month cell) 0 ≡ over (coefficient_at step.c 0) 1
amount_first grid step month cell constant =
    stretched_first _ (shifted _ (all_over 1 step.c))
    ∙ shifted_first _ (all_over 1 step.c) (over_flat 1 step.c constant) ∙ at-all_over 1 step.c 0

curve_first : (grid : Grid) (den : ℕ) (pieces : List Piece) (month cell : ℕ)
    → is_constant (piece_at pieces month).c ≡ true
    → number_at (curve_cell grid den pieces month cell) 0
    ≡ over (pos 1) (months_of_year * grid.cells) *ℚ over (coefficient_at (piece_at pieces month).c 0) den
curve_first grid den pieces month cell constant =
    let c = (piece_at pieces month).c in
    number_at-scale_list (over (pos 1) (months_of_year * grid.cells)) (stretched _ (shifted _ (all_over den c))) 0
    ∙ ap (λ x. over (pos 1) (months_of_year * grid.cells) *ℚ x)
    (stretched_first _ (shifted _ (all_over den c))
    ∙ shifted_first _ (all_over den c) (over_flat den c constant) ∙ at-all_over den c 0)

-- ---- two months with the same first coefficients

-- of each curve, sojourn rate and sum
pub record HaveSameFirst (product : Product) (plan : Plan) (month other : ℕ) : Type 0 where
  pub interest : coefficient_at (piece_at product.interest month).c 0
      ≡ coefficient_at (piece_at product.interest other).c 0
  pub rates : (e : ℕ) → e < length product.transitions
      → coefficient_at (piece_at (transition_at product e).rate month).c 0
      ≡ coefficient_at (piece_at (transition_at product e).rate other).c 0
  pub sojourns : (i : ℕ) → i < length product.states
      → coefficient_at (sojourn_at plan i month).c 0 ≡ coefficient_at (sojourn_at plan i other).c 0
  pub sums : (e : ℕ) → e < length product.transitions
      → coefficient_at (sum_at plan e month).c 0 ≡ coefficient_at (sum_at plan e other).c 0

pub same_month : (product : Product) (plan : Plan) (month : ℕ) → HaveSameFirst product plan month month
same_month product plan month =
    record { interest = refl; rates = λ e b. refl; sojourns = λ i b. refl; sums = λ e b. refl }

module _ (grid : Grid) (product : Product) (plan : Plan) (month cell other place : ℕ)
    (constant : IsTrue (is_constant_month product plan month))
    (constant_other : IsTrue (is_constant_month product plan other))
    (same : HaveSameFirst product plan month other) where
  -- what is found of a transition between two states
  found_same : (f g : ℕ → List Fraction) (i j m : ℕ)
      → ((e : ℕ) → e < length product.transitions → number_at (f e) m ≡ number_at (g e) m)
      → (found : Option ℕ) → transition_between product i j ≡ found
      → number_at (unwrap_or (option_map f found) []) m ≡ number_at (unwrap_or (option_map g found) []) m
  found_same f g i j m each None is = refl
  found_same f g i j m each (Some e) is = each e (found_inside product i j e is)

  curve_same : (pieces : List Piece) → is_constant (piece_at pieces month).c ≡ true
      → is_constant (piece_at pieces other).c ≡ true
      → coefficient_at (piece_at pieces month).c 0 ≡ coefficient_at (piece_at pieces other).c 0
      → number_at (curve_cell grid product.den pieces month cell) 0
      ≡ number_at (curve_cell grid product.den pieces other place) 0
  curve_same pieces flat flat_other first =
      curve_first grid product.den pieces month cell flat
      ∙ ap (λ c. over (pos 1) (months_of_year * grid.cells) *ℚ over c product.den) first
      ∙ sym (curve_first grid product.den pieces other place flat_other)

  amount_same : (step later : Step) → is_constant step.c ≡ true → is_constant later.c ≡ true
      → coefficient_at step.c 0 ≡ coefficient_at later.c 0
      → number_at (amount_cell grid step month cell) 0 ≡ number_at (amount_cell grid later other place) 0
  amount_same step later flat flat_later first =
      amount_first grid step month cell flat ∙ ap (λ c. over c 1) first
      ∙ sym (amount_first grid later other place flat_later)

  flat : IsFlatCell (cell_curves grid product plan month cell)
  flat = flat_cell product plan month constant grid cell

  flat_other : IsFlatCell (cell_curves grid product plan other place)
  flat_other = flat_cell product plan other constant_other grid place

  interest_same : (m : ℕ) → interest_at (cell_curves grid product plan month cell) m
      ≡ interest_at (cell_curves grid product plan other place) m
  interest_same zero = curve_same product.interest (in_parts product plan month constant).0
      (in_parts product plan other constant_other).0 same.interest
  interest_same (suc m) = flat.interest m ∙ sym (flat_other.interest m)

  intensity_same : (i j m : ℕ) → intensity_at (cell_curves grid product plan month cell) i j m
      ≡ intensity_at (cell_curves grid product plan other place) i j m
  intensity_same i j zero = found_same
      (λ e. curve_cell grid product.den (transition_at product e).rate month cell)
      (λ e. curve_cell grid product.den (transition_at product e).rate other place) i j 0
      (λ e b. curve_same (transition_at product e).rate (rate_constant product plan month constant e b)
      (rate_constant product plan other constant_other e b) (same.rates e b))
      (transition_between product i j) refl
  intensity_same i j (suc m) = flat.intensity i j m ∙ sym (flat_other.intensity i j m)

  sojourn_same : (i m : ℕ) → i < length product.states
      → sojourn_rate_at (cell_curves grid product plan month cell) i m
      ≡ sojourn_rate_at (cell_curves grid product plan other place) i m
  sojourn_same i zero b =
      let unit = over (pos 1) (months_of_year * grid.cells) in
      number_at-scale_list unit (amount_cell grid (sojourn_at plan i month) month cell) 0
      ∙ ap (λ x. unit *ℚ x) (amount_same (sojourn_at plan i month) (sojourn_at plan i other)
      (sojourn_constant product plan month constant i b) (sojourn_constant product plan other constant_other i b)
      (same.sojourns i b))
      ∙ sym (number_at-scale_list unit (amount_cell grid (sojourn_at plan i other) other place) 0)
  sojourn_same i (suc m) b = flat.sojourn i m b ∙ sym (flat_other.sojourn i m b)

  sums_same : (i j m : ℕ) → sum_paid_at (cell_curves grid product plan month cell) i j m
      ≡ sum_paid_at (cell_curves grid product plan other place) i j m
  sums_same i j zero = found_same
      (λ e. amount_cell grid (sum_at plan e month) month cell)
      (λ e. amount_cell grid (sum_at plan e other) other place) i j 0
      (λ e b. amount_same (sum_at plan e month) (sum_at plan e other) (sum_constant product plan month constant e b)
      (sum_constant product plan other constant_other e b) (same.sums e b))
      (transition_between product i j) refl
  sums_same i j (suc m) = flat.sums i j m ∙ sym (flat_other.sums i j m)

  pub cells_same : HaveSameNumbers (cell_curves grid product plan month cell)
      (cell_curves grid product plan other place)
  cells_same = record {
    interest = interest_same;
    intensity = intensity_same;
    sojourn = sojourn_same;
    sums = sums_same;
  }

-- ---- a month that keeps the values of another

-- two polynomials whose first coefficients pass the test have the same one
same_of_test : (x y : List ℤ) → is_same (x, y) ≡ true → coefficient_at x 0 ≡ coefficient_at y 0
same_of_test x y passes = none_apart (coefficient_at x 0) (coefficient_at y 0) passes
  where
    none_apart : (a b : ℤ) → (unsigned_abs (a -ℤ b) == 0) ≡ true → a ≡ b
    none_apart a b passes = grind (arith, ints)

listed_kept : (count : ℕ) (f g : ℕ → List ℤ) → are_same count f g ≡ true → (i : ℕ) → i < count
    → coefficient_at (f i) 0 ≡ coefficient_at (g i) 0
listed_kept count f g pass i b =
    let pairs : ℕ → List ℤ × List ℤ = λ k. (f k, g k) in
    same_of_test (f i) (g i) (ap is_same (sym (at-list_of count pairs i ([], []) b))
    ∙ each_passes is_same (list_of count pairs) pass i ([], []) (rw (length-list_of count pairs) b))

pub first_kept : (product : Product) (plan : Plan) (month other : ℕ) → IsTrue (keeps_values product plan month other)
    → HaveSameFirst product plan month other
first_kept product plan month other keeps =
    let states = length product.states in
    let transitions = length product.transitions in
    let interest = is_same (interest_in product month, interest_in product other) in
    let rates = are_same transitions (rate_in product month) (rate_in product other) in
    let sojourns = are_same states (sojourn_in plan month) (sojourn_in plan other) in
    let all = both_pass ((interest && rates) && sojourns) (are_same transitions (sum_in plan month) (sum_in plan other))
    (sym (keeps_in_parts product plan month other) ∙ keeps) in
    let three = both_pass (interest && rates) sojourns all.0 in
    let two = both_pass interest rates three.0 in
    record {
      interest = same_of_test (interest_in product month) (interest_in product other) two.0;
      rates = listed_kept transitions (rate_in product month) (rate_in product other) two.1;
      sojourns = listed_kept states (sojourn_in plan month) (sojourn_in plan other) three.1;
      sums = listed_kept transitions (sum_in plan month) (sum_in plan other) all.1;
    }
