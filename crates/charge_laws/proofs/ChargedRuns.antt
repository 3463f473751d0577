-- The runs of a charged product are those of the product, less the amount for each 1 of the pattern's.
use Rattle.std.specs.Prelude.{◌≡◌, ℕ, zero, suc, pos, ◌-◌, ◌*◌, ◌<◌, ◌≤◌, ℤ, List, [], ◌∷◌, length, refl}
use Rattle.std.proofs.Common.{sym, ◌∙◌, arith}
use mathlib.Core.Path.{ap₂}
use Rattle.frac_laws.specs.Fraction.{Fraction, over, whole, opposite, ◌+ℚ◌, ◌*ℚ◌, ◌-ℚ◌}
use Rattle.frac_laws.specs.Sums.{sum_to}
use Rattle.frac_laws.proofs.FractionTerms.{ring, terms}
use Rattle.frac_laws.proofs.Sums.{sum_to_zeros}
use Rattle.frac_laws.proofs.Vectors.{number_at-scale_list}
use Rattle.cell_laws.proofs.Combinations.{Combines, sum_combines}
use Rattle.model_specs.specs.Product.{Product, Sojourn, Lump}
use Rattle.model_specs.specs.Payments.{Plan, payment_plan, pattern_plan, lump_at, sojourn_at}
use Rattle.model_specs.specs.Cells.{CellCurves, Grid, Backward, cells_of_32, cell_curves, amount_cell}
use Rattle.model_specs.specs.Systems.{thiele_system, sojourn_rate_at, first_payment_at}
use Rattle.model_specs.specs.Runs.{first_before_term, lump_vector, reserve_on, reserve, benefits, pattern_value}
use Rattle.charge_laws.specs.ChargeLaws.{less_charge, sojourn_number}
use Rattle.charge_laws.proofs.CombinedCells.{cell_combines, month_combines, tables_combine, vectors_combine}
use Rattle.charge_laws.proofs.ContinuedSteps.{as_difference}
use Rattle.charge_laws.proofs.PatternCells.{no_payment}

-- a product with other sojourn payments and other lumps
abbrev pub with_payments : List Sojourn → List Lump → Product → Product
with_payments sojourns lumps product = record {
  name = product.name;
  states = product.states;
  start = product.start;
  months = product.months;
  den = product.den;
  interest = product.interest;
  transitions = product.transitions;
  sojourns = sojourns;
  lumps = lumps;
  pattern = product.pattern;
}

-- a rate of a cell that is less, and what is paid beside it
rate_is_less : (h x y a d none : Fraction) → none ≡ whole (pos 0)
    → (h *ℚ (x -ℚ a *ℚ y)) +ℚ d ≡ (h *ℚ x +ℚ d) +ℚ opposite a *ℚ (h *ℚ y +ℚ none)
rate_is_less h x y a d none is = rw is (ring (h ∷ x ∷ y ∷ a ∷ d ∷ []) (hlevel terms) refl)

-- two differences together
two_less : (v p l q a : Fraction) → (v -ℚ a *ℚ p) +ℚ (l -ℚ a *ℚ q) ≡ (v +ℚ l) -ℚ a *ℚ (p +ℚ q)
two_less v p l q a = ring (v ∷ p ∷ l ∷ q ∷ a ∷ []) (hlevel terms) refl

-- payments from which the amount comes off, as its sojourn payments and its lumps say
pub record ComesOff (amount : ℤ) (product left : Product) : Type 0 where
  pub sojourns : (grid : Grid) (month cell state power : ℕ) → month < product.months → cell < grid.cells
      → sojourn_number grid (payment_plan left) state month cell power
      ≡ less_charge (sojourn_number grid (payment_plan product) state month cell power) amount
      (sojourn_number grid (pattern_plan product) state month cell power)
  pub lumps : (date state : ℕ) → state < length product.states
      → whole (lump_at (payment_plan left) date state)
      ≡ less_charge (whole (lump_at (payment_plan product) date state)) amount
      (whole (lump_at (pattern_plan product) date state))

module _ (amount : ℤ) (product : Product) (sojourns : List Sojourn) (lumps : List Lump) (some : 1 ≤ product.months)
    (off : ComesOff amount product (with_payments sojourns lumps product)) where
  abbrev c : Fraction
  c = opposite (whole amount)

  abbrev left : Product
  left = with_payments sojourns lumps product

  -- the lumps of a date
  lumps_combine : (date : ℕ) → Combines c (lump_vector product (payment_plan product) date)
      (lump_vector product (pattern_plan product) date) (lump_vector left (payment_plan left) date)
  lumps_combine date = vectors_combine c (length product.states) (λ i. whole (lump_at (payment_plan product) date i))
      (λ i. whole (lump_at (pattern_plan product) date i)) (λ i. whole (lump_at (payment_plan left) date i))
      (λ i inside. off.lumps date i inside ∙ sym (as_difference _ _ (whole amount)))

  module _ (grid : Grid) where
    abbrev curves_of : Plan → (month cell : ℕ) → CellCurves
    curves_of plan month cell = cell_curves grid product plan month cell

    abbrev free_number : Plan → (month cell m i : ℕ) → Fraction
    free_number plan month cell m i = sojourn_rate_at (curves_of plan month cell) i m
        +ℚ sum_to (length product.states) (λ j. first_payment_at (curves_of plan month cell) i j m)

    rate_of : (plan : Plan) (month cell i m : ℕ) → sojourn_rate_at (curves_of plan month cell) i m
        ≡ over (pos 1) (12 * grid.cells) *ℚ sojourn_number grid plan i month cell m
    rate_of plan month cell i m = number_at-scale_list _ (amount_cell grid (sojourn_at plan i month) month cell) m

    -- what is paid in a cell
    free_combines : (month cell : ℕ) → month < product.months → cell < grid.cells → (m i : ℕ)
        → free_number (payment_plan left) month cell m i
        ≡ free_number (payment_plan product) month cell m i +ℚ c *ℚ free_number (pattern_plan product) month cell m i
    free_combines month cell within inside m i =
        rw (
          rate_of (payment_plan left) month cell i m,
          rate_of (payment_plan product) month cell i m,
          rate_of (pattern_plan product) month cell i m,
          off.sojourns grid month cell i m within inside,
        )
        (rate_is_less (over (pos 1) (12 * grid.cells)) (sojourn_number grid (payment_plan product) i month cell m)
        (sojourn_number grid (pattern_plan product) i month cell m) (whole amount)
        (sum_to (length product.states) (λ j. first_payment_at (curves_of (payment_plan product) month cell) i j m))
        (sum_to (length product.states) (λ j. first_payment_at (curves_of (pattern_plan product) month cell) i j m))
        (sum_to_zeros (length product.states) (λ j below. no_payment grid product month cell m i j)))

    -- the runs some months before the term
    runs_combine : (n months : ℕ) → Combines c (first_before_term grid product (payment_plan product) n months)
        (first_before_term grid product (pattern_plan product) n months)
        (first_before_term grid left (payment_plan left) n months)
    runs_combine n zero = vectors_combine c (length product.states) (λ i. whole (pos 0)) (λ i. whole (pos 0))
        (λ i. whole (pos 0)) (λ i inside. ring (whole amount ∷ []) (hlevel terms) refl)
    runs_combine n (suc months) =
        let month : ℕ = product.months - suc months in
        let within : month < product.months = omega (arith, some) in
        month_combines c (λ cell. thiele_system (curves_of (payment_plan product) month cell))
        (λ cell. thiele_system (curves_of (pattern_plan product) month cell))
        (λ cell. thiele_system (cell_curves grid left (payment_plan left) month cell)) n grid.cells
        (λ cell inside x y z start. cell_combines c (thiele_system (curves_of (payment_plan product) month cell))
        (thiele_system (curves_of (pattern_plan product) month cell))
        (thiele_system (cell_curves grid left (payment_plan left) month cell)) n refl refl
        (tables_combine c (length product.states) 9 (free_number (payment_plan product) month cell)
        (free_number (pattern_plan product) month cell) (free_number (payment_plan left) month cell)
        (free_combines month cell within inside)) x y z start)
        _ _ _ (sum_combines c (runs_combine n months) (lumps_combine (suc month)))

  pub reserve_is_less : (grid : Grid) (n date state : ℕ)
      → reserve_on grid left (payment_plan left) n date state
      ≡ less_charge (reserve_on grid product (payment_plan product) n date state) amount
      (reserve_on grid product (pattern_plan product) n date state)
  reserve_is_less grid n date state =
      (runs_combine grid n (product.months - date)).numbers state ∙ as_difference _ _ (whole amount)

  pub value_is_less : product.start < length product.states → (n : ℕ)
      → benefits left n ≡ less_charge (benefits product n) amount (pattern_value product n)
  value_is_less starts n =
      ap₂ ◌+ℚ◌ (reserve_is_less (cells_of_32 Backward) n 0 product.start) (off.lumps 0 product.start starts)
      ∙ two_less (reserve product (payment_plan product) n 0 product.start)
      (reserve product (pattern_plan product) n 0 product.start)
      (whole (lump_at (payment_plan product) 0 product.start)) (whole (lump_at (pattern_plan product) 0 product.start))
      (whole amount)
