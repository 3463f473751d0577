-- In a month in which nothing varies, nothing but 0 is stored above power 0.
use Rattle.std.specs.Prelude.{◌≡◌, ℕ, zero, suc, pos, ◌-◌, ◌<◌, true, ℤ}
use Rattle.std.specs.Prelude.{Option, Some, None, option_map, unwrap_or, IsTrue, List, [], ◌∷◌, ◌++◌, map, length}
use Rattle.std.specs.List.{list_all}
use Rattle.std.proofs.Common.{refl, ap, sym, ◌∙◌, arith, inl, inr}
use mathlib.Core.Path.{ap₂}
use Rattle.std.proofs.Math.ListN.{get_or-map}
use Rattle.std.proofs.lemmas.Bool.{cases_lt}
use Rattle.std.proofs.lemmas.List.{length-map}
use Rattle.std.proofs.lemmas.List.Folds.{list_all-append}
use Rattle.frac_laws.specs.Convolution.{convolution}
use Rattle.frac_laws.specs.Fraction.{Fraction, whole, opposite, ◌+ℚ◌, ◌*ℚ◌}
use Rattle.frac_laws.specs.Lists.{number_at}
use Rattle.frac_laws.specs.Sums.{sum_to}
use Rattle.frac_laws.proofs.FractionTerms.{ring, terms}
use Rattle.frac_laws.proofs.Sums.{sum_to_zeros}
use Rattle.whole_laws.specs.Whole.{list_of}
use Rattle.whole_laws.proofs.Tests.{both_pass}
use Rattle.whole_laws.proofs.ListsByPlace.{length-list_of, at-list_of}
use Rattle.whole_laws.proofs.Members.{each_passes}
use Rattle.model_specs.specs.Curve.{piece_at}
use Rattle.model_specs.specs.Product.{Product, Transition, transition_at, no_transition}
use Rattle.model_specs.specs.Payments.{Plan, sojourn_at, sum_at}
use Rattle.model_specs.specs.Cells.{CellCurves, Grid, cell_curves, curve_cell, amount_cell, transition_between}
use Rattle.model_specs.specs.Systems.{interest_at, intensity_at, sojourn_rate_at, sum_paid_at, leaving_at}
use Rattle.model_specs.specs.Systems.{first_payment_at, backward_entry}
use Rattle.model_specs.specs.Stretches.{is_constant, is_constant_month}
use Rattle.cell_bounds.proofs.TableNorms.{where_same-is, unit_at}
use Rattle.linear_system.specs.StoredSystem.{StoredSystem, dim_of, stored_number, stored_free}
use Rattle.linear_system.specs.DegreeLimit.{IsConstant}
use Rattle.cell_coeffs.specs.StoredRows.{IsStoredRow}
use Rattle.cell_coeffs.proofs.ConstantSystems.{constant_system}
use Rattle.cell_coeffs.proofs.FlatCurves.{IsFlat, scaled_flat, amount_flat, curve_flat}
use Rattle.cell_coeffs.proofs.Links.{found_inside}

-- the numbers of a cell above power 0
pub record IsFlatCell (cell : CellCurves) : Type 0 where
  pub interest : (m : ℕ) → interest_at cell (suc m) ≡ whole (pos 0)
  pub intensity : (i j m : ℕ) → intensity_at cell i j (suc m) ≡ whole (pos 0)
  pub sojourn : (i m : ℕ) → i < cell.states → sojourn_rate_at cell i (suc m) ≡ whole (pos 0)
  pub sums : (i j m : ℕ) → sum_paid_at cell i j (suc m) ≡ whole (pos 0)

module _ (product : Product) (plan : Plan) (month : ℕ) (constant : IsTrue (is_constant_month product plan month)) where
  abbrev rates : List (List ℤ)
  rates = map (λ (t : Transition). (piece_at t.rate month).c) product.transitions

  abbrev sojourns : List (List ℤ)
  sojourns = list_of (length product.states) (λ i. (sojourn_at plan i month).c)

  abbrev sums : List (List ℤ)
  sums = list_of (length product.transitions) (λ e. (sum_at plan e month).c)

  pub in_parts : (is_constant (piece_at product.interest month).c ≡ true) × ((list_all is_constant rates ≡ true)
      × ((list_all is_constant sojourns ≡ true) × (list_all is_constant sums ≡ true)))
  in_parts =
      let first = both_pass (is_constant (piece_at product.interest month).c)
      (list_all is_constant (rates ++ sojourns ++ sums)) constant in
      let second = both_pass (list_all is_constant (rates ++ sojourns)) (list_all is_constant sums)
      (sym (list_all-append is_constant (rates ++ sojourns) sums) ∙ first.1) in
      let third = both_pass (list_all is_constant rates) (list_all is_constant sojourns)
      (sym (list_all-append is_constant rates sojourns) ∙ second.0) in
      (first.0, (third.0, (third.1, second.1)))

  pub rate_constant : (e : ℕ) → e < length product.transitions
      → is_constant (piece_at (transition_at product e).rate month).c ≡ true
  rate_constant e b =
      let f : Transition → List ℤ = λ t. (piece_at t.rate month).c in
      ap is_constant (sym (get_or-map f product.transitions e no_transition))
      ∙ each_passes is_constant rates in_parts.1.0 e (f no_transition) (rw (length-map product.transitions f) b)

  pub sojourn_constant : (i : ℕ) → i < length product.states → is_constant (sojourn_at plan i month).c ≡ true
  sojourn_constant i b =
      let f : ℕ → List ℤ = λ k. (sojourn_at plan k month).c in
      ap is_constant (sym (at-list_of (length product.states) f i [] b))
      ∙ each_passes is_constant sojourns in_parts.1.1.0 i [] (rw (length-list_of (length product.states) f) b)

  pub sum_constant : (e : ℕ) → e < length product.transitions → is_constant (sum_at plan e month).c ≡ true
  sum_constant e b =
      let f : ℕ → List ℤ = λ k. (sum_at plan k month).c in
      ap is_constant (sym (at-list_of (length product.transitions) f e [] b))
      ∙ each_passes is_constant sums in_parts.1.1.1 e [] (rw (length-list_of (length product.transitions) f) b)

  -- what is found of a transition between two states
  found_flat : (f : ℕ → List Fraction) (i j m : ℕ) → ((e : ℕ) → e < length product.transitions → IsFlat (f e))
      → (found : Option ℕ) → transition_between product i j ≡ found
      → number_at (unwrap_or (option_map f found) []) (suc m) ≡ whole (pos 0)
  found_flat f i j m flat None is = refl
  found_flat f i j m flat (Some e) is = flat e (found_inside product i j e is) m

  pub flat_cell : (grid : Grid) (cell : ℕ) → IsFlatCell (cell_curves grid product plan month cell)
  flat_cell grid cell = record {
    interest = curve_flat grid product.den product.interest month cell in_parts.0;
    intensity = λ i j m. found_flat (λ e. curve_cell grid product.den (transition_at product e).rate month cell) i j m
        (λ e b. curve_flat grid product.den (transition_at product e).rate month cell (rate_constant e b))
        (transition_between product i j) refl;
    sojourn = λ i m b. scaled_flat _ _ (amount_flat grid (sojourn_at plan i month) month cell (sojourn_constant i b)) m;
    sums = λ i j m. found_flat (λ e. amount_cell grid (sum_at plan e month) month cell) i j m
        (λ e b. amount_flat grid (sum_at plan e month) month cell (sum_constant e b))
        (transition_between product i j) refl;
  }

-- a product of numbers that are 0 above power 0 is so too
module _ (f g : ℕ → Fraction) (f_flat : (m : ℕ) → f (suc m) ≡ whole (pos 0))
    (g_flat : (m : ℕ) → g (suc m) ≡ whole (pos 0)) where
  right_none : (x y : Fraction) → y ≡ whole (pos 0) → x *ℚ y ≡ whole (pos 0)
  right_none x y is = rw is (ring (x ∷ []) (hlevel terms) refl)

  left_none : (x y : Fraction) → x ≡ whole (pos 0) → x *ℚ y ≡ whole (pos 0)
  left_none x y is = rw is (ring (y ∷ []) (hlevel terms) refl)

  one_term : (m a : ℕ) → f a *ℚ g (suc m - a) ≡ whole (pos 0)
  one_term m zero =
      let e : suc m - 0 ≡ suc m = omega arith in
      right_none (f 0) (g (suc m - 0)) (rw e (g_flat m))
  one_term m (suc a) = left_none (f (suc a)) (g (suc m - suc a)) (f_flat a)

  pub flat_product : (m : ℕ) → convolution f g (suc m) ≡ whole (pos 0)
  flat_product m = sum_to_zeros (suc (suc m)) (λ a b. one_term m a)

-- so the exact numbers of its equation above power 0 are 0
module _ (cell : CellCurves) (flat : IsFlatCell cell) where
  pub entry_flat : (times i j m : ℕ) → backward_entry cell times (suc m) i j ≡ whole (pos 0)
  entry_flat times i j m =
      let leaving : leaving_at cell i (suc m) ≡ whole (pos 0) =
      sum_to_zeros cell.states (λ k b. flat.intensity i k m) in
      let turned : opposite (whole (pos times) *ℚ interest_at cell (suc m) +ℚ leaving_at cell i (suc m))
      ≡ whole (pos 0) =
      ap₂ (λ r l. opposite (whole (pos times) *ℚ r +ℚ l)) (flat.interest m) leaving
      ∙ ring (whole (pos times) ∷ []) (hlevel terms) refl in
      ap₂ ◌+ℚ◌ (flat.intensity i j m) (where_same-is i j
      (opposite (whole (pos times) *ℚ interest_at cell (suc m) +ℚ leaving_at cell i (suc m)))
      ∙ ap (λ x. unit_at i j *ℚ x) turned)
      ∙ ring (unit_at i j ∷ []) (hlevel terms) refl

  pub paid_flat : (i j m : ℕ) → first_payment_at cell i j (suc m) ≡ whole (pos 0)
  paid_flat i j m = flat_product (intensity_at cell i j) (sum_paid_at cell i j) (flat.intensity i j) (flat.sums i j) m

  pub free_flat : (h : Fraction) (i m : ℕ) → i < cell.states
      → h *ℚ (sojourn_rate_at cell i (suc m) +ℚ sum_to cell.states (λ j. first_payment_at cell i j (suc m)))
      ≡ whole (pos 0)
  free_flat h i m b =
      ap₂ (λ x y. h *ℚ (x +ℚ y)) (flat.sojourn i m b) (sum_to_zeros cell.states (λ j c. paid_flat i j m))
      ∙ ring (h ∷ []) (hlevel terms) refl

  -- and so are the stored ones of first moments
  module _ (h : Fraction) (s : StoredSystem)
      (rows : (i : ℕ) → i < cell.states → IsStoredRow cell h i s) where
    pub column_none : (row col m : ℕ) → row < cell.states → col < cell.states
        → stored_number s row col (suc m) ≡ pos 0
    column_none row col m b inside = ((rows row b).numbers col (suc m) inside).none (entry_flat 1 row col m)

    pub free_none : (row m : ℕ) → row < cell.states → stored_free s row (suc m) ≡ pos 0
    free_none row m b = elim (cases_lt (suc m) 9) [
      | inl few ↦ ((rows row b).free (suc m) few).none (free_flat h row m b)
      | inr beyond ↦ (rows row b).no_more (suc m) beyond
    ]

    number_none : dim_of s ≡ cell.states → (row col m : ℕ) → row < cell.states → col < suc cell.states
        → stored_number s row col (suc m) ≡ pos 0
    number_none dim row col m b c = elim (cases_lt col cell.states) [
      | inl inside ↦ column_none row col m b inside
      | inr past ↦
          let last : dim_of s ≡ col = omega (arith, dim, past, c) in
          rw last at (free_none row m b)
    ]

    pub stored_constant : dim_of s ≡ cell.states → IsConstant s
    stored_constant dim = constant_system s (λ row col m b c. number_none dim row col m (rw dim at b) (rw dim at c))
