-- What is found of a transition between two states.
use Rattle.std.specs.Prelude.{◌≡◌, ℕ, pos, ◌+◌, ◌<◌, ◌≤◌, ◌==◌, ◌&&◌, ℤ, ◌+ℤ◌, Option, Some, None, List, [], ◌∷◌}
use Rattle.std.specs.Prelude.{length, slice_index_or}
use Rattle.std.specs.Prelude.{unwrap_or, option_map, suc, ◌-◌}
use Rattle.std.proofs.Common.{refl, ap, ◌∙◌, arith}
use Rattle.std.specs.Prelude.{◌^◌}
use Rattle.frac_laws.specs.Fraction.{Fraction, whole, size, ◌+ℚ◌, ◌-ℚ◌, ◌*ℚ◌, ◌≤ℚ◌}
use Rattle.frac_laws.proofs.Linear.{natural}
use Rattle.frac_laws.proofs.Norms.{size_zero}
use Rattle.frac_laws.proofs.Order.{le_trans, le_of_equal}
use Rattle.linear_system.specs.StandsFor.{units}
use Rattle.model_specs.specs.Curve.{Piece}
use Rattle.frac_laws.specs.Lists.{number_at}
use Rattle.frac_laws.proofs.FractionTerms.{ring, terms}
use Rattle.frac_laws.proofs.Sums.{sum_to_zeros}
use Rattle.frac_laws.proofs.QuotientFacts.{over-zero}
use Rattle.whole_laws.specs.Whole.{places}
use Rattle.whole_laws.proofs.ListsByPlace.{All-list_of}
use Rattle.model_specs.specs.Product.{Product, Step, transition_at}
use Rattle.model_specs.specs.Payments.{sum_at}
use Rattle.model_specs.specs.Cells.{Backward, cells_of_32, curve_cell, amount_cell, transition_between}
use Rattle.model_specs.specs.Systems.{intensity_at, sum_paid_at, first_payment_at}
use Rattle.payment_plan.specs.declared.pattern.Which.{Which}
use Rattle.payment_plan.specs.Payments.{plan_of}
use Rattle.product_model.specs.Views.{payments_of}
use Rattle.product_cells.proofs.FoundTransitions.{found_has}
use Rattle.cell_coeffs.specs.Near.{IsNear, IsWithinUnit, IsStored}
use Rattle.cell_coeffs.specs.Rows.{cell_at, AddsNear, AddsNearTo}
use Rattle.cell_coeffs.proofs.Near.{near_add, near_mono}

-- it is one of the product's transitions
pub found_inside : (product : Product) (i j e : ℕ) → transition_between product i j ≡ Some e
    → e < length product.transitions
found_inside product i j e is =
    let P : Option ℕ → Type 0 = λ found. (e : ℕ) → found ≡ Some e → e < length product.transitions in
    found_has P (λ e. ((transition_at product e).from == i) && ((transition_at product e).to == j))
    (places (length product.transitions)) (λ e h. cc)
    (All-list_of (λ k. P (Some k)) (length product.transitions) (λ k. k) (λ k b e h. inside k e b h)) e is
  where
    inside : (k e : ℕ) → k < length product.transitions → ◌≡◌ {A = Option ℕ} (Some k) (Some e)
        → e < length product.transitions
    inside k e b h =
        let same : k ≡ e = cc in
        rw (← same) b

module _ (product : Product) (which : Which) (month cell i j : ℕ) where
  pub intensity-found : (e m : ℕ) → transition_between product i j ≡ Some e
      → intensity_at (cell_at product which month cell) i j m
      ≡ number_at (curve_cell (cells_of_32 Backward) product.den (transition_at product e).rate month cell) m
  intensity-found e m is = ap (λ (found : Option ℕ). number_at (unwrap_or (option_map
      (λ k. curve_cell (cells_of_32 Backward) product.den (transition_at product k).rate month cell) found) []) m) is

  pub sum-found : (e m : ℕ) → transition_between product i j ≡ Some e
      → sum_paid_at (cell_at product which month cell) i j m
      ≡ number_at (amount_cell (cells_of_32 Backward) (sum_at (plan_of which (payments_of product)) e month) month
      cell) m
  sum-found e m is = ap (λ (found : Option ℕ). number_at (unwrap_or (option_map
      (λ k. amount_cell (cells_of_32 Backward) (sum_at (plan_of which (payments_of product)) k month) month cell)
      found) []) m) is

  pub intensity-none : (m : ℕ) → transition_between product i j ≡ None
      → intensity_at (cell_at product which month cell) i j m ≡ whole (pos 0)
  intensity-none m is = ap (λ (found : Option ℕ). number_at (unwrap_or (option_map
      (λ k. curve_cell (cells_of_32 Backward) product.den (transition_at product k).rate month cell) found) []) m) is

  pub paid-none : (h : Fraction) (m : ℕ) → transition_between product i j ≡ None
      → h *ℚ first_payment_at (cell_at product which month cell) i j m ≡ whole (pos 0)
  paid-none h m is =
      ap (λ x. h *ℚ x) (sum_to_zeros (suc m) {f = λ a. intensity_at (cell_at product which month cell) i j a
      *ℚ sum_paid_at (cell_at product which month cell) i j (m - a)} (λ a b.
      ap (λ x. x *ℚ sum_paid_at (cell_at product which month cell) i j (m - a)) (intensity-none a is)
      ∙ gone (sum_paid_at (cell_at product which month cell) i j (m - a)))) ∙ ring (h ∷ []) (hlevel terms) refl
    where
      gone : (x : Fraction) → whole (pos 0) *ℚ x ≡ whole (pos 0)
      gone x = ring (x ∷ []) (hlevel terms) refl

-- numbers near more are added, or nothing
pub adds_near_to : (powers more : ℕ) (y : ℕ → Fraction) (old new numbers : List ℤ)
    → ((m : ℕ) → m < powers → IsNear more (y m) (slice_index_or numbers m (pos 0)))
    → ((m : ℕ) → m < powers → slice_index_or new m (pos 0)
    ≡ slice_index_or old m (pos 0) +ℤ slice_index_or numbers m (pos 0))
    → AddsNearTo powers more y old new
adds_near_to powers more y old new numbers nears is halves m x few near =
    rw (is m few) (near_add halves more x (y m) (slice_index_or old m (pos 0)) (slice_index_or numbers m (pos 0))
    near (nears m few))

pub adds_near : (more : ℕ) (y : ℕ → Fraction) (old new numbers : List ℤ)
    → ((m : ℕ) → m < 9 → IsNear more (y m) (slice_index_or numbers m (pos 0)))
    → ((m : ℕ) → m < 9 → slice_index_or new m (pos 0)
    ≡ slice_index_or old m (pos 0) +ℤ slice_index_or numbers m (pos 0))
    → AddsNear more y old new
adds_near = adds_near_to 9

pub adds_none_to : (powers more : ℕ) (y : ℕ → Fraction) (old : List ℤ) → ((m : ℕ) → y m ≡ whole (pos 0))
    → AddsNearTo powers more y old old
adds_none_to powers more y old none halves m x few near =
    let same : x +ℚ y m ≡ x = ap (λ z. x +ℚ z) (none m) ∙ ring (x ∷ []) (hlevel terms) refl in
    rw same (near_mono halves (halves + more) x (slice_index_or old m (pos 0)) (omega arith) near)

pub adds_none : (more : ℕ) (y : ℕ → Fraction) (old : List ℤ) → ((m : ℕ) → y m ≡ whole (pos 0)) → AddsNear more y old old
adds_none = adds_none_to 9

-- what is read of a transition's curve and sum
module _ (product : Product) (which : Which) (month cell i j e : ℕ) (found : transition_between product i j ≡ Some e)
  where
    pub rate_near : (den : ℕ) (pieces : List Piece) (numbers : List ℤ) → den ≡ product.den
        → pieces ≡ (transition_at product e).rate
        → ((m : ℕ) → IsNear 2 (number_at (curve_cell (cells_of_32 Backward) den pieces month cell) m)
        (slice_index_or numbers m (pos 0)))
        → (m : ℕ) → IsNear 2 (intensity_at (cell_at product which month cell) i j m) (slice_index_or numbers m (pos 0))
    rate_near den pieces numbers is_den are near m =
        rw (intensity-found product which month cell i j e m found, ← is_den, ← are) (near m)

    pub rate_beyond : (den : ℕ) (pieces : List Piece) → den ≡ product.den → pieces ≡ (transition_at product e).rate
        → ((m : ℕ) → 6 ≤ m → number_at (curve_cell (cells_of_32 Backward) den pieces month cell) m ≡ whole (pos 0))
        → (m : ℕ) → 6 ≤ m → intensity_at (cell_at product which month cell) i j m ≡ whole (pos 0)
    rate_beyond den pieces is_den are beyond m six =
        rw (intensity-found product which month cell i j e m found, ← is_den, ← are) (beyond m six)

    pub sum_small : (h : Fraction) (step : Step) → step ≡ sum_at (plan_of which (payments_of product)) e month
        → ((m : ℕ) → size (h *ℚ sum_paid_at (cell_at product which month cell) i j m) ≤ℚ whole (pos 1))
        → (m : ℕ) → size (h *ℚ number_at (amount_cell (cells_of_32 Backward) step month cell) m) ≤ℚ whole (pos 1)
    sum_small h step is small m = rw (is, ← sum-found product which month cell i j e m found) (small m)

    pub sum_near : (h : Fraction) (step : Step) (numbers : List ℤ)
        → step ≡ sum_at (plan_of which (payments_of product)) e month
        → ((m : ℕ) → IsWithinUnit (h *ℚ number_at (amount_cell (cells_of_32 Backward) step month cell) m)
        (slice_index_or numbers m (pos 0)))
        → (m : ℕ) → IsWithinUnit (h *ℚ sum_paid_at (cell_at product which month cell) i j m)
        (slice_index_or numbers m (pos 0))
    sum_near h step numbers is near m = rw (sum-found product which month cell i j e m found, ← is) (near m)

-- a number that is stored, or none
pub stored_zero : (x : Fraction) (z : ℤ) → x ≡ whole (pos 0) → z ≡ pos 0 → IsStored x z
stored_zero x z nothing none = record {
  near = rw none
      (le_trans (le_of_equal (ap size (ap (λ y. y -ℚ units (pos 0)) nothing
      ∙ ap (λ y. whole (pos 0) -ℚ y) (over-zero (2 ^ 64))
      ∙ ring [] (hlevel terms) refl) ∙ size_zero)) (natural 1 (2 ^ 64)));
  none = λ is. none;
}
