-- A row of a cell's equation, and how small its numbers are.
use Rattle.std.specs.Prelude.{◌≡◌, ◌≢◌, ℕ, pos, ◌+◌, ◌^◌, ◌<◌, ◌≤◌, ℤ, unsigned_abs, List, length, slice_index_or, Some}
use Rattle.frac_laws.specs.Fraction.{Fraction, over, size, whole, ◌+ℚ◌, ◌*ℚ◌, ◌≤ℚ◌}
use Rattle.frac_laws.specs.Sums.{sum_to}
use Rattle.model_specs.specs.Product.{Product}
use Rattle.model_specs.specs.Cells.{CellCurves, Backward, cells_of_32, cell_curves, transition_between}
use Rattle.model_specs.specs.Systems.{interest_at, intensity_at, sojourn_rate_at, sum_paid_at, leaving_at}
use Rattle.model_specs.specs.Systems.{first_payment_at}
use Rattle.payment_plan.specs.declared.pattern.Which.{Which}
use Rattle.payment_plan.specs.Payments.{plan_of}
use Rattle.product_model.specs.Views.{payments_of}
use Rattle.cell_bounds.specs.CellBounds.{rate_bound, load_bound}
use Rattle.linear_system.specs.StoredSystem.{StoredSystem, dim_of, stored_number}
use Rattle.linear_system.specs.Setting.{HasPlace, HaveSamePlaces}
use Rattle.cell_coeffs.specs.Near.{IsNear}

-- the curves and payments of a backward cell
abbrev pub cell_at : Product → Which → ℕ → ℕ → CellCurves
cell_at product which month cell =
    cell_curves (cells_of_32 Backward) product (plan_of which (payments_of product)) month cell

-- numbers that can be stored; h is 1 / G
pub record IsSmallCell (cell : CellCurves) (h : Fraction) : Type 0 where
  pub interest : (m : ℕ) → size (interest_at cell m) ≤ℚ over (pos 1) 64
  pub intensity : (i j : ℕ) → i < cell.states → j < cell.states → (m : ℕ)
      → size (intensity_at cell i j m) ≤ℚ over (pos 1) 192 *ℚ rate_bound m
  pub intensity_most : (i j : ℕ) → i < cell.states → j < cell.states → (m : ℕ)
      → size (intensity_at cell i j m) ≤ℚ over (pos 1) 64
  pub sojourn : (i m : ℕ) → i < cell.states → size (h *ℚ sojourn_rate_at cell i m) ≤ℚ over (pos 1) 64
  pub sums : (i j m : ℕ) → size (h *ℚ sum_paid_at cell i j m) ≤ℚ load_bound m
  pub sums_most : (i j m : ℕ) → size (h *ℚ sum_paid_at cell i j m) ≤ℚ whole (pos 1)
  pub diagonal : (i m : ℕ) → i < cell.states → size (interest_at cell m +ℚ leaving_at cell i m) ≤ℚ over (pos 5) 256
  pub free : (i m : ℕ) → i < cell.states → m < 9
      → size (h *ℚ (sojourn_rate_at cell i m +ℚ sum_to cell.states (λ j. first_payment_at cell i j m)))
      ≤ℚ over (pos 5) 256
  pub few : cell.states ≤ 12
  pub interest_none : (m : ℕ) → 6 ≤ m → interest_at cell m ≡ whole (pos 0)
  pub intensity_none : (i j m : ℕ) → 6 ≤ m → intensity_at cell i j m ≡ whole (pos 0)

-- of the first powers: numbers near x by so many halves of a fine unit are near x and y by so many more
abbrev pub AddsNearTo : (powers more : ℕ) → (ℕ → Fraction) → List ℤ → List ℤ → Type 0
AddsNearTo powers more y old new = (halves m : ℕ) (x : Fraction) → m < powers
    → IsNear halves x (slice_index_or old m (pos 0)) → IsNear (halves + more) (x +ℚ y m) (slice_index_or new m (pos 0))

-- of the nine powers of a row of Thiele's equation
abbrev pub AddsNear : ℕ → (ℕ → Fraction) → List ℤ → List ℤ → Type 0
AddsNear = AddsNearTo 9

-- no number has grown by more than 1
abbrev pub GrowsLittle : List ℤ → List ℤ → Type 0
GrowsLittle old new =
    (m : ℕ) → unsigned_abs (slice_index_or new m (pos 0)) ≤ unsigned_abs (slice_index_or old m (pos 0)) + 2 ^ 64

-- only numbers of a row and a column have changed
pub record KeepsOthers (old new : StoredSystem) (row col : ℕ) : Type 0 where
  pub places : HaveSamePlaces old new
  pub columns : (c m : ℕ) → c ≢ col → stored_number new row c m ≡ stored_number old row c m
  pub rows : (r c m : ℕ) → r ≢ row → stored_number new r c m ≡ stored_number old r c m

-- a system with room for the first moments of a product: places for each transition and on the diagonal of the first
-- rows, and powers up to 8
pub record HasFirstPlaces (product : Product) (s : StoredSystem) : Type 0 where
  pub fits : length product.states ≤ dim_of s
  pub powers : 8 ≤ s.degree
  pub diagonal : (i : ℕ) → i < length product.states → HasPlace s i i
  pub links : (i j e : ℕ) → i < length product.states → j < length product.states
      → transition_between product i j ≡ Some e → HasPlace s i j

-- a system for the first moments of a product: places for each transition and on the diagonal, and powers up to 8
pub record IsMadeForFirst (product : Product) (s : StoredSystem) : Type 0 where
  pub dim_is : dim_of s ≡ length product.states
  pub powers : 8 ≤ s.degree
  pub diagonal : (i : ℕ) → i < length product.states → HasPlace s i i
  pub links : (i j e : ℕ) → i < length product.states → j < length product.states
      → transition_between product i j ≡ Some e → HasPlace s i j
