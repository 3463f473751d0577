-- Rows of second moments in a stored system, behind those of first moments.
use Rattle.std.specs.Prelude.{◌≡◌, ◌≢◌, ℕ, pos, ◌+◌, ◌^◌, ◌<◌, ◌≤◌, ℤ, unsigned_abs, List, length}
use Rattle.std.specs.Prelude.{slice_index_or, Some}
use Rattle.frac_laws.specs.Fraction.{Fraction, over, whole, size, ◌+ℚ◌, ◌*ℚ◌, ◌≤ℚ◌}
use Rattle.frac_laws.specs.Sums.{sum_to}
use Rattle.model_specs.specs.Product.{Product}
use Rattle.model_specs.specs.Cells.{CellCurves, transition_between}
use Rattle.model_specs.specs.Systems.{interest_at, intensity_at, leaving_at, sum_paid_at, first_payment_at}
use Rattle.model_specs.specs.Systems.{second_payment_at, backward_entry, coupling_entry}
use Rattle.linear_system.specs.StoredSystem.{StoredSystem, dim_of, stored_number, stored_free}
use Rattle.linear_system.specs.Setting.{HasPlace, HaveSamePlaces}
use Rattle.cell_coeffs.specs.Near.{IsNear, IsWithinUnit, IsStored}
use Rattle.cell_coeffs.specs.Cut.{IsStoredCut}
use Rattle.cell_coeffs.specs.Rows.{IsSmallCell}

-- numbers of both moments that can be stored; h is 1 / G
pub record IsSmallPair (cell : CellCurves) (h : Fraction) : Type 0 where
  pub first : IsSmallCell cell h
  pub sums_none : (i j m : ℕ) → 4 ≤ m → sum_paid_at cell i j m ≡ whole (pos 0)
  pub diagonal : (i m : ℕ) → i < cell.states
      → size ((interest_at cell m +ℚ interest_at cell m) +ℚ leaving_at cell i m) ≤ℚ over (pos 5) 256
  pub free : (i m : ℕ) → i < cell.states → m < 12
      → size (h *ℚ h *ℚ sum_to cell.states (λ j. second_payment_at cell i j m)) ≤ℚ over (pos 1) 256

-- what is read of a transition: its intensity in fine units and its sum in units of 2^-64
pub record IsReadLink (cell : CellCurves) (h : Fraction) (i j : ℕ) (rates sums : List ℤ) : Type 0 where
  pub rate : (m : ℕ) → IsNear 2 (intensity_at cell i j m) (slice_index_or rates m (pos 0))
  pub sum : (m : ℕ) → IsWithinUnit (h *ℚ sum_paid_at cell i j m) (slice_index_or sums m (pos 0))
  pub rate_size : (m : ℕ) → unsigned_abs (slice_index_or rates m (pos 0)) ≤ 2 ^ 64
  pub sum_size : (m : ℕ) → unsigned_abs (slice_index_or sums m (pos 0)) ≤ 2 ^ 64

-- a system for both moments of a product, the second ones behind the first: places for each transition and on the
-- diagonal of both, and from the first moments to the second ones, and powers up to 11
pub record IsMadeForMoments (product : Product) (s : StoredSystem) : Type 0 where
  pub dim_is : dim_of s ≡ length product.states + length product.states
  pub powers : 11 ≤ s.degree
  pub diagonal : (i : ℕ) → i < length product.states → HasPlace s i i
  pub links : (i j e : ℕ) → i < length product.states → j < length product.states
      → transition_between product i j ≡ Some e → HasPlace s i j
  pub second_diagonal : (i : ℕ) → i < length product.states
      → HasPlace s (length product.states + i) (length product.states + i)
  pub second_links : (i j e : ℕ) → i < length product.states → j < length product.states
      → transition_between product i j ≡ Some e → HasPlace s (length product.states + i) (length product.states + j)
  pub own_coupling : (i : ℕ) → i < length product.states → HasPlace s (length product.states + i) i
  pub coupling : (i j e : ℕ) → i < length product.states → j < length product.states
      → transition_between product i j ≡ Some e → HasPlace s (length product.states + i) j
  pub one_way : (i c : ℕ) → i < length product.states → length product.states ≤ c → HasPlace s i c → ⊥

-- only numbers of a row and two columns have changed
pub record KeepsOtherColumns (old new : StoredSystem) (row col other : ℕ) : Type 0 where
  pub places : HaveSamePlaces old new
  pub columns : (c m : ℕ) → c ≢ col → c ≢ other → stored_number new row c m ≡ stored_number old row c m
  pub rows : (r c m : ℕ) → r ≢ row → stored_number new r c m ≡ stored_number old r c m

-- what the transitions from a state to the first states do to its second moment is stored, and nothing else of its row
pub record HasSecondLinks (cell : CellCurves) (h : Fraction) (i states : ℕ) (s : StoredSystem) : Type 0 where
  pub links : (c m : ℕ) → c < states → c ≢ i
      → IsStored (intensity_at cell i c m) (stored_number s (cell.states + i) (cell.states + c) m)
  pub coupling : (c m : ℕ) → c < states → c ≢ i → IsStoredCut
      (h *ℚ (whole (pos 2) *ℚ first_payment_at cell i c m)) (stored_number s (cell.states + i) c m)
  pub own : (m : ℕ) → stored_number s (cell.states + i) (cell.states + i) m ≡ pos 0
  pub own_coupling : (m : ℕ) → stored_number s (cell.states + i) i m ≡ pos 0
  pub later : (c m : ℕ) → states ≤ c → c < cell.states → stored_number s (cell.states + i) c m ≡ pos 0
  pub last : (c m : ℕ) → cell.states + states ≤ c → stored_number s (cell.states + i) c m ≡ pos 0

-- a row of Norberg's equation: the second moments themselves, what the first ones give them, and what is free, the
-- payments times h and their squares times h^2
pub record IsStoredSecondRow (cell : CellCurves) (h : Fraction) (i : ℕ) (s : StoredSystem) : Type 0 where
  pub numbers : (c m : ℕ) → c < cell.states
      → IsStored (backward_entry cell 2 m i c) (stored_number s (cell.states + i) (cell.states + c) m)
  pub coupling : (c m : ℕ) → c < cell.states → m < 9
      → IsStoredCut (h *ℚ coupling_entry cell m i c) (stored_number s (cell.states + i) c m)
  pub coupling_end : (c m : ℕ) → c < cell.states → 9 ≤ m → stored_number s (cell.states + i) c m ≡ pos 0
  pub free : (m : ℕ) → m < 12
      → IsStoredCut (h *ℚ h *ℚ sum_to cell.states (λ j. second_payment_at cell i j m))
      (stored_free s (cell.states + i) m)
  pub no_more : (m : ℕ) → 12 ≤ m → stored_free s (cell.states + i) m ≡ pos 0
