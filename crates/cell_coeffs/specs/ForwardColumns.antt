-- Columns of a stored system that stand for those of Kolmogorov's equation, and the places that they take.
use Rattle.std.specs.Prelude.{◌≡◌, ◌≢◌, ℕ, pos, ◌<◌, ◌≤◌, ◌⊎◌, length, Some}
use Rattle.frac_laws.specs.Fraction.{Fraction, over, size, whole, opposite, ◌+ℚ◌, ◌≤ℚ◌}
use Rattle.model_specs.specs.Product.{Product}
use Rattle.model_specs.specs.Cells.{CellCurves, transition_between}
use Rattle.model_specs.specs.Systems.{intensity_at, leaving_at, where_same}
use Rattle.linear_system.specs.StoredSystem.{StoredSystem, dim_of, stored_number}
use Rattle.linear_system.specs.Setting.{HasPlace, HaveSamePlaces}
use Rattle.cell_coeffs.specs.Near.{IsStored}

-- intensities that can be stored, and none from a state to itself
pub record HasSmallFlows (cell : CellCurves) : Type 0 where
  pub flows : (i j m : ℕ) → i < cell.states → j < cell.states → size (intensity_at cell i j m) ≤ℚ over (pos 1) 64
  pub leaving : (i m : ℕ) → i < cell.states → size (leaving_at cell i m) ≤ℚ over (pos 5) 256
  pub few : cell.states ≤ 12
  pub loop : (i m : ℕ) → intensity_at cell i i m ≡ whole (pos 0)
  pub none : (i j m : ℕ) → 6 ≤ m → intensity_at cell i j m ≡ whole (pos 0)

-- the number of the forward matrix in row j and column i at power m: what flows from i to j, and on the diagonal what
-- leaves
abbrev pub forward_entry : CellCurves → ℕ → ℕ → ℕ → Fraction
forward_entry cell m j i = intensity_at cell i j m +ℚ where_same j i (opposite (leaving_at cell j m))

-- the intensities from i to the first states are stored in its column, and nothing else
pub record HasFlows (cell : CellCurves) (i states : ℕ) (s : StoredSystem) : Type 0 where
  pub flows : (j m : ℕ) → j < states → j ≢ i → IsStored (intensity_at cell i j m) (stored_number s j i m)
  pub others : (j m : ℕ) → (j ≡ i) ⊎ (states ≤ j) → stored_number s j i m ≡ pos 0

-- the places and the other columns are kept
pub record KeepsColumns (old new : StoredSystem) (col : ℕ) : Type 0 where
  pub places : HaveSamePlaces old new
  pub columns : (r c m : ℕ) → c ≢ col → stored_number new r c m ≡ stored_number old r c m

-- a column of Kolmogorov's equation
abbrev pub IsStoredColumn : CellCurves → ℕ → StoredSystem → Type 0
IsStoredColumn cell i s =
    (j m : ℕ) → j < cell.states → IsStored (forward_entry cell m j i) (stored_number s j i m)

-- a system for the probabilities of a product: places on the diagonal, and for a transition from i to j in row j and
-- column i, and powers up to 5
pub record IsMadeForward (product : Product) (s : StoredSystem) : Type 0 where
  pub dim_is : dim_of s ≡ length product.states
  pub degree_is : s.degree ≡ 5
  pub diagonal : (i : ℕ) → i < length product.states → HasPlace s i i
  pub links : (i j e : ℕ) → i < length product.states → j < length product.states
      → transition_between product i j ≡ Some e → HasPlace s j i
