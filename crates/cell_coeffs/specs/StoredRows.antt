-- Rows of a stored system that stand for those of a cell's equation.
use Rattle.std.specs.Prelude.{◌≡◌, ◌≢◌, ℕ, pos, ◌<◌, ◌≤◌, ◌⊎◌}
use Rattle.frac_laws.specs.Fraction.{Fraction, ◌+ℚ◌, ◌*ℚ◌}
use Rattle.frac_laws.specs.Sums.{sum_to}
use Rattle.model_specs.specs.Cells.{CellCurves}
use Rattle.model_specs.specs.Systems.{intensity_at, sojourn_rate_at, first_payment_at, backward_entry}
use Rattle.linear_system.specs.StoredSystem.{StoredSystem, stored_number, stored_free}
use Rattle.linear_system.specs.Setting.{HaveSamePlaces}
use Rattle.cell_coeffs.specs.Near.{IsStored}

-- the intensities to the first states are stored, and nothing else of the row
pub record HasLinks (cell : CellCurves) (i states : ℕ) (s : StoredSystem) : Type 0 where
  pub links : (c m : ℕ) → c < states → c ≢ i → IsStored (intensity_at cell i c m) (stored_number s i c m)
  pub others : (c m : ℕ) → (c ≡ i) ⊎ (states ≤ c) → stored_number s i c m ≡ pos 0

-- the places and the other rows are kept
pub record KeepsRows (old new : StoredSystem) (row : ℕ) : Type 0 where
  pub places : HaveSamePlaces old new
  pub rows : (r c m : ℕ) → r ≢ row → stored_number new r c m ≡ stored_number old r c m

-- a row of Thiele's equation, whose payments are times h
pub record IsStoredRow (cell : CellCurves) (h : Fraction) (i : ℕ) (s : StoredSystem) : Type 0 where
  pub numbers : (c m : ℕ) → c < cell.states → IsStored (backward_entry cell 1 m i c) (stored_number s i c m)
  pub free : (m : ℕ) → m < 9 → IsStored
      (h *ℚ (sojourn_rate_at cell i m +ℚ sum_to cell.states (λ j. first_payment_at cell i j m))) (stored_free s i m)
  pub no_more : (m : ℕ) → 9 ≤ m → stored_free s i m ≡ pos 0
