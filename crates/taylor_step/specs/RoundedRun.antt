-- Rounded Taylor coefficients: each is what the stored system gives from the ones before it, rounded down
-- once.
use Rattle.std.specs.Prelude.{◌≡◌, ℕ, suc, ◌-◌, ◌<◌, ℤ, pos, List, length, slice_index_or}
use Rattle.frac_laws.specs.Fraction.{Fraction, whole, ◌+ℚ◌, ◌*ℚ◌, ◌-ℚ◌, ◌≤ℚ◌, ◌<ℚ◌}
use Rattle.frac_laws.specs.Sums.{sum_to}
use Rattle.linear_system.specs.StoredSystem.{StoredSystem, dim_of, stored_number, stored_free}
use Rattle.linear_system.specs.StandsFor.{units}

-- what the matrix stored at a power gives at a row from numbers by column: its row times the numbers
abbrev pub stored_image : StoredSystem → ℕ → (ℕ → ℤ) → ℕ → Fraction
stored_image s m numbers row =
    sum_to (dim_of s) (λ col. units (stored_number s row col m) *ℚ units (numbers col))

-- A_0 z_k + .. + A_k z_0 + g_k at a row, exact, from the stored numbers: what (k + 1) z_(k+1) is before its
-- rounding
abbrev pub unrounded : StoredSystem → (ℕ → ℕ → ℤ) → ℕ → ℕ → Fraction
unrounded s z k row = sum_to (suc k) (λ m. stored_image s m (z (k - m)) row) +ℚ units (stored_free s row k)

-- what the rounding leaves out of it
abbrev pub left_out : StoredSystem → (ℕ → ℕ → ℤ) → ℕ → ℕ → Fraction
left_out s z k row = unrounded s z k row -ℚ whole (pos (suc k)) *ℚ units (z (suc k) row)

-- z_0, z_1, .. up to a degree, by power and row in units of 2^-64: z_0 is the start, and each z_(k+1) is the
-- exact
-- sum divided by k + 1, rounded down to a unit
pub record IsRoundedRun (s : StoredSystem) (start : List ℤ) (degree : ℕ) (z : ℕ → ℕ → ℤ) : Type 0 where
  pub first : (row : ℕ) → row < dim_of s → z 0 row ≡ slice_index_or start row (pos 0)
  pub low : (k row : ℕ) → k < degree → row < dim_of s → whole (pos 0) ≤ℚ left_out s z k row
  pub high : (k row : ℕ) → k < degree → row < dim_of s
      → left_out s z k row <ℚ whole (pos (suc k)) *ℚ units (pos 1)

-- the numbers are, row by row, the sum of such coefficients
pub record IsRoundedValue (s : StoredSystem) (start : List ℤ) (degree : ℕ) (value : List ℤ) : Type 0 where
  pub coefficients : ℕ → ℕ → ℤ
  pub run : IsRoundedRun s start degree coefficients
  pub rows : length value ≡ length start
  pub total : (row : ℕ) → row < dim_of s
      → units (slice_index_or value row (pos 0)) ≡ sum_to (suc degree) (λ k. units (coefficients k row))
