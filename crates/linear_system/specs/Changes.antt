-- Stored systems after a write.
use Rattle.std.specs.Prelude.{ℕ, ◌+◌, ◌*◌, ◌<◌, ℤ, pos, length, slice_set, replicate}
use Rattle.linear_system.specs.StoredSystem.{StoredRow, StoredSystem, dim_of, row_of, place_of}

-- the row with one number changed
abbrev pub row_with_number : StoredRow → ℕ → ℕ → ℤ → StoredRow
row_with_number r place m v =
    record { columns = r.columns; numbers = slice_set r.numbers (m * length r.columns + place) v }

-- the system with the number of one column changed
abbrev pub with_number : StoredSystem → ℕ → ℕ → ℕ → ℤ → StoredSystem
with_number s row col m v = record {
  degree = s.degree;
  rows = slice_set s.rows row (row_with_number (row_of s row) (place_of (row_of s row).columns col) m v);
}

-- the row with all numbers 0
abbrev pub cleared_row : StoredRow → StoredRow
cleared_row r = record { columns = r.columns; numbers = replicate (length r.numbers) (pos 0) }

-- the row and the column have a place, the free column too
pub record HasColumn (s : StoredSystem) (row col : ℕ) : Type 0 where
  pub row_in : row < dim_of s
  pub has_column : place_of (row_of s row).columns col < length (row_of s row).columns
