-- A stored system `y' = A(x) y + g(x)` of one cell: whole numbers in units of 2^-64, row by row.
use Rattle.std.specs.Prelude.{◌≡◌, ℕ, suc, ◌+◌, ◌*◌, ◌^◌, ◌<◌, ◌≤◌, ℤ, pos, unsigned_abs, List, [], ◌∷◌}
use Rattle.std.specs.Prelude.{length, slice_index, slice_index_or, cond, nat_eq}

-- one row: the columns that may hold numbers, the free one last, and power by power a number for each
pub record StoredRow : Type 0 where
  pub columns : List ℕ
  pub numbers : List ℤ

-- the greatest power of x that may hold numbers, and the rows
pub record StoredSystem : Type 0 where
  pub degree : ℕ
  pub rows : List StoredRow

-- how many unknowns there are
abbrev pub dim_of : StoredSystem → ℕ
dim_of s = length s.rows

-- past the last row nothing is stored
abbrev pub no_row : StoredRow
no_row = record { columns = []; numbers = [] }

-- the row at a place
abbrev pub row_of : StoredSystem → ℕ → StoredRow
row_of s row = slice_index_or s.rows row no_row

-- the place of a column among the columns, or their number where it has none
abbrev pub place_of : List ℕ → ℕ → ℕ
place_of [] col = 0
place_of (c ∷ columns) col = cond (nat_eq c col) 0 (suc (place_of columns col))

-- the number at a place and a power
abbrev pub number_at_place : StoredRow → ℕ → ℕ → ℤ
number_at_place r place m = slice_index_or r.numbers (m * length r.columns + place) (pos 0)

-- the number of a column at a power, or 0 where the column has no place
abbrev pub number_in_row : StoredRow → ℕ → ℕ → ℤ
number_in_row r col m = cond (nat_eq (place_of r.columns col) (length r.columns)) (pos 0)
    (number_at_place r (place_of r.columns col) m)

-- the number of the matrix A_m at a row and a column, in units of 2^-64; 0 where nothing is stored
abbrev pub stored_number : StoredSystem → ℕ → ℕ → ℕ → ℤ
stored_number s row col m = number_in_row (row_of s row) col m

-- the number of the free vector g_m at a row, in units of 2^-64: that of the column behind the matrix
abbrev pub stored_free : StoredSystem → ℕ → ℕ → ℤ
stored_free s row m = stored_number s row (dim_of s) m

-- no column twice, and each below a bound
pub data AreDistinct (bound : ℕ) : List ℕ → Type 0 where
  none : AreDistinct bound []
  also : {c : ℕ} {columns : List ℕ} → c < bound → place_of columns c ≡ length columns
      → AreDistinct bound columns → AreDistinct bound (c ∷ columns)

-- columns that a row of a system of a dimension may have: distinct ones, the free one among them
pub record AreColumns (dim : ℕ) (columns : List ℕ) : Type 0 where
  pub distinct : AreDistinct (suc dim) columns
  pub few : length columns ≤ dim + 1
  pub free : place_of columns dim < length columns
  pub in_range : (place : ℕ) → place < length columns → slice_index columns place ≤ dim

-- what each row keeps: a number for each column and power, each at most 2^59 in size
pub record IsRow (dim degree : ℕ) (r : StoredRow) : Type 0 where
  pub columns : AreColumns dim r.columns
  pub full : length r.numbers ≡ (degree + 1) * length r.columns
  pub small : (k : ℕ) → unsigned_abs (slice_index_or r.numbers k (pos 0)) ≤ 2 ^ 59

-- what each stored system keeps
pub record IsSystem (s : StoredSystem) : Type 0 where
  pub dim_small : dim_of s ≤ 24
  pub degree_small : s.degree ≤ 11
  pub each : (row : ℕ) → row < dim_of s → IsRow (dim_of s) s.degree (row_of s row)
