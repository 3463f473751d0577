-- The stored map of a month: one interval for each number, row by row.
use Rattle.std.specs.Prelude.{◌≡◌, ℕ, ◌+◌, ◌*◌, pos, ◌+ℤ◌, List, length, slice_index_or}
use Rattle.fixed_interval.specs.declared.interval.Interval.{Interval}
use Rattle.fixed_interval.specs.Intervals.{HasEndsUpTo}
use Rattle.map_laws.specs.Maps.{IntervalMap, total, product_lo, product_hi}

-- the dimension, the greatest degree of its steps, the matrix row by row, and the free numbers
pub record StoredMap : Type 0 where
  pub dim : ℕ
  pub degree : ℕ
  pub numbers : List Interval
  pub free : List Interval

-- what is read past the end of a list
abbrev pub zero_interval : Interval
zero_interval = record { lo = pos 0; hi = pos 0; ordered = record { le = tt } }

-- the interval at a place
abbrev pub interval_at : List Interval → ℕ → Interval
interval_at numbers k = slice_index_or numbers k zero_interval

-- the numbers by row and column
abbrev pub interval_map : ℕ → List Interval → List Interval → IntervalMap
interval_map dim numbers free = record {
  at = λ row col. interval_at numbers (row * dim + col);
  free = λ row. interval_at free row;
}

-- the numbers of a stored map
abbrev pub map_of : StoredMap → IntervalMap
map_of m = interval_map m.dim m.numbers m.free

-- each end is at most so large in size
abbrev pub HaveEndsUpTo : ℕ → List Interval → Type 0
HaveEndsUpTo most numbers = (k : ℕ) → HasEndsUpTo most (interval_at numbers k)

-- the number of the squared matrix at a row and a column
pub record IsProduct (dim : ℕ) (numbers : List Interval) (row col : ℕ) (a : Interval) : Type 0 where
  pub lo : a.lo ≡ total dim (λ l. product_lo (interval_at numbers (row * dim + l))
      (interval_at numbers (l * dim + col)))
  pub hi : a.hi ≡ total dim (λ l. product_hi (interval_at numbers (row * dim + l))
      (interval_at numbers (l * dim + col)))

-- the free number of the map applied twice at a row
pub record IsFreeProduct (dim : ℕ) (numbers free : List Interval) (row : ℕ) (a : Interval) : Type 0 where
  pub lo : a.lo ≡ (interval_at free row).lo
      +ℤ total dim (λ l. product_lo (interval_at numbers (row * dim + l)) (interval_at free l))
  pub hi : a.hi ≡ (interval_at free row).hi
      +ℤ total dim (λ l. product_hi (interval_at numbers (row * dim + l)) (interval_at free l))

-- a square matrix, and a free number a row
pub record IsFull (m : StoredMap) : Type 0 where
  pub numbers : length m.numbers ≡ m.dim * m.dim
  pub free : length m.free ≡ m.dim

-- the same dimension and degree
pub record IsAlike (old new : StoredMap) : Type 0 where
  pub dim : new.dim ≡ old.dim
  pub degree : new.degree ≡ old.degree
