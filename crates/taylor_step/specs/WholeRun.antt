-- The whole-number run of a step: each new number of a row is the floor of one exact sum.
use Rattle.std.specs.Prelude.{ℕ, zero, suc, ◌*◌, ◌^◌, ◌<◌, ◌≤◌, ℤ, pos, ◌+ℤ◌, unsigned_abs}
use Rattle.std.specs.Prelude.{List, [], ◌∷◌, ◌++◌, map, slice_index_or}
use Rattle.frac_laws.specs.Rounding.{floor_of}
use Rattle.fixed_num.specs.Products.{sum_of_products, sum_of_sizes}
use Rattle.linear_system.specs.StoredSystem.{StoredSystem, StoredRow, row_of, dim_of}

-- the numbers of some columns, the newest ones first: those of n powers one after another
abbrev pub strip : List ℕ → (ℕ → ℕ → ℤ) → ℕ → List ℤ
strip columns past zero = []
strip columns past (suc n) = map (past 0) columns ++ strip columns (λ m. past (suc m)) n

-- the number of a row at power k + 1, from the numbers m powers back
abbrev pub new_number : StoredRow → ℕ → (ℕ → ℕ → ℤ) → ℕ → ℤ
new_number r degree past k =
    floor_of (sum_of_products r.numbers (strip r.columns past (suc degree))) (pos (2 ^ 64 * suc k))

-- the start, with 2^64 for the free column: the free number of power k then meets a factor of 2^64 at power k
-- alone
abbrev pub start_number : List ℤ → ℕ → ℤ
start_number mid col = slice_index_or (mid ++ pos (2 ^ 64) ∷ []) col (pos 0)

-- before the start all is 0
abbrev pub only_start : List ℤ → ℕ → ℕ → ℤ
only_start mid zero col = start_number mid col
only_start mid (suc m) col = pos 0

-- one power on, what was m powers back is m + 1 powers back
abbrev pub one_on : (ℕ → ℤ) → (ℕ → ℕ → ℤ) → ℕ → ℕ → ℤ
one_on new past zero col = new col
one_on new past (suc m) col = past m col

-- at power k, the number of a column m powers back
unfoldable pub past : StoredSystem → List ℤ → ℕ → ℕ → ℕ → ℤ
past s mid zero = only_start mid
past s mid (suc k) = one_on (λ col. new_number (row_of s col) s.degree (past s mid k) k) (past s mid k)

-- nothing yet
abbrev pub nothing : ℕ → ℕ → ℤ
nothing m col = pos 0

-- the same numbers without the start: at power k, what came after it, and 0 at the start and before
unfoldable pub later : StoredSystem → List ℤ → ℕ → ℕ → ℕ → ℤ
later s mid zero = nothing
later s mid (suc k) = one_on (λ col. new_number (row_of s col) s.degree (past s mid k) k) (later s mid k)

-- the coefficient of power k at a row
abbrev pub coefficient : StoredSystem → List ℤ → ℕ → ℕ → ℤ
coefficient s mid k row = past s mid k 0 row

-- the sum of the coefficients up to power k at a row
unfoldable pub value_to : StoredSystem → List ℤ → ℕ → ℕ → ℤ
value_to s mid zero row = slice_index_or mid row (pos 0)
value_to s mid (suc k) row = value_to s mid k row +ℤ coefficient s mid (suc k) row

-- the exact sums of all 24 powers fit, and so do the sums of the coefficients
pub record ProductsFit (s : StoredSystem) (mid : List ℤ) : Type 0 where
  pub fit : (k row : ℕ) → k < 24 → row < dim_of s
      → sum_of_sizes (row_of s row).numbers (strip (row_of s row).columns (past s mid k) (suc s.degree)) < 2 ^
      126
  pub start_small : (row : ℕ) → unsigned_abs (slice_index_or mid row (pos 0)) ≤ 2 ^ 66
