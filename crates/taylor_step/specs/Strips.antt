-- The strips of a step: for each row its history, block by block, the newest block first. The start, whose numbers are
-- larger than those that follow, stands beside them.
use Rattle.std.specs.Prelude.{◌≡◌, ℕ, zero, suc, ◌+◌, ◌-◌, ◌*◌, ◌<◌, ℤ, pos, ◌+ℤ◌, List, [], ◌∷◌}
use Rattle.std.specs.Prelude.{length, map, take, drop, slice_index_or, Vec}
use Rattle.fixed_num.specs.Products.{sum_of_products, sum_of_sizes, items_at}
use Rattle.linear_system.specs.StoredSystem.{StoredSystem, StoredRow, row_of, dim_of}
use Rattle.taylor_step.specs.WholeRun.{strip, start_number, later}

-- a list with another written over its front
abbrev pub over_front : List ℤ → List ℤ → List ℤ
over_front s [] = s
over_front [] (y ∷ block) = []
over_front (x ∷ s) (y ∷ block) = y ∷ over_front s block

-- and over the items from a place on
abbrev pub put_at : List ℤ → ℕ → List ℤ → List ℤ
put_at s zero block = over_front s block
put_at [] (suc at) block = []
put_at (x ∷ s) (suc at) block = x ∷ put_at s at block

-- n zeros
abbrev pub zeros : ℕ → List ℤ
zeros zero = []
zeros (suc n) = pos 0 ∷ zeros n

-- the numbers of the strips
abbrev pub contents : {A : Type 0} → List (Vec ℤ A) → List (List ℤ)
contents strips = map (λ v. v.items) strips

-- the strip of a row
abbrev pub strip_of : List (List ℤ) → ℕ → List ℤ
strip_of strips row = slice_index_or strips row []

-- what a row's product reads at power k: its strip, from the block of the newest numbers on
abbrev pub window : StoredSystem → List (List ℤ) → ℕ → ℕ → List ℤ
window s strips k row =
    take (length (row_of s row).numbers) (drop ((24 - k) * length (row_of s row).columns)
    (strip_of strips row))

-- the numbers of a row for a power, if it has any
abbrev pub numbers_at : StoredRow → ℕ → List ℤ
numbers_at r k = take (length r.columns) (drop (k * length r.columns) r.numbers)

-- at power k the start meets the numbers of power k
abbrev pub start_products : StoredRow → List ℤ → ℕ → ℤ
start_products r start k = sum_of_products (numbers_at r k) (items_at start r.columns)

-- the sizes of these products, added up
abbrev pub start_sizes : StoredRow → List ℤ → ℕ → ℕ
start_sizes r start k = sum_of_sizes (numbers_at r k) (items_at start r.columns)

-- what a row's exact sum at power k is: the products of the start, and those of the strip
abbrev pub products_of : StoredSystem → List ℤ → List (List ℤ) → ℕ → ℕ → ℤ
products_of s start strips k row =
    start_products (row_of s row) start k +ℤ sum_of_products (row_of s row).numbers (window s strips k row)

-- and the sizes of all these products, added up
abbrev pub sizes_of : StoredSystem → List ℤ → List (List ℤ) → ℕ → ℕ → ℕ
sizes_of s start strips k row =
    start_sizes (row_of s row) start k + sum_of_sizes (row_of s row).numbers (window s strips k row)

-- there is a strip for each row, with room for 36 blocks: 24 new ones, and 12 of zeros for the start and before it
pub record HasRoom (s : StoredSystem) (strips : List (List ℤ)) : Type 0 where
  pub rows : length strips ≡ dim_of s
  pub blocks : (row : ℕ) → row < dim_of s → length (strip_of strips row) ≡ 36 * (dim_of s + 1)

-- the numbers of the start, by columns
abbrev pub IsStart : List ℤ → List ℤ → Type 0
IsStart mid start = (col : ℕ) → slice_index_or start col (pos 0) ≡ start_number mid col

-- the strips hold the numbers of the powers from 1 to k
abbrev pub IsHistory : StoredSystem → List ℤ → ℕ → List (List ℤ) → Type 0
IsHistory s mid k strips = (row : ℕ) → row < dim_of s
    → window s strips k row ≡ strip (row_of s row).columns (later s mid k) (suc s.degree)

-- each row's strip has a new block written at a place, counted in blocks of its width
abbrev pub HasNewBlocks : StoredSystem → List (List ℤ) → List (List ℤ) → ℕ → (ℕ → List ℤ) → Type 0
HasNewBlocks s old new block written = (row : ℕ) → row < dim_of s
    → strip_of new row ≡ put_at (strip_of old row) (block * length (row_of s row).columns) (written row)
