-- When a stored system stands for an exact system of one cell, or for a pair of them.
use Rattle.std.specs.Prelude.{◌≡◌, ℕ, ◌+◌, ◌^◌, ◌<◌, ◌≤◌, ℤ, pos, List, length, map}
use Rattle.frac_laws.specs.Fraction.{Fraction, over, whole, size, ◌-ℚ◌, ◌≤ℚ◌}
use Rattle.frac_laws.specs.Lists.{Vector, Matrix, number_at, vector_at, matrix_at}
use Rattle.cell_laws.specs.Systems.{System}
use Rattle.cell_laws.specs.Pairs.{CoupledPair}
use Rattle.linear_system.specs.StoredSystem.{StoredSystem, dim_of, stored_number, stored_free}

-- n units of 2^-64
abbrev pub units : ℤ → Fraction
units n = over n (2 ^ 64)

-- at each power up to 11 an exact matrix of d rows and d columns has each number within some units of the
-- stored one, which is read by row, column and power; beyond power 11 the exact matrices are 0
pub record MatricesStandNear (error d : ℕ) (stored : ℕ → ℕ → ℕ → ℤ) (matrices : List Matrix) : Type 0 where
  pub near : (row col m : ℕ) → row < d → col < d
      → size (number_at (vector_at (matrix_at matrices m) row) col -ℚ units (stored row col m)) ≤ℚ units
      (pos error)
  pub rows : (m : ℕ) → length (matrix_at matrices m) ≤ d
  pub columns : (m row : ℕ) → length (vector_at (matrix_at matrices m) row) ≤ d
  pub no_more : (row col m : ℕ) → 12 ≤ m → number_at (vector_at (matrix_at matrices m) row) col ≡ whole
      (pos 0)

-- and so for free vectors of d numbers, whose stored ones are read by row and power
pub record VectorsStandNear (error d : ℕ) (stored : ℕ → ℕ → ℤ) (vectors : List Vector) : Type 0 where
  pub near : (row m : ℕ) → row < d
      → size (number_at (vector_at vectors m) row -ℚ units (stored row m)) ≤ℚ units (pos error)
  pub rows : (m : ℕ) → length (vector_at vectors m) ≤ d
  pub no_more : (row m : ℕ) → 12 ≤ m → number_at (vector_at vectors m) row ≡ whole (pos 0)

-- one system: each stored number of a matrix is at most one unit away, and each free number at most three
pub record StandsFor (s : StoredSystem) (e : System) : Type 0 where
  pub dimension : e.dimension ≡ dim_of s
  pub matrices : MatricesStandNear 1 (dim_of s) (stored_number s) e.matrices
  pub free : VectorsStandNear 3 (dim_of s) (stored_free s) e.free

-- the stored numbers of a block that begins at a row and a column
abbrev pub block_from : StoredSystem → ℕ → ℕ → ℕ → ℕ → ℕ → ℤ
block_from s top left row col m = stored_number s (top + row) (left + col) m

-- a pair: the first half's rows and columns come before the second half's; the coupling stands in the rows of
-- the second half and the columns of the first, each number of it at most three units away; and in the rows
-- of
-- the first half and the columns of the second all stored numbers are 0
pub record StandsForPair (s : StoredSystem) (half : ℕ) (p : CoupledPair) : Type 0 where
  pub halves : dim_of s ≡ half + half
  pub first_dimension : p.first.dimension ≡ half
  pub second_dimension : p.second.dimension ≡ half
  pub first : MatricesStandNear 1 half (stored_number s) p.first.matrices
  pub first_free : VectorsStandNear 3 half (stored_free s) p.first.free
  pub second : MatricesStandNear 1 half (block_from s half half) p.second.matrices
  pub second_free : VectorsStandNear 3 half (λ row m. stored_free s (half + row) m) p.second.free
  pub coupling : MatricesStandNear 3 half (λ row col m. stored_number s (half + row) col m) p.coupling
  pub one_way : (row col m : ℕ) → row < half → half ≤ col → col < dim_of s → stored_number s row col m ≡ pos 0

-- whole numbers of units of 2^-64 as a vector
abbrev pub in_units : List ℤ → Vector
in_units numbers = map units numbers
