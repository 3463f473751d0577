-- When one system stands for another: its numbers are those that are stored, and each is close to the exact
-- one.
use Rattle.std.specs.Prelude.{◌≡◌, ℕ, pos, List, length, ◌^◌, ◌<◌, ◌≤◌}
use Rattle.frac_laws.specs.Fraction.{Fraction, over, whole, size, ◌-ℚ◌, ◌≤ℚ◌}
use Rattle.frac_laws.specs.Lists.{Vector, Matrix, number_at, vector_at, matrix_at}
use Rattle.cell_laws.specs.Systems.{System}
use Rattle.cell_laws.specs.Pairs.{CoupledPair}

-- n units of 2^-64
abbrev pub units : ℕ → Fraction
units n = over (pos n) (2 ^ 64)

-- the number of A_m in a row and a column
abbrev pub entry_at : List Matrix → (m row col : ℕ) → Fraction
entry_at matrices m row col = number_at (vector_at (matrix_at matrices m) row) col

-- matrices of at most d rows and d columns, all 0 beyond power 11
pub record MatricesFit (d : ℕ) (matrices : List Matrix) : Type 0 where
  pub rows : (m : ℕ) → length (matrix_at matrices m) ≤ d
  pub columns : (m row : ℕ) → length (vector_at (matrix_at matrices m) row) ≤ d
  pub no_more : (m row col : ℕ) → 12 ≤ m → entry_at matrices m row col ≡ whole (pos 0)

-- vectors of at most d numbers, all 0 beyond power 11
pub record VectorsFit (d : ℕ) (vectors : List Vector) : Type 0 where
  pub numbers : (m : ℕ) → length (vector_at vectors m) ≤ d
  pub no_more : (m row : ℕ) → 12 ≤ m → number_at (vector_at vectors m) row ≡ whole (pos 0)

-- each stored number of each matrix is at most some units away from the exact one
pub record MatricesStandFor (error d : ℕ) (stored exact : List Matrix) : Type 0 where
  pub stored_fit : MatricesFit d stored
  pub exact_fit : MatricesFit d exact
  pub near : (m row col : ℕ) → row < d → col < d
      → size (entry_at exact m row col -ℚ entry_at stored m row col) ≤ℚ units error

-- and so for vectors
pub record VectorsStandFor (error d : ℕ) (stored exact : List Vector) : Type 0 where
  pub stored_fit : VectorsFit d stored
  pub exact_fit : VectorsFit d exact
  pub near : (m row : ℕ) → row < d
      → size (number_at (vector_at exact m) row -ℚ number_at (vector_at stored m) row) ≤ℚ units error

-- a system: each stored number of A_m is at most one unit away, each of g_m at most three
pub record StandsFor (stored exact : System) : Type 0 where
  pub dimension : stored.dimension ≡ exact.dimension
  pub matrices : MatricesStandFor 1 exact.dimension stored.matrices exact.matrices
  pub free : VectorsStandFor 3 exact.dimension stored.free exact.free

-- a pair of halves of one dimension: the same of each half, and each stored number of C_m is at most three
-- units away
pub record PairStandsFor (stored exact : CoupledPair) : Type 0 where
  pub halves : exact.second.dimension ≡ exact.first.dimension
  pub first : StandsFor stored.first exact.first
  pub second : StandsFor stored.second exact.second
  pub coupling : MatricesStandFor 3 exact.first.dimension stored.coupling exact.coupling
