-- Tame systems and pairs: so small that Taylor coefficients decay and an error hardly grows over a cell.
use Rattle.std.specs.Prelude.{ℕ, zero, suc, pos, List, length, ◌^◌}
use Rattle.frac_laws.specs.Fraction.{Fraction, over, whole, ◌+ℚ◌, ◌*ℚ◌, ◌-ℚ◌, ◌≤ℚ◌}
use Rattle.frac_laws.specs.Sums.{sum_to, power}
use Rattle.frac_laws.specs.Lists.{Vector, Matrix, vector_at, matrix_at, add_matrices, scale_matrix}
use Rattle.frac_laws.specs.Lists.{identity}
use Rattle.frac_laws.specs.Norms.{Norm, Sup, norm_of_vector, norm_of_matrix}
use Rattle.cell_laws.specs.Systems.{System}
use Rattle.cell_laws.specs.Pairs.{CoupledPair}

-- |A_m|
abbrev pub matrix_norm_at : Norm → List Matrix → ℕ → Fraction
matrix_norm_at norm matrices m = norm_of_matrix norm (matrix_at matrices m)

-- |g_m|
abbrev pub vector_norm_at : Norm → List Vector → ℕ → Fraction
vector_norm_at norm vectors m = norm_of_vector norm (vector_at vectors m)

-- 8^m times the term at m
abbrev pub weighted : (ℕ → Fraction) → ℕ → Fraction
weighted f m = power (whole (pos 8)) m *ℚ f m

-- F, the sum of the norms |A_m|
abbrev pub total_norm : Norm → List Matrix → Fraction
total_norm norm matrices = sum_to (length matrices) (matrix_norm_at norm matrices)

-- the sum of 8^m |A_m|
abbrev pub weighted_norm : Norm → List Matrix → Fraction
weighted_norm norm matrices = sum_to (length matrices) (weighted (matrix_norm_at norm matrices))

-- the sum of 8^m |g_m|
abbrev pub weighted_norm_of_vectors : Norm → List Vector → Fraction
weighted_norm_of_vectors norm vectors = sum_to (length vectors) (weighted (vector_norm_at norm vectors))

-- I + A_0 + A_1 / 2 + .. + A_(n-1) / n: what the cell does to a start where each A_m acts at most once
abbrev pub one_factor_map : ℕ → List Matrix → ℕ → Matrix
one_factor_map dimension matrices zero = identity dimension
one_factor_map dimension matrices (suc m) =
    add_matrices
    (one_factor_map dimension matrices m) (scale_matrix (over (pos 1) (suc m)) (matrix_at matrices m))

-- kappa, the growth of a cell, counted in units of 2^-40
abbrev pub growth_of : ℕ → Fraction
growth_of kappa40 = over (pos kappa40) (2 ^ 40)

-- |I + sum of A_m / (m + 1)|
abbrev pub one_factor_norm : Norm → System → Fraction
one_factor_norm norm s = norm_of_matrix norm (one_factor_map s.dimension s.matrices (length s.matrices))

-- 2 (1 - f)
abbrev pub twice_the_rest : Fraction → Fraction
twice_the_rest f = whole (pos 2) *ℚ (whole (pos 1) -ℚ f)

-- p + f^2 / (2 (1 - f)) <= 1 + kappa, multiplied out by 2 (1 - f)
abbrev pub IsGrowth : (f p kappa : Fraction) → Type 0
IsGrowth f p kappa = twice_the_rest f *ℚ p +ℚ f *ℚ f ≤ℚ twice_the_rest f *ℚ (whole (pos 1) +ℚ kappa)

-- a system is tame with growth kappa40 / 2^40 in a norm
pub record IsTame (norm : Norm) (kappa40 : ℕ) (s : System) : Type 0 where
  pub total : total_norm norm s.matrices ≤ℚ over (pos 1) 64
  pub matrices : weighted_norm norm s.matrices ≤ℚ over (pos 1) 16
  pub free : weighted_norm_of_vectors norm s.free ≤ℚ over (pos 1) 8
  pub growth : IsGrowth (total_norm norm s.matrices) (one_factor_norm norm s) (growth_of kappa40)

-- a pair is tame in Sup with growth kappa40 / 2^40 and coupling c
pub record IsTamePair (kappa40 : ℕ) (c : Fraction) (p : CoupledPair) : Type 0 where
  pub first : IsTame Sup kappa40 p.first
  pub second : IsTame Sup kappa40 p.second
  pub second_free : weighted_norm_of_vectors Sup p.second.free ≤ℚ over (pos 1) 32
  pub coupling : weighted_norm Sup p.coupling ≤ℚ over (pos 5) 32
  pub total_coupling : total_norm Sup p.coupling ≤ℚ over (pos 15) 16 *ℚ c
