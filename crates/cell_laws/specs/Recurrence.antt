-- What the coefficients of a system are, number by number, and how two runs of one system differ.
use Rattle.std.specs.Prelude.{◌≡◌, ℕ, suc, pos, List, length, ◌≤◌, ◌-◌}
use Rattle.frac_laws.specs.Fraction.{Fraction, whole, ◌+ℚ◌, ◌*ℚ◌, ◌-ℚ◌, ◌≤ℚ◌}
use Rattle.frac_laws.specs.Sums.{sum_to}
use Rattle.frac_laws.specs.Lists.{Vector, Matrix, number_at, vector_at, matrix_at, subtract_lists, image}
use Rattle.frac_laws.specs.Norms.{Norm, norm_of_vector}
use Rattle.cell_laws.specs.Systems.{System, coefficient, taylor_value, homogeneous, KeepsDimension}
use Rattle.cell_laws.specs.Pairs.{CoupledPair, second_coefficient, second_taylor_value, homogeneous_pair}
use Rattle.cell_laws.specs.Tame.{matrix_norm_at, vector_norm_at}
use Rattle.cell_laws.specs.Driven.{IsDriven}

-- number i of A_0 y_k + .. + A_k y_0
abbrev pub convolved : List Matrix → (ℕ → Vector) → ℕ → ℕ → Fraction
convolved matrices y k i = sum_to (suc k) (λ m. number_at (image (matrix_at matrices m) (y (k - m))) i)

-- (k + 1) y_(k+1) = sum of A_m y_(k-m) + g_k, number by number
abbrev pub CoefficientsRecur : Type 0
CoefficientsRecur = (s : System) (y : Vector) (k i : ℕ) →
    whole (pos (suc k)) *ℚ number_at (coefficient s y (suc k)) i
    ≡ convolved s.matrices (coefficient s y) k i +ℚ number_at (vector_at s.free k) i

-- (k + 1) z_(k+1) = sum of A_m z_(k-m) + sum of C_m w_(k-m) + g_k, number by number
abbrev pub SecondCoefficientsRecur : Type 0
SecondCoefficientsRecur = (p : CoupledPair) (w z : Vector) (k i : ℕ) →
    whole (pos (suc k)) *ℚ number_at (second_coefficient p w z (suc k)) i
    ≡ convolved p.second.matrices (second_coefficient p w z) k i
    +ℚ (convolved p.coupling (coefficient p.first w) k i +ℚ number_at (vector_at p.second.free k) i)

-- a Taylor value is the sum of the coefficients, number by number
abbrev pub TaylorValueSums : Type 0
TaylorValueSums = (s : System) (y : Vector) (n i : ℕ) →
    number_at (taylor_value s y n) i ≡ sum_to (suc n) (λ k. number_at (coefficient s y k) i)

-- and so is that of a pair's second half, by the second half's coefficients
abbrev pub SecondTaylorValueSums : Type 0
SecondTaylorValueSums = (p : CoupledPair) (w z : Vector) (n i : ℕ) →
    number_at (second_taylor_value p w z n) i
    ≡ sum_to (suc n) (λ k. number_at (second_coefficient p w z k) i)

-- the difference of two runs is the homogeneous run of the difference of their starts
abbrev pub CoefficientsSuperpose : Type 0
CoefficientsSuperpose = (s : System) (y x : Vector) (k i : ℕ) →
    number_at (coefficient s y k) i -ℚ number_at (coefficient s x k) i
    ≡ number_at (coefficient (homogeneous s) (subtract_lists y x) k) i

-- and so it is of their Taylor values
abbrev pub TaylorValuesSuperpose : Type 0
TaylorValuesSuperpose = (s : System) (y x : Vector) (n i : ℕ) →
    number_at (taylor_value s y n) i -ℚ number_at (taylor_value s x n) i
    ≡ number_at (taylor_value (homogeneous s) (subtract_lists y x) n) i

-- and so for the second half of a pair
abbrev pub SecondTaylorValuesSuperpose : Type 0
SecondTaylorValuesSuperpose = (p : CoupledPair) (w z v x : Vector) (n i : ℕ) →
    number_at (second_taylor_value p w z n) i -ℚ number_at (second_taylor_value p v x n) i
    ≡ number_at (second_taylor_value (homogeneous_pair p) (subtract_lists w v) (subtract_lists z x) n) i

-- the norms of the coefficients are driven by the norms of the matrices and of the free vectors
abbrev pub NormsAreDriven : Type 0
NormsAreDriven = (norm : Norm) (s : System) (y : Vector) (n : ℕ) →
    IsDriven n (matrix_norm_at norm s.matrices) (vector_norm_at norm s.free)
    (λ k. norm_of_vector norm (coefficient s y k))

-- a Taylor value is within the sum of the norms of its coefficients
abbrev pub TaylorValuesStayWithin : Type 0
TaylorValuesStayWithin = (norm : Norm) (s : System) (y : Vector) (n : ℕ) →
    norm_of_vector norm (taylor_value s y n)
    ≤ℚ sum_to (suc n) (λ k. norm_of_vector norm (coefficient s y k))

-- and so is that of a pair's second half, by the second half's coefficients
abbrev pub SecondTaylorValuesStayWithin : Type 0
SecondTaylorValuesStayWithin = (norm : Norm) (p : CoupledPair) (w z : Vector) (n : ℕ) →
    norm_of_vector norm (second_taylor_value p w z n)
    ≤ℚ sum_to (suc n) (λ k. norm_of_vector norm (second_coefficient p w z k))

-- Taylor values keep the dimension of the system
abbrev pub TaylorValuesKeepDimension : Type 0
TaylorValuesKeepDimension = (s : System) (y : Vector) (n : ℕ) → KeepsDimension s
    → length y ≤ s.dimension → length (taylor_value s y n) ≤ s.dimension

-- and so does the second half of a pair, where the coupling has no more rows
abbrev pub SecondTaylorValuesKeepDimension : Type 0
SecondTaylorValuesKeepDimension = (p : CoupledPair) (w z : Vector) (n : ℕ) → KeepsDimension p.second
    → ((m : ℕ) → length (matrix_at p.coupling m) ≤ p.second.dimension)
    → length z ≤ p.second.dimension → length (second_taylor_value p w z n) ≤ p.second.dimension
