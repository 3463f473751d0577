-- The three systems of a cell, by states and transitions.
use Rattle.std.specs.Prelude.{ℕ, pos, ◌==◌, if◌then◌else◌, []}
use Rattle.frac_laws.specs.Fraction.{Fraction, whole, opposite, ◌+ℚ◌, ◌*ℚ◌}
use Rattle.frac_laws.specs.Sums.{sum_to}
use Rattle.frac_laws.specs.Convolution.{convolution}
use Rattle.frac_laws.specs.Lists.{Vector, Matrix, number_at}
use Rattle.cell_laws.specs.Systems.{System}
use Rattle.cell_laws.specs.Pairs.{CoupledPair}
use Rattle.whole_laws.specs.Whole.{list_of}
use Rattle.model_specs.specs.Cells.{CellCurves}

-- r_m: the coefficient of x^m of the interest, 0 past the degree
abbrev pub interest_at : CellCurves → ℕ → Fraction
interest_at cell m = number_at cell.interest m

-- mu_ij,m: that of the intensity from i to j
abbrev pub intensity_at : CellCurves → ℕ → ℕ → ℕ → Fraction
intensity_at cell i j m = number_at (cell.intensity i j) m

-- b_i,m: that of the sojourn rate of i
abbrev pub sojourn_rate_at : CellCurves → ℕ → ℕ → Fraction
sojourn_rate_at cell i m = number_at (cell.sojourn i) m

-- b_ij,m: that of the sum paid on a transition from i to j
abbrev pub sum_paid_at : CellCurves → ℕ → ℕ → ℕ → Fraction
sum_paid_at cell i j m = number_at (cell.sum i j) m

-- d_ij,m: the sum over a from 0 to m of mu_ij,a b_ij,m-a
abbrev pub first_payment_at : CellCurves → ℕ → ℕ → ℕ → Fraction
first_payment_at cell i j m = convolution (intensity_at cell i j) (sum_paid_at cell i j) m

-- e_ij,m: the sum over a from 0 to m of d_ij,a b_ij,m-a
abbrev pub second_payment_at : CellCurves → ℕ → ℕ → ℕ → Fraction
second_payment_at cell i j m = convolution (first_payment_at cell i j) (sum_paid_at cell i j) m

-- the sum over j of mu_ij,m: the intensity of leaving i
abbrev pub leaving_at : CellCurves → ℕ → ℕ → Fraction
leaving_at cell i m = sum_to cell.states (λ j. intensity_at cell i j m)

-- a number where two states are one, and else 0
abbrev pub where_same : ℕ → ℕ → Fraction → Fraction
where_same i j x = if i == j then x else whole (pos 0)

-- the matrix with f i j in row i and column j, over the states
abbrev pub matrix_of : ℕ → (ℕ → ℕ → Fraction) → Matrix
matrix_of states f = list_of states (λ i. list_of states (f i))

-- the vector with f i at place i, over the states
abbrev pub vector_of : ℕ → (ℕ → Fraction) → Vector
vector_of states f = list_of states f

-- the number of the backward matrix in row i and column j at power m, with the interest taken so many times
abbrev pub backward_entry : CellCurves → ℕ → ℕ → ℕ → ℕ → Fraction
backward_entry cell times m i j = intensity_at cell i j m
    +ℚ where_same i j (opposite (whole (pos times) *ℚ interest_at cell m +ℚ leaving_at cell i m))

-- Thiele's equation read backward (Hoem 1969; Dickson, Hardy and Waters):
-- V_i' = -(r + mu_i) V_i + sum of mu_ij V_j + b_i + sum of mu_ij b_ij, in minor units
abbrev pub thiele_system : CellCurves → System
thiele_system cell = record {
  dimension = cell.states;
  matrices = list_of 6 (λ m. matrix_of cell.states (backward_entry cell 1 m));
  free = list_of 9 (λ m. vector_of cell.states
      (λ i. sojourn_rate_at cell i m +ℚ sum_to cell.states (λ j. first_payment_at cell i j m)));
}

-- Norberg's equation for the second moments, read backward (Norberg 1995), in squared minor units:
-- Z_i' = -(2 r + mu_i) Z_i + sum of mu_ij Z_j + 2 b_i V_i + sum of 2 mu_ij b_ij V_j + sum of mu_ij b_ij^2
abbrev pub second_moment_system : CellCurves → System
second_moment_system cell = record {
  dimension = cell.states;
  matrices = list_of 6 (λ m. matrix_of cell.states (backward_entry cell 2 m));
  free = list_of 12 (λ m. vector_of cell.states
      (λ i. sum_to cell.states (λ j. second_payment_at cell i j m)));
}

-- the number of its coupling in row i and column j at power m: what V_j adds to Z_i
abbrev pub coupling_entry : CellCurves → ℕ → ℕ → ℕ → Fraction
coupling_entry cell m i j = whole (pos 2) *ℚ first_payment_at cell i j m
    +ℚ where_same i j (whole (pos 2) *ℚ sojourn_rate_at cell i m)

-- first and second moments side by side
abbrev pub norberg_pair : CellCurves → CoupledPair
norberg_pair cell = record {
  first = thiele_system cell;
  second = second_moment_system cell;
  coupling = list_of 9 (λ m. matrix_of cell.states (coupling_entry cell m));
}

-- Kolmogorov's forward equation (Hoem 1969; Dickson, Hardy and Waters), where p_j is the probability of
-- state j: p_j' = sum of mu_ij p_i - mu_j p_j
abbrev pub kolmogorov_system : CellCurves → System
kolmogorov_system cell = record {
  dimension = cell.states;
  matrices = list_of 6 (λ m. matrix_of cell.states
      (λ j i. intensity_at cell i j m +ℚ where_same j i (opposite (leaving_at cell j m))));
  free = [];
}
