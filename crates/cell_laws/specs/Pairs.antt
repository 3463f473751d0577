-- Two systems of one cell, the second of which also receives the coefficients of the first.
use Rattle.std.specs.Prelude.{ℕ, List}
use Rattle.frac_laws.specs.Lists.{Vector, Matrix, vector_at, add_lists, sum_of_vectors}
use Rattle.cell_laws.specs.Systems.{System, sum_of_images, run, coefficients, homogeneous}

-- the first half, the second half, and the matrices C_0, C_1, .. of the coupling
pub record CoupledPair : Type 0 where
  pub first : System
  pub second : System
  pub coupling : List Matrix

-- what the second half receives at power k from the first half's coefficients: C_0 w_k + .. + C_k w_0 + g_k
abbrev pub received : CoupledPair → Vector → ℕ → Vector
received p w k = add_lists (sum_of_images p.coupling (coefficients p.first w k)) (vector_at p.second.free k)

-- the second half's coefficients z_k, .., z_0, newest first, from the starts w and z of the two halves
abbrev pub second_coefficients : CoupledPair → Vector → Vector → ℕ → List Vector
second_coefficients p w z = run p.second.matrices (received p w) z

-- the newest of them, z_k
abbrev pub second_coefficient : CoupledPair → Vector → Vector → ℕ → Vector
second_coefficient p w z k = vector_at (second_coefficients p w z k) 0

-- the second half's Taylor value of degree n: z_0 + .. + z_n
abbrev pub second_taylor_value : CoupledPair → Vector → Vector → ℕ → Vector
second_taylor_value p w z n = sum_of_vectors (second_coefficients p w z n)

-- the same pair with no free vectors
abbrev pub homogeneous_pair : CoupledPair → CoupledPair
homogeneous_pair p =
    record { first = homogeneous p.first; second = homogeneous p.second; coupling = p.coupling }
