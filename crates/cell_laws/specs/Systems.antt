-- The system of one cell: linear equations y' = A y + g with A and g given by powers of the cell's
-- variable,
-- and the coefficients and sums of the Taylor series that solve them.
use Rattle.std.specs.Prelude.{ℕ, zero, suc, pos, List, [], ◌∷◌, length, ◌≤◌}
use Rattle.frac_laws.specs.Fraction.{over}
use Rattle.frac_laws.specs.Lists.{Vector, Matrix, vector_at, matrix_at, add_lists, scale_list}
use Rattle.frac_laws.specs.Lists.{sum_of_vectors, image}

-- how many numbers a vector has, the matrices A_0, A_1, .., and the free vectors g_0, g_1, ..; past the end
-- of a list all are 0
pub record System : Type 0 where
  pub dimension : ℕ
  pub matrices : List Matrix
  pub free : List Vector

-- A_0 v_0 + A_1 v_1 + .., each vector under the matrix at its place
abbrev pub sum_of_images : List Matrix → List Vector → Vector
sum_of_images [] vs = []
sum_of_images (a ∷ matrices) [] = []
sum_of_images (a ∷ matrices) (v ∷ vs) = add_lists (image a v) (sum_of_images matrices vs)

-- the coefficients y_k, .., y_0 from y_0, the newest first: (k + 1) y_(k+1) = A_0 y_k + .. + A_k y_0 + f_k
abbrev pub run : List Matrix → (ℕ → Vector) → Vector → ℕ → List Vector
run matrices f y zero = y ∷ []
run matrices f y (suc k) =
    scale_list (over (pos 1) (suc k)) (add_lists (sum_of_images matrices (run matrices f y k)) (f k))
    ∷ run matrices f y k

-- the coefficients of a system from a start, where f_k is the free vector g_k
abbrev pub coefficients : System → Vector → ℕ → List Vector
coefficients s y = run s.matrices (vector_at s.free) y

-- the newest of them, y_k
abbrev pub coefficient : System → Vector → ℕ → Vector
coefficient s y k = vector_at (coefficients s y k) 0

-- the Taylor value of degree n: y_0 + .. + y_n
abbrev pub taylor_value : System → Vector → ℕ → Vector
taylor_value s y n = sum_of_vectors (coefficients s y n)

-- the same system with no free vectors
abbrev pub homogeneous : System → System
homogeneous s = record { dimension = s.dimension; matrices = s.matrices; free = [] }

-- no matrix has more rows, and no free vector more numbers, than the dimension
pub record KeepsDimension (s : System) : Type 0 where
  pub rows : (m : ℕ) → length (matrix_at s.matrices m) ≤ s.dimension
  pub free : (k : ℕ) → length (vector_at s.free k) ≤ s.dimension
