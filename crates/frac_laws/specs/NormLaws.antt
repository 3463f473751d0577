-- The laws of the norms, in either norm and for lists of any lengths.
use Rattle.std.specs.Prelude.{◌≡◌, ℕ}
use Rattle.frac_laws.specs.Fraction.{Fraction, ◌+ℚ◌, ◌*ℚ◌, ◌≤ℚ◌, size}
use Rattle.frac_laws.specs.Lists.{Vector, Matrix, number_at, vector_at, add_lists, scale_list, image}
use Rattle.frac_laws.specs.Lists.{add_matrices, scale_matrix}
use Rattle.frac_laws.specs.Norms.{Norm, norm_of_vector, norm_of_matrix}

-- |v + w| <= |v| + |w|
abbrev pub SumIsWithinNorms : Type 0
SumIsWithinNorms = (norm : Norm) (v w : Vector)
    → norm_of_vector norm (add_lists v w) ≤ℚ norm_of_vector norm v +ℚ norm_of_vector norm w

-- |c v| = |c| |v|
abbrev pub MultipleScalesNorm : Type 0
MultipleScalesNorm = (norm : Norm) (c : Fraction) (v : Vector)
    → norm_of_vector norm (scale_list c v) ≡ size c *ℚ norm_of_vector norm v

-- |A v| <= |A| |v|
abbrev pub ImageIsWithinNorms : Type 0
ImageIsWithinNorms = (norm : Norm) (a : Matrix) (v : Vector)
    → norm_of_vector norm (image a v) ≤ℚ norm_of_matrix norm a *ℚ norm_of_vector norm v

-- |A + B| <= |A| + |B|
abbrev pub MatrixSumIsWithinNorms : Type 0
MatrixSumIsWithinNorms = (norm : Norm) (a b : Matrix)
    → norm_of_matrix norm (add_matrices a b) ≤ℚ norm_of_matrix norm a +ℚ norm_of_matrix norm b

-- |c A| = |c| |A|
abbrev pub MatrixMultipleScalesNorm : Type 0
MatrixMultipleScalesNorm = (norm : Norm) (c : Fraction) (a : Matrix)
    → norm_of_matrix norm (scale_matrix c a) ≡ size c *ℚ norm_of_matrix norm a

-- a vector's number is of at most its norm in size
abbrev pub NumberIsWithinNorm : Type 0
NumberIsWithinNorm = (norm : Norm) (v : Vector) (i : ℕ) → size (number_at v i) ≤ℚ norm_of_vector norm v

-- and a matrix's number likewise
abbrev pub NumberIsWithinMatrixNorm : Type 0
NumberIsWithinMatrixNorm =
    (norm : Norm) (a : Matrix) (i j : ℕ) → size (number_at (vector_at a i) j) ≤ℚ norm_of_matrix norm a
