-- Vectors and matrices of fractions. A vector is the list of its numbers and a matrix is the list of its
-- rows;
-- what stands past the end of a list is 0, so that lists of any lengths may be added and multiplied.
use Rattle.std.specs.Prelude.{◌≡◌, ℕ, zero, suc, pos, negsuc, List, [], ◌∷◌, slice_index_or}
use Rattle.frac_laws.specs.Fraction.{Fraction, whole, ◌+ℚ◌, ◌*ℚ◌}

-- the list of its numbers
abbrev pub Vector : Type 0
Vector = List Fraction

-- the list of its rows
abbrev pub Matrix : Type 0
Matrix = List Vector

-- the number at a place of a vector
abbrev pub number_at : Vector → ℕ → Fraction
number_at v i = slice_index_or v i (whole (pos 0))

-- two vectors have the same numbers, though one may end in zeros that the other leaves out
abbrev pub SameNumbers : Vector → Vector → Type 0
SameNumbers u v = (i : ℕ) → number_at u i ≡ number_at v i

-- the vector at a place of a list of vectors, as the row of a matrix
abbrev pub vector_at : List Vector → ℕ → Vector
vector_at vs i = slice_index_or vs i []

-- the matrix at a place of a list of matrices
abbrev pub matrix_at : List Matrix → ℕ → Matrix
matrix_at matrices m = slice_index_or matrices m []

-- the sum of two vectors
abbrev pub add_lists : Vector → Vector → Vector
add_lists [] v = v
add_lists (x ∷ u) [] = x ∷ u
add_lists (x ∷ u) (y ∷ v) = (x +ℚ y) ∷ add_lists u v

-- a number times a vector
abbrev pub scale_list : Fraction → Vector → Vector
scale_list c [] = []
scale_list c (x ∷ v) = (c *ℚ x) ∷ scale_list c v

-- the difference of two vectors
abbrev pub subtract_lists : Vector → Vector → Vector
subtract_lists u v = add_lists u (scale_list (whole (negsuc 0)) v)

-- the sum of some vectors
abbrev pub sum_of_vectors : List Vector → Vector
sum_of_vectors [] = []
sum_of_vectors (v ∷ vs) = add_lists v (sum_of_vectors vs)

-- the sum of the products of the numbers at one place
abbrev pub dot : Vector → Vector → Fraction
dot [] v = whole (pos 0)
dot (x ∷ u) [] = whole (pos 0)
dot (x ∷ u) (y ∷ v) = x *ℚ y +ℚ dot u v

-- a matrix times a vector: each row's product with the vector
abbrev pub image : Matrix → Vector → Vector
image [] v = []
image (row ∷ rows) v = dot row v ∷ image rows v

-- the sum of two matrices
abbrev pub add_matrices : Matrix → Matrix → Matrix
add_matrices [] b = b
add_matrices (row ∷ a) [] = row ∷ a
add_matrices (row ∷ a) (other ∷ b) = add_lists row other ∷ add_matrices a b

-- a number times a matrix
abbrev pub scale_matrix : Fraction → Matrix → Matrix
scale_matrix c [] = []
scale_matrix c (row ∷ rows) = scale_list c row ∷ scale_matrix c rows

-- the rows, each with a 0 before it
abbrev pub shift_rows : Matrix → Matrix
shift_rows [] = []
shift_rows (row ∷ rows) = (whole (pos 0) ∷ row) ∷ shift_rows rows

-- the matrix of a dimension that leaves each vector as it is
abbrev pub identity : ℕ → Matrix
identity zero = []
identity (suc d) = (whole (pos 1) ∷ []) ∷ shift_rows (identity d)
