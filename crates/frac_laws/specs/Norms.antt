-- The two norms of vectors and matrices.
use Rattle.std.specs.Prelude.{pos, [], ◌∷◌}
use Rattle.frac_laws.specs.Fraction.{Fraction, whole, size, greater}
use Rattle.frac_laws.specs.Sums.{sum_of_list}
use Rattle.frac_laws.specs.Lists.{Vector, Matrix, add_lists}

-- Sup goes by the greatest number, Sum by the sum of all numbers
pub data Norm : Type 0 where
  Sup : Norm
  Sum : Norm

-- the sizes of the numbers
abbrev pub sizes : Vector → Vector
sizes [] = []
sizes (x ∷ v) = size x ∷ sizes v

-- the greatest of 0 and the numbers
abbrev pub greatest : Vector → Fraction
greatest [] = whole (pos 0)
greatest (x ∷ v) = greater x (greatest v)

-- the greatest size, or the sum of the sizes
abbrev pub norm_of_vector : Norm → Vector → Fraction
norm_of_vector Sup v = greatest (sizes v)
norm_of_vector Sum v = sum_of_list (sizes v)

-- each row's sum of sizes
abbrev pub row_sums : Matrix → Vector
row_sums [] = []
row_sums (row ∷ rows) = sum_of_list (sizes row) ∷ row_sums rows

-- each column's sum of sizes
abbrev pub column_sums : Matrix → Vector
column_sums [] = []
column_sums (row ∷ rows) = add_lists (sizes row) (column_sums rows)

-- the greatest row sum of sizes, or the greatest column sum of sizes
abbrev pub norm_of_matrix : Norm → Matrix → Fraction
norm_of_matrix Sup rows = greatest (row_sums rows)
norm_of_matrix Sum rows = greatest (column_sums rows)
