-- What a tame system's sums say of sums over any range of powers, and of each power.
use Rattle.std.specs.Prelude.{◌≡◌, ℕ, pos, List, [], ◌∷◌, length, ◌≤◌}
use Rattle.std.proofs.Common.{refl, ap, ◌∙◌}
use Rattle.std.proofs.lemmas.List.{get_or_past}
use Rattle.frac_laws.specs.Fraction.{Fraction, whole, ◌≤ℚ◌}
use Rattle.frac_laws.specs.Sums.{sum_to, power}
use Rattle.frac_laws.specs.Lists.{Vector, Matrix, vector_at, matrix_at}
use Rattle.frac_laws.specs.Norms.{Norm, Sup, Sum, norm_of_vector, norm_of_matrix}
use Rattle.frac_laws.proofs.FractionTerms.{ring, terms}
use Rattle.frac_laws.proofs.Signs.{mul_natural}
use Rattle.frac_laws.proofs.Norms.{norm_natural, matrix_norm_natural}
use Rattle.frac_laws.proofs.Convolutions.{sum_to_within, term_within}
use Rattle.cell_laws.specs.Tame.{matrix_norm_at, vector_norm_at, weighted, total_norm, weighted_norm}
use Rattle.cell_laws.specs.Tame.{weighted_norm_of_vectors}
use Rattle.cell_laws.specs.Driven.{IsNatural}
use Rattle.cell_laws.proofs.Decay.{eights_natural}

matrix_norm_of_none : (norm : Norm) → norm_of_matrix norm [] ≡ whole (pos 0)
matrix_norm_of_none Sup = refl
matrix_norm_of_none Sum = refl

pub norm_of_none : (norm : Norm) → norm_of_vector norm [] ≡ whole (pos 0)
norm_of_none Sup = refl
norm_of_none Sum = refl

pub matrix_norms_natural : (norm : Norm) (matrices : List Matrix) → IsNatural (matrix_norm_at norm matrices)
matrix_norms_natural norm matrices m = matrix_norm_natural norm (matrix_at matrices m)

pub vector_norms_natural : (norm : Norm) (vectors : List Vector) → IsNatural (vector_norm_at norm vectors)
vector_norms_natural norm vectors m = norm_natural norm (vector_at vectors m)

-- past the end all norms are 0
pub matrix_norm_past : (norm : Norm) (matrices : List Matrix) (m : ℕ) → length matrices ≤ m
    → matrix_norm_at norm matrices m ≡ whole (pos 0)
matrix_norm_past norm matrices m b =
    ap (norm_of_matrix norm) (get_or_past matrices m [] b) ∙ matrix_norm_of_none norm

vector_norm_past : (norm : Norm) (vectors : List Vector) (m : ℕ) → length vectors ≤ m
    → vector_norm_at norm vectors m ≡ whole (pos 0)
vector_norm_past norm vectors m b =
    ap (norm_of_vector norm) (get_or_past vectors m [] b) ∙ norm_of_none norm

pub weighted_natural : (f : ℕ → Fraction) → IsNatural f → IsNatural (weighted f)
weighted_natural f h m = mul_natural (eights_natural m) (h m)

weighted_past : (f : ℕ → Fraction) (m : ℕ) → f m ≡ whole (pos 0) → weighted f m ≡ whole (pos 0)
weighted_past f m e = rw e (ring (power (whole (pos 8)) m ∷ []) (hlevel terms) refl)

-- the sums of the norms of matrices, plain and weighted
pub total_within : (norm : Norm) (matrices : List Matrix) (n : ℕ)
    → sum_to n (matrix_norm_at norm matrices) ≤ℚ total_norm norm matrices
total_within norm matrices n =
    sum_to_within (length matrices) n (matrix_norms_natural norm matrices) (matrix_norm_past norm matrices)

pub weighted_within : (norm : Norm) (matrices : List Matrix) (n : ℕ)
    → sum_to n (weighted (matrix_norm_at norm matrices)) ≤ℚ weighted_norm norm matrices
weighted_within norm matrices n =
    sum_to_within (length matrices) n (weighted_natural _ (matrix_norms_natural norm matrices))
    (λ m b. weighted_past (matrix_norm_at norm matrices) m (matrix_norm_past norm matrices m b))

-- each weighted norm of a free vector
pub free_within : (norm : Norm) (vectors : List Vector) (k : ℕ)
    → weighted (vector_norm_at norm vectors) k ≤ℚ weighted_norm_of_vectors norm vectors
free_within norm vectors k =
    term_within (length vectors) k (weighted_natural _ (vector_norms_natural norm vectors))
    (λ m b. weighted_past (vector_norm_at norm vectors) m (vector_norm_past norm vectors m b))

-- at power 0 the weight is 1
pub first_weighted : (f : ℕ → Fraction) → weighted f 0 ≡ f 0
first_weighted f = ring (f 0 ∷ []) (hlevel terms) refl
