-- Sums of vectors over a range, and the sum of images as such a sum.
use Rattle.std.specs.Prelude.{◌≡◌, ℕ, suc, zero, pos, List, [], ◌∷◌, length}
use Rattle.std.proofs.Common.{refl, ap, sym, ◌∙◌}
use Rattle.frac_laws.specs.Fraction.{whole, ◌+ℚ◌, ◌*ℚ◌, ◌≤ℚ◌}
use Rattle.frac_laws.specs.Sums.{sum_to}
use Rattle.frac_laws.specs.Lists.{Vector, Matrix, number_at, vector_at, matrix_at, add_lists}
use Rattle.frac_laws.specs.Lists.{sum_of_vectors, image}
use Rattle.frac_laws.specs.Norms.{Norm, Sup, Sum, norm_of_vector}
use Rattle.frac_laws.proofs.Order.{le_refl, le_trans, add_mono}
use Rattle.frac_laws.proofs.Sums.{sum_to_first, sum_to_zeros}
use Rattle.frac_laws.proofs.Signs.{mul_natural, sum_natural}
use Rattle.frac_laws.proofs.Vectors.{number_at-add_lists}
use Rattle.frac_laws.proofs.Norms.{norm_natural, matrix_norm_natural, norm-add_lists, norm-image}
use Rattle.cell_laws.specs.Systems.{sum_of_images}
use Rattle.cell_laws.specs.Tame.{matrix_norm_at}

-- f 0 + .. + f (n - 1), as vectors
abbrev pub sum_over : ℕ → (ℕ → Vector) → Vector
sum_over zero f = []
sum_over (suc n) f = add_lists (sum_over n f) (f n)

pub number_at-sum_over : (n : ℕ) (f : ℕ → Vector) (i : ℕ)
    → number_at (sum_over n f) i ≡ sum_to n (λ k. number_at (f k) i)
number_at-sum_over zero f i = refl
number_at-sum_over (suc n) f i =
    number_at-add_lists (sum_over n f) (f n) i ∙ ap (λ z. z +ℚ number_at (f n) i) (number_at-sum_over n f i)

pub norm_of_none : (norm : Norm) → norm_of_vector norm [] ≤ℚ whole (pos 0)
norm_of_none Sup = le_refl _
norm_of_none Sum = le_refl _

pub norm-sum_over : (norm : Norm) (n : ℕ) (f : ℕ → Vector)
    → norm_of_vector norm (sum_over n f) ≤ℚ sum_to n (λ k. norm_of_vector norm (f k))
norm-sum_over norm zero f = norm_of_none norm
norm-sum_over norm (suc n) f =
    le_trans (norm-add_lists norm (sum_over n f) (f n)) (add_mono (norm-sum_over norm n f) (le_refl _))

-- a sum of vectors, number by number
pub number_at-sum_of_vectors : (vs : List Vector) (i : ℕ)
    → number_at (sum_of_vectors vs) i ≡ sum_to (length vs) (λ m. number_at (vector_at vs m) i)
number_at-sum_of_vectors [] i = refl
number_at-sum_of_vectors (v ∷ vs) i = number_at-add_lists v (sum_of_vectors vs) i
    ∙ ap (λ z. number_at v i +ℚ z) (number_at-sum_of_vectors vs i)
    ∙ sym (sum_to_first (length vs) (λ m. number_at (vector_at (v ∷ vs) m) i))

-- a sum of images, number by number
pub number_at-sum_of_images : (matrices : List Matrix) (vs : List Vector) (i : ℕ)
    → number_at (sum_of_images matrices vs) i ≡ sum_to (length vs)
    (λ m. number_at (image (matrix_at matrices m) (vector_at vs m)) i)
number_at-sum_of_images [] vs i = sym (sum_to_zeros (length vs) (λ m b. refl))
number_at-sum_of_images (a ∷ matrices) [] i = refl
number_at-sum_of_images (a ∷ matrices) (v ∷ vs) i =
    number_at-add_lists (image a v) (sum_of_images matrices vs) i
    ∙ ap (λ z. number_at (image a v) i +ℚ z) (number_at-sum_of_images matrices vs i)
    ∙ sym (sum_to_first (length vs) (λ m. number_at
    (image (matrix_at (a ∷ matrices) m) (vector_at (v ∷ vs) m)) i))

-- and its norm
pub norm-sum_of_images : (norm : Norm) (matrices : List Matrix) (vs : List Vector)
    → norm_of_vector norm (sum_of_images matrices vs) ≤ℚ sum_to (length vs)
    (λ m. matrix_norm_at norm matrices m *ℚ norm_of_vector norm (vector_at vs m))
norm-sum_of_images norm [] vs = le_trans (norm_of_none norm)
    (sum_natural (length vs) _ (λ m. mul_natural (matrix_norm_natural norm [])
    (norm_natural norm (vector_at vs m))))
norm-sum_of_images norm (a ∷ matrices) [] = norm_of_none norm
norm-sum_of_images norm (a ∷ matrices) (v ∷ vs) = rw
    (sum_to_first (length vs) (λ m. matrix_norm_at norm (a ∷ matrices) m *ℚ norm_of_vector norm
    (vector_at (v ∷ vs) m)))
    (le_trans (norm-add_lists norm (image a v) (sum_of_images matrices vs))
    (add_mono (norm-image norm a v) (norm-sum_of_images norm matrices vs)))
