-- Taylor values keep the dimension of their system.
use Rattle.std.specs.Prelude.{ℕ, suc, zero, pos, List, [], ◌∷◌, length, ◌≤◌}
use Rattle.std.proofs.Common.{arith}
use Rattle.frac_laws.specs.Fraction.{over}
use Rattle.frac_laws.specs.Lists.{Vector, Matrix, vector_at, matrix_at, add_lists, sum_of_vectors, image}
use Rattle.frac_laws.proofs.Lengths.{add_lists_fits, scale_list_fits, image_fits}
use Rattle.cell_laws.specs.Systems.{sum_of_images, run, coefficients}
use Rattle.cell_laws.specs.Pairs.{received}
use Rattle.cell_laws.specs.Recurrence.{TaylorValuesKeepDimension, SecondTaylorValuesKeepDimension}

nothing_fits : (d : ℕ) → length {A = ℕ} [] ≤ d
nothing_fits d = omega arith

images_fit : (d : ℕ) (matrices : List Matrix) (vs : List Vector)
    → ((m : ℕ) → length (matrix_at matrices m) ≤ d)
    → length (sum_of_images matrices vs) ≤ d
images_fit d [] vs h = nothing_fits d
images_fit d (a ∷ matrices) [] h = nothing_fits d
images_fit d (a ∷ matrices) (v ∷ vs) h = add_lists_fits d (image a v) (sum_of_images matrices vs)
    (image_fits d a v (h 0)) (images_fit d matrices vs (λ m. h (suc m)))

module _ (d : ℕ) (matrices : List Matrix) (f : ℕ → Vector) (y : Vector)
    (rows : (m : ℕ) → length (matrix_at matrices m) ≤ d)
    (free : (k : ℕ) → length (f k) ≤ d) (start : length y ≤ d) where
  newest_fits : (k : ℕ) → length (vector_at (run matrices f y k) 0) ≤ d
  newest_fits zero = start
  newest_fits (suc k) = scale_list_fits d (over (pos 1) (suc k))
      (add_lists (sum_of_images matrices (run matrices f y k)) (f k))
      (add_lists_fits d (sum_of_images matrices (run matrices f y k)) (f k)
      (images_fit d matrices (run matrices f y k) rows) (free k))

  pub total_fits : (n : ℕ) → length (sum_of_vectors (run matrices f y n)) ≤ d
  total_fits zero = add_lists_fits d y [] start (nothing_fits d)
  total_fits (suc n) = add_lists_fits d (vector_at (run matrices f y (suc n)) 0)
      (sum_of_vectors (run matrices f y n)) (newest_fits (suc n)) (total_fits n)

pub taylor_values_keep_dimension : TaylorValuesKeepDimension
taylor_values_keep_dimension s y n h b =
    total_fits s.dimension s.matrices (vector_at s.free) y h.rows h.free b n

pub second_taylor_values_keep_dimension : SecondTaylorValuesKeepDimension
second_taylor_values_keep_dimension p w z n h c b =
    total_fits p.second.dimension p.second.matrices (received p w) z h.rows
    (λ k. add_lists_fits p.second.dimension (sum_of_images p.coupling (coefficients p.first w k))
    (vector_at p.second.free k)
    (images_fit p.second.dimension p.coupling (coefficients p.first w k) c) (h.free k)) b n
