-- Runs are linear: what combines the starts and the free vectors combines the coefficients and the Taylor
-- values.
use Rattle.std.specs.Prelude.{◌≡◌, ℕ, suc, zero, pos, List, [], ◌∷◌}
use Rattle.std.proofs.Common.{refl, ap, sym, ◌∙◌}
use Rattle.frac_laws.specs.Fraction.{Fraction, over, ◌+ℚ◌, ◌*ℚ◌}
use Rattle.frac_laws.specs.Lists.{Vector, Matrix, number_at, vector_at, add_lists, scale_list}
use Rattle.frac_laws.specs.Lists.{sum_of_vectors, dot, image}
use Rattle.frac_laws.proofs.FractionTerms.{ring, terms}
use Rattle.frac_laws.proofs.Vectors.{number_at-add_lists, number_at-scale_list, number_at-image}
use Rattle.frac_laws.proofs.Vectors.{dot-add_right, dot-scale_right, dot-same}
use Rattle.cell_laws.specs.Systems.{sum_of_images, run}

-- z is x + c y, number by number
pub record Combines (c : Fraction) (x y z : Vector) : Type 0 where
  pub numbers : (i : ℕ) → number_at z i ≡ number_at x i +ℚ c *ℚ number_at y i

-- three lists of vectors of one length, the third of which combines the first two
pub data AllCombine (c : Fraction) : List Vector → List Vector → List Vector → Type 0 where
  none : AllCombine c [] [] []
  more : {x y z : Vector} {xs ys zs : List Vector} → Combines c x y z → AllCombine c xs ys zs
      → AllCombine c (x ∷ xs) (y ∷ ys) (z ∷ zs)

nothing : (c : Fraction) → Combines c [] [] []
nothing c = record { numbers = λ i. ring (c ∷ []) (hlevel terms) refl }

pub sum_combines : (c : Fraction) {x y z u v w : Vector} → Combines c x y z → Combines c u v w
    → Combines c (add_lists x u) (add_lists y v) (add_lists z w)
sum_combines c {x} {y} {z} {u} {v} {w} h k = record {
  numbers = λ i. rw (
    number_at-add_lists x u i,
    number_at-add_lists y v i,
    number_at-add_lists z w i,
    h.numbers i,
    k.numbers i,
  )
      (ring (c ∷ number_at x i ∷ number_at y i ∷ number_at u i ∷ number_at v i ∷ []) (hlevel terms) refl);
}

multiple_combines : (c r : Fraction) {x y z : Vector} → Combines c x y z
    → Combines c (scale_list r x) (scale_list r y) (scale_list r z)
multiple_combines c r {x} {y} {z} h = record {
  numbers = λ i. rw
      (number_at-scale_list r x i, number_at-scale_list r y i, number_at-scale_list r z i, h.numbers i)
      (ring (c ∷ r ∷ number_at x i ∷ number_at y i ∷ []) (hlevel terms) refl);
}

-- a vector that is x + c y has the numbers of this list
as_list : (c : Fraction) {x y z : Vector} → Combines c x y z → (i : ℕ)
    → number_at z i ≡ number_at (add_lists x (scale_list c y)) i
as_list c {x} {y} h i = h.numbers i
    ∙ sym (number_at-add_lists x (scale_list c y) i
    ∙ ap (λ t. number_at x i +ℚ t) (number_at-scale_list c y i))

dot_combines : (c : Fraction) (row : Vector) {x y z : Vector} → Combines c x y z
    → dot row z ≡ dot row x +ℚ c *ℚ dot row y
dot_combines c row {x} {y} {z} h = dot-same row z (add_lists x (scale_list c y)) (as_list c h)
    ∙ dot-add_right row x (scale_list c y) ∙ ap (λ t. dot row x +ℚ t) (dot-scale_right c row y)

image_combines : (c : Fraction) (a : Matrix) {x y z : Vector} → Combines c x y z
    → Combines c (image a x) (image a y) (image a z)
image_combines c a {x} {y} {z} h = record {
  numbers = λ i. rw (number_at-image a x i, number_at-image a y i, number_at-image a z i)
      (dot_combines c (vector_at a i) h);
}

images_combine : (c : Fraction) (matrices : List Matrix) {xs ys zs : List Vector} → AllCombine c xs ys zs
    → Combines c (sum_of_images matrices xs) (sum_of_images matrices ys) (sum_of_images matrices zs)
images_combine c [] h = nothing c
images_combine c (a ∷ matrices) none = nothing c
images_combine c (a ∷ matrices) (more h hs) =
    sum_combines c (image_combines c a h) (images_combine c matrices hs)

sums_combine : (c : Fraction) {xs ys zs : List Vector} → AllCombine c xs ys zs
    → Combines c (sum_of_vectors xs) (sum_of_vectors ys) (sum_of_vectors zs)
sums_combine c none = nothing c
sums_combine c (more h hs) = sum_combines c h (sums_combine c hs)

newest_combines : (c : Fraction) {xs ys zs : List Vector} → AllCombine c xs ys zs
    → Combines c (vector_at xs 0) (vector_at ys 0) (vector_at zs 0)
newest_combines c none = nothing c
newest_combines c (more h hs) = h

module _ (c : Fraction) (matrices : List Matrix) (f g h : ℕ → Vector) (x y z : Vector)
    (free : (k : ℕ) → Combines c (f k) (g k) (h k)) (start : Combines c x y z) where
  runs_combine : (k : ℕ) → AllCombine c (run matrices f x k) (run matrices g y k) (run matrices h z k)
  runs_combine zero = more start none
  runs_combine (suc k) = more (multiple_combines c (over (pos 1) (suc k))
      (sum_combines c (images_combine c matrices (runs_combine k)) (free k))) (runs_combine k)

  pub coefficients_combine : (k : ℕ)
      → Combines c (vector_at (run matrices f x k) 0) (vector_at (run matrices g y k) 0)
      (vector_at (run matrices h z k) 0)
  coefficients_combine k = newest_combines c (runs_combine k)

  pub received_combines : (others : List Matrix) (k : ℕ)
      → Combines c (sum_of_images others (run matrices f x k)) (sum_of_images others (run matrices g y k))
      (sum_of_images others (run matrices h z k))
  received_combines others k = images_combine c others (runs_combine k)

  pub totals_combine : (n : ℕ) → Combines c (sum_of_vectors (run matrices f x n))
      (sum_of_vectors (run matrices g y n)) (sum_of_vectors (run matrices h z n))
  totals_combine n = sums_combine c (runs_combine n)
