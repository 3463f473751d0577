-- The laws of vectors and matrices as lists, number by number.
use Rattle.std.specs.Prelude.{◌≡◌, ℕ, suc, zero, pos, negsuc, [], ◌∷◌, length, refl, ◌≤◌}
use Rattle.std.proofs.Common.{ap, sym, ◌∙◌, arith}
use mathlib.Core.Path.{ap₂}
use Rattle.frac_laws.specs.Fraction.{Fraction, whole, ◌+ℚ◌, ◌*ℚ◌, ◌-ℚ◌}
use Rattle.frac_laws.specs.Sums.{sum_to}
use Rattle.frac_laws.specs.Lists.{Vector, Matrix, SameNumbers, number_at, vector_at, add_lists}
use Rattle.frac_laws.specs.Lists.{scale_list}
use Rattle.frac_laws.specs.Lists.{subtract_lists, dot, image, add_matrices, scale_matrix, shift_rows}
use Rattle.frac_laws.specs.Lists.{identity}
use Rattle.frac_laws.proofs.FractionTerms.{ring, terms}
use Rattle.frac_laws.proofs.Sums.{sum_to_ext, sum_to_first, sum_to_zero}

pub number_at-add_lists : (u v : Vector) (i : ℕ)
    → number_at (add_lists u v) i ≡ number_at u i +ℚ number_at v i
number_at-add_lists [] v i = ring (number_at v i ∷ []) (hlevel terms) refl
number_at-add_lists (x ∷ u) [] i = ring (number_at (x ∷ u) i ∷ []) (hlevel terms) refl
number_at-add_lists (x ∷ u) (y ∷ v) zero = refl
number_at-add_lists (x ∷ u) (y ∷ v) (suc i) = number_at-add_lists u v i

pub number_at-scale_list : (c : Fraction) (v : Vector) (i : ℕ)
    → number_at (scale_list c v) i ≡ c *ℚ number_at v i
number_at-scale_list c [] i = ring (c ∷ []) (hlevel terms) refl
number_at-scale_list c (x ∷ v) zero = refl
number_at-scale_list c (x ∷ v) (suc i) = number_at-scale_list c v i

pub number_at-subtract_lists : (u v : Vector) (i : ℕ)
    → number_at (subtract_lists u v) i ≡ number_at u i -ℚ number_at v i
number_at-subtract_lists u v i = number_at-add_lists u (scale_list (whole (negsuc 0)) v) i
    ∙ ap (λ z. number_at u i +ℚ z) (number_at-scale_list (whole (negsuc 0)) v i)
    ∙ ring (number_at u i ∷ number_at v i ∷ []) (hlevel terms) refl

pub number_at-image : (rows : Matrix) (v : Vector) (i : ℕ)
    → number_at (image rows v) i ≡ dot (vector_at rows i) v
number_at-image [] v i = refl
number_at-image (row ∷ rows) v zero = refl
number_at-image (row ∷ rows) v (suc i) = number_at-image rows v i

-- products with a row
pub dot-none : (row : Vector) → dot row [] ≡ whole (pos 0)
dot-none [] = refl
dot-none (x ∷ row) = refl

pub dot-add_left : (r s v : Vector) → dot (add_lists r s) v ≡ dot r v +ℚ dot s v
dot-add_left [] s v = ring (dot s v ∷ []) (hlevel terms) refl
dot-add_left (x ∷ r) [] v = ring (dot (x ∷ r) v ∷ []) (hlevel terms) refl
dot-add_left (x ∷ r) (y ∷ s) [] = ring [] (hlevel terms) refl
dot-add_left (x ∷ r) (y ∷ s) (z ∷ v) =
    rw (dot-add_left r s v) (ring (x ∷ y ∷ z ∷ dot r v ∷ dot s v ∷ []) (hlevel terms) refl)

pub dot-scale_left : (c : Fraction) (r v : Vector) → dot (scale_list c r) v ≡ c *ℚ dot r v
dot-scale_left c [] v = ring (c ∷ []) (hlevel terms) refl
dot-scale_left c (x ∷ r) [] = ring (c ∷ []) (hlevel terms) refl
dot-scale_left c (x ∷ r) (z ∷ v) =
    rw (dot-scale_left c r v) (ring (c ∷ x ∷ z ∷ dot r v ∷ []) (hlevel terms) refl)

pub dot-add_right : (r u v : Vector) → dot r (add_lists u v) ≡ dot r u +ℚ dot r v
dot-add_right [] u v = ring [] (hlevel terms) refl
dot-add_right (x ∷ r) [] v = ring (dot (x ∷ r) v ∷ []) (hlevel terms) refl
dot-add_right (x ∷ r) (y ∷ u) [] = ring (x ∷ y ∷ dot r u ∷ []) (hlevel terms) refl
dot-add_right (x ∷ r) (y ∷ u) (z ∷ v) =
    rw (dot-add_right r u v) (ring (x ∷ y ∷ z ∷ dot r u ∷ dot r v ∷ []) (hlevel terms) refl)

pub dot-scale_right : (c : Fraction) (r v : Vector) → dot r (scale_list c v) ≡ c *ℚ dot r v
dot-scale_right c [] v = ring (c ∷ []) (hlevel terms) refl
dot-scale_right c (x ∷ r) [] = ring (c ∷ []) (hlevel terms) refl
dot-scale_right c (x ∷ r) (z ∷ v) =
    rw (dot-scale_right c r v) (ring (c ∷ x ∷ z ∷ dot r v ∷ []) (hlevel terms) refl)

pub dot-same : (r u v : Vector) → SameNumbers u v → dot r u ≡ dot r v
dot-same [] u v h = refl
dot-same (x ∷ r) [] [] h = refl
dot-same (x ∷ r) [] (z ∷ v) h =
    sym (rw (← h 0, ← dot-same r [] v (λ i. h (suc i)), dot-none r) (ring (x ∷ []) (hlevel terms) refl))
dot-same (x ∷ r) (y ∷ u) [] h =
    rw (h 0, dot-same r u [] (λ i. h (suc i)), dot-none r) (ring (x ∷ []) (hlevel terms) refl)
dot-same (x ∷ r) (y ∷ u) (z ∷ v) h = ap₂ (λ a b. x *ℚ a +ℚ b) (h 0) (dot-same r u v (λ i. h (suc i)))

-- a product with a row of at most d numbers is a sum of d products
pub dot-sum : (row v : Vector) (d : ℕ) → length row ≤ d
    → dot row v ≡ sum_to d (λ j. number_at row j *ℚ number_at v j)
dot-sum [] v d h = sym (sum_to_ext d (λ j b. ring (number_at v j ∷ []) (hlevel terms) refl) ∙ sum_to_zero d)
dot-sum (x ∷ row) v zero h = absurd (omega arith)
dot-sum (x ∷ row) [] (suc d) h = sym
    (sum_to_ext (suc d) (λ j b. ring (number_at (x ∷ row) j ∷ []) (hlevel terms) refl)
    ∙ sum_to_zero (suc d))
dot-sum (x ∷ row) (y ∷ v) (suc d) h = ap (λ z. x *ℚ y +ℚ z) (dot-sum row v d (omega arith))
    ∙ sym (sum_to_first d (λ j. number_at (x ∷ row) j *ℚ number_at (y ∷ v) j))

-- and so is a product with a vector of at most d numbers
pub dot_sum_of_vector : (row v : Vector) (d : ℕ) → length v ≤ d
    → dot row v ≡ sum_to d (λ j. number_at row j *ℚ number_at v j)
dot_sum_of_vector [] v d h =
    sym (sum_to_ext d (λ j b. ring (number_at v j ∷ []) (hlevel terms) refl) ∙ sum_to_zero d)
dot_sum_of_vector (x ∷ row) [] d h =
    sym (sum_to_ext d (λ j b. ring (number_at (x ∷ row) j ∷ []) (hlevel terms) refl) ∙ sum_to_zero d)
dot_sum_of_vector (x ∷ row) (y ∷ v) zero h = absurd (omega arith)
dot_sum_of_vector (x ∷ row) (y ∷ v) (suc d) h =
    ap (λ z. x *ℚ y +ℚ z) (dot_sum_of_vector row v d (omega arith))
    ∙ sym (sum_to_first d (λ j. number_at (x ∷ row) j *ℚ number_at (y ∷ v) j))

-- images
pub image-add : (a b : Matrix) (v : Vector) (i : ℕ)
    → number_at (image (add_matrices a b) v) i ≡ number_at (image a v) i +ℚ number_at (image b v) i
image-add [] b v i = ring (number_at (image b v) i ∷ []) (hlevel terms) refl
image-add (row ∷ a) [] v i = ring (number_at (image (row ∷ a) v) i ∷ []) (hlevel terms) refl
image-add (row ∷ a) (other ∷ b) v zero = dot-add_left row other v
image-add (row ∷ a) (other ∷ b) v (suc i) = image-add a b v i

pub image-scale : (c : Fraction) (a : Matrix) (v : Vector) (i : ℕ)
    → number_at (image (scale_matrix c a) v) i ≡ c *ℚ number_at (image a v) i
image-scale c [] v i = ring (c ∷ []) (hlevel terms) refl
image-scale c (row ∷ a) v zero = dot-scale_left c row v
image-scale c (row ∷ a) v (suc i) = image-scale c a v i

pub image-shift : (a : Matrix) (x : Fraction) (v : Vector) (i : ℕ)
    → number_at (image (shift_rows a) (x ∷ v)) i ≡ number_at (image a v) i
image-shift [] x v i = refl
image-shift (row ∷ a) x v zero = ring (x ∷ dot row v ∷ []) (hlevel terms) refl
image-shift (row ∷ a) x v (suc i) = image-shift a x v i

pub image-none : (a : Matrix) (i : ℕ) → number_at (image a []) i ≡ whole (pos 0)
image-none [] i = refl
image-none (row ∷ a) zero = dot-none row
image-none (row ∷ a) (suc i) = image-none a i

pub image-identity : (d : ℕ) (v : Vector) → length v ≤ d → SameNumbers (image (identity d) v) v
image-identity zero [] h i = refl
image-identity zero (x ∷ v) h i = absurd (omega arith)
image-identity (suc d) [] h i = image-none (identity (suc d)) i
image-identity (suc d) (x ∷ v) h zero = ring (x ∷ []) (hlevel terms) refl
image-identity (suc d) (x ∷ v) h (suc i) =
    image-shift (identity d) x v i ∙ image-identity d v (omega arith) i
