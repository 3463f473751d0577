-- The laws of the two norms. Lengths play no part: what stands past the end of a list is 0.
use Rattle.std.specs.Prelude.{◌≡◌, ℕ, suc, zero, pos, [], ◌∷◌, refl}
use Rattle.std.proofs.Common.{ap, sym, ◌∙◌, inl, inr}
use mathlib.Core.Path.{ap₂}
use Rattle.frac_laws.specs.Fraction.{Fraction, whole, ◌+ℚ◌, ◌*ℚ◌, ◌≤ℚ◌, size, greater}
use Rattle.frac_laws.specs.Sums.{sum_of_list}
use Rattle.frac_laws.specs.Lists.{Vector, Matrix, SameNumbers, number_at, vector_at, add_lists, scale_list}
use Rattle.frac_laws.specs.Lists.{dot, image}
use Rattle.frac_laws.specs.Lists.{add_matrices, scale_matrix}
use Rattle.frac_laws.specs.Norms.{Norm, Sup, Sum, sizes, greatest, norm_of_vector, row_sums, column_sums}
use Rattle.frac_laws.specs.Norms.{norm_of_matrix}
use Rattle.frac_laws.proofs.FractionTerms.{ring, terms}
use Rattle.frac_laws.proofs.Linear.{linear, claims, ◌⊞◌, ◌⊠◌}
use Rattle.frac_laws.proofs.Order.{le_refl, le_trans, le_of_equal, le_antisym, add_mono}
use Rattle.frac_laws.proofs.Sizes.{size_of_natural, size_natural, size_add, size_mul}
use Rattle.frac_laws.proofs.Signs.{add_natural}
use Rattle.frac_laws.proofs.Extremes.{greater_cases, le_greater_left, le_greater_right, greater_le}
use Rattle.frac_laws.proofs.Vectors.{number_at-add_lists, dot-add_left}

pub size_zero : size (whole (pos 0)) ≡ whole (pos 0)
size_zero = size_of_natural (le_refl _)

pub number_at-sizes : (v : Vector) (i : ℕ) → number_at (sizes v) i ≡ size (number_at v i)
number_at-sizes [] i = sym size_zero
number_at-sizes (x ∷ v) zero = refl
number_at-sizes (x ∷ v) (suc i) = number_at-sizes v i

-- the greatest
pub greatest_natural : (v : Vector) → whole (pos 0) ≤ℚ greatest v
greatest_natural [] = le_refl (whole (pos 0))
greatest_natural (x ∷ v) = le_trans (greatest_natural v) (le_greater_right x (greatest v))

pub number_below_greatest : (v : Vector) (i : ℕ) → number_at v i ≤ℚ greatest v
number_below_greatest [] i = le_refl (whole (pos 0))
number_below_greatest (x ∷ v) zero = le_greater_left x (greatest v)
number_below_greatest (x ∷ v) (suc i) =
    le_trans (number_below_greatest v i) (le_greater_right x (greatest v))

pub greatest_below : (v : Vector) {r : Fraction} → whole (pos 0) ≤ℚ r → ((i : ℕ) → number_at v i ≤ℚ r)
    → greatest v ≤ℚ r
greatest_below [] z h = z
greatest_below (x ∷ v) z h = greater_le x (greatest v) (h 0) (greatest_below v z (λ i. h (suc i)))

pub greatest-scale : (c : Fraction) (v : Vector) → whole (pos 0) ≤ℚ c
    → greatest (scale_list c v) ≡ c *ℚ greatest v
greatest-scale c [] h = ring (c ∷ []) (hlevel terms) refl
greatest-scale c (x ∷ v) h = rw (greatest-scale c v h) (le_antisym
    (greater_le (c *ℚ x) (c *ℚ greatest v) (times (le_greater_left x (greatest v)))
    (times (le_greater_right x (greatest v))))
    (elim (greater_cases x (greatest v)) [
      | inl k ↦ rw k.1 (le_greater_right (c *ℚ x) (c *ℚ greatest v))
      | inr k ↦ rw k.1
          (le_greater_left (c *ℚ x) (c *ℚ greatest v))
    ]))
  where
    times : {y z : Fraction} → y ≤ℚ z → c *ℚ y ≤ℚ c *ℚ z
    times {y} {z} k = linear (c ∷ y ∷ z ∷ []) (h ⊠ k) (hlevel claims) refl

-- sums of sizes
pub sum_of_sizes_natural : (v : Vector) → whole (pos 0) ≤ℚ sum_of_list (sizes v)
sum_of_sizes_natural [] = le_refl (whole (pos 0))
sum_of_sizes_natural (x ∷ v) = add_natural (size_natural x) (sum_of_sizes_natural v)

pub sum_of_list-scale : (c : Fraction) (v : Vector) → sum_of_list (scale_list c v) ≡ c *ℚ sum_of_list v
sum_of_list-scale c [] = ring (c ∷ []) (hlevel terms) refl
sum_of_list-scale c (x ∷ v) =
    rw (sum_of_list-scale c v) (ring (c ∷ x ∷ sum_of_list v ∷ []) (hlevel terms) refl)

pub sizes-scale_list : (c : Fraction) (v : Vector) → sizes (scale_list c v) ≡ scale_list (size c) (sizes v)
sizes-scale_list c [] = refl
sizes-scale_list c (x ∷ v) = ap₂ (λ y w. y ∷ w) (size_mul c x) (sizes-scale_list c v)

-- norms of vectors: each is 0 or above
pub norm_natural : (norm : Norm) (v : Vector) → whole (pos 0) ≤ℚ norm_of_vector norm v
norm_natural Sup v = greatest_natural (sizes v)
norm_natural Sum v = sum_of_sizes_natural v

-- each number's size is at most the norm
pub number_below_norm : (norm : Norm) (v : Vector) (i : ℕ) → size (number_at v i) ≤ℚ norm_of_vector norm v
number_below_norm Sup v i = rw (← number_at-sizes v i) (number_below_greatest (sizes v) i)
number_below_norm Sum [] i = le_of_equal size_zero
number_below_norm Sum (x ∷ v) zero =
    linear (size x ∷ sum_of_list (sizes v) ∷ []) (sum_of_sizes_natural v) (hlevel claims) refl
number_below_norm Sum (x ∷ v) (suc i) = linear
    (size x ∷ sum_of_list (sizes v) ∷ size (number_at v i) ∷ [])
    (number_below_norm Sum v i ⊞ size_natural x) (hlevel claims) refl

sup_below : (u v : Vector) → ((i : ℕ) → size (number_at u i) ≤ℚ size (number_at v i))
    → norm_of_vector Sup u ≤ℚ norm_of_vector Sup v
sup_below u v h = greatest_below (sizes u) (norm_natural Sup v)
    (λ i. rw (number_at-sizes u i) (le_trans (h i) (number_below_norm Sup v i)))

-- numbers of no greater size make no greater norm
pub norm_below : (norm : Norm) (u v : Vector) → ((i : ℕ) → size (number_at u i) ≤ℚ size (number_at v i))
    → norm_of_vector norm u ≤ℚ norm_of_vector norm v
norm_below Sup u v h = sup_below u v h
norm_below Sum [] v h = sum_of_sizes_natural v
norm_below Sum (x ∷ u) [] h = linear (size x ∷ sum_of_list (sizes u) ∷ [])
    (le_trans (h 0) (le_of_equal size_zero) ⊞ norm_below Sum u [] (λ i. h (suc i))) (hlevel claims) refl
norm_below Sum (x ∷ u) (y ∷ v) h = add_mono (h 0) (norm_below Sum u v (λ i. h (suc i)))

-- so the norm goes by the numbers alone
pub norm-same : (norm : Norm) (u v : Vector) → SameNumbers u v
    → norm_of_vector norm u ≡ norm_of_vector norm v
norm-same norm u v h = le_antisym (norm_below norm u v (λ i. le_of_equal (ap size (h i))))
    (norm_below norm v u (λ i. le_of_equal (ap size (sym (h i)))))

-- |v + w| <= |v| + |w|
pub norm-add_lists : (norm : Norm) (v w : Vector)
    → norm_of_vector norm (add_lists v w) ≤ℚ norm_of_vector norm v +ℚ norm_of_vector norm w
norm-add_lists Sup v w =
    greatest_below (sizes (add_lists v w)) (add_natural (norm_natural Sup v) (norm_natural Sup w))
    (λ i. rw (number_at-sizes (add_lists v w) i, number_at-add_lists v w i)
    (le_trans (size_add _ _) (add_mono (number_below_norm Sup v i) (number_below_norm Sup w i))))
norm-add_lists Sum [] w = linear (sum_of_list (sizes w) ∷ []) (le_refl (whole (pos 0))) (hlevel claims) refl
norm-add_lists Sum (x ∷ v) [] =
    linear (size x ∷ sum_of_list (sizes v) ∷ []) (le_refl (whole (pos 0))) (hlevel claims) refl
norm-add_lists Sum (x ∷ v) (y ∷ w) = linear
    (size (x +ℚ y) ∷ size x ∷ size y ∷ sum_of_list (sizes v) ∷ sum_of_list (sizes w) ∷ sum_of_list
    (sizes (add_lists v w)) ∷ [])
    (size_add x y ⊞ norm-add_lists Sum v w) (hlevel claims) refl

-- |c v| = |c| |v|
pub norm-scale_list : (norm : Norm) (c : Fraction) (v : Vector)
    → norm_of_vector norm (scale_list c v) ≡ size c *ℚ norm_of_vector norm v
norm-scale_list Sup c v =
    ap greatest (sizes-scale_list c v) ∙ greatest-scale (size c) (sizes v) (size_natural c)
norm-scale_list Sum c v = ap sum_of_list (sizes-scale_list c v) ∙ sum_of_list-scale (size c) (sizes v)

-- norms of matrices: each is 0 or above
pub matrix_norm_natural : (norm : Norm) (a : Matrix) → whole (pos 0) ≤ℚ norm_of_matrix norm a
matrix_norm_natural Sup a = greatest_natural (row_sums a)
matrix_norm_natural Sum a = greatest_natural (column_sums a)

-- a product with a row is at most the row's sum of sizes times the greatest size
dot_sup : (row v : Vector) → size (dot row v) ≤ℚ sum_of_list (sizes row) *ℚ greatest (sizes v)
dot_sup [] v =
    linear (size (whole (pos 0)) ∷ greatest (sizes v) ∷ []) (le_of_equal size_zero) (hlevel claims) refl
dot_sup (x ∷ row) [] = linear (size (whole (pos 0)) ∷ size x ∷ sum_of_list (sizes row) ∷ [])
    (le_of_equal size_zero) (hlevel claims) refl
dot_sup (x ∷ row) (y ∷ v) = widen (size (x *ℚ y +ℚ dot row v)) (size x) (size y) (size (dot row v))
    (sum_of_list (sizes row)) (greatest (sizes v)) (greater (size y) (greatest (sizes v)))
    (rw (← size_mul x y) (size_add _ _)) (dot_sup row v) (size_natural x) (sum_of_sizes_natural row)
    (le_greater_left _ _) (le_greater_right _ _)
  where
    widen : (t x y d s g m : Fraction) → t ≤ℚ x *ℚ y +ℚ d → d ≤ℚ s *ℚ g → whole (pos 0) ≤ℚ x
        → whole (pos 0) ≤ℚ s
        → y ≤ℚ m → g ≤ℚ m → t ≤ℚ (x +ℚ s) *ℚ m
    widen t x y d s g m h1 h2 hx hs h3 h4 =
        linear (t ∷ x ∷ y ∷ d ∷ s ∷ g ∷ m ∷ []) (h1 ⊞ h2 ⊞ hx ⊠ h3 ⊞ hs ⊠ h4) (hlevel claims) refl

image_sup : (a : Matrix) (v : Vector)
    → greatest (sizes (image a v)) ≤ℚ greatest (row_sums a) *ℚ greatest (sizes v)
image_sup [] v = linear (greatest (sizes v) ∷ []) (le_refl (whole (pos 0))) (hlevel claims) refl
image_sup (row ∷ a) v = greater_le (size (dot row v)) (greatest (sizes (image a v)))
    (widen _ (sum_of_list (sizes row)) _ _ (dot_sup row v) (le_greater_left _ _)
    (greatest_natural (sizes v)))
    (widen _ (greatest (row_sums a)) _ _ (image_sup a v) (le_greater_right _ _)
    (greatest_natural (sizes v)))
  where
    widen : (t s m g : Fraction) → t ≤ℚ s *ℚ g → s ≤ℚ m → whole (pos 0) ≤ℚ g → t ≤ℚ m *ℚ g
    widen t s m g h k z = linear (t ∷ s ∷ m ∷ g ∷ []) (h ⊞ k ⊠ z) (hlevel claims) refl

-- the sizes of an image add up to at most each column's sum of sizes times the vector's size there
size_of_dot : (row v : Vector) → size (dot row v) ≤ℚ dot (sizes row) (sizes v)
size_of_dot [] v = le_of_equal size_zero
size_of_dot (x ∷ row) [] = le_of_equal size_zero
size_of_dot (x ∷ row) (y ∷ v) =
    rw (← size_mul x y) (le_trans (size_add _ _) (add_mono (le_refl _) (size_of_dot row v)))

image_columns : (a : Matrix) (v : Vector) → sum_of_list (sizes (image a v)) ≤ℚ dot (column_sums a) (sizes v)
image_columns [] v = le_refl (whole (pos 0))
image_columns (row ∷ a) v = rw (dot-add_left (sizes row) (column_sums a) (sizes v))
    (add_mono (size_of_dot row v) (image_columns a v))

dot_greatest : (c v : Vector) → dot c (sizes v) ≤ℚ greatest c *ℚ sum_of_list (sizes v)
dot_greatest [] v = linear (sum_of_list (sizes v) ∷ []) (le_refl (whole (pos 0))) (hlevel claims) refl
dot_greatest (x ∷ c) [] = linear (greatest (x ∷ c) ∷ []) (le_refl (whole (pos 0))) (hlevel claims) refl
dot_greatest (x ∷ c) (y ∷ v) =
    widen x (size y) (greatest c) (sum_of_list (sizes v)) (dot c (sizes v)) (greater x (greatest c))
    (dot_greatest c v) (size_natural y) (sum_of_sizes_natural v) (le_greater_left _ _)
    (le_greater_right _ _)
  where
    widen : (x y g s d m : Fraction) → d ≤ℚ g *ℚ s → whole (pos 0) ≤ℚ y → whole (pos 0) ≤ℚ s → x ≤ℚ m
        → g ≤ℚ m
        → x *ℚ y +ℚ d ≤ℚ m *ℚ (y +ℚ s)
    widen x y g s d m h hy hs h1 h2 =
        linear (x ∷ y ∷ g ∷ s ∷ d ∷ m ∷ []) (h ⊞ h1 ⊠ hy ⊞ h2 ⊠ hs) (hlevel claims) refl

-- |A v| <= |A| |v|
pub norm-image : (norm : Norm) (a : Matrix) (v : Vector)
    → norm_of_vector norm (image a v) ≤ℚ norm_of_matrix norm a *ℚ norm_of_vector norm v
norm-image Sup a v = image_sup a v
norm-image Sum a v = le_trans (image_columns a v) (dot_greatest (column_sums a) v)

-- |A + B| <= |A| + |B|
row_sums_of_sum : (a b : Matrix) (i : ℕ)
    → number_at (row_sums (add_matrices a b)) i ≤ℚ number_at (row_sums a) i +ℚ number_at (row_sums b) i
row_sums_of_sum [] b i =
    linear (number_at (row_sums b) i ∷ []) (le_refl (whole (pos 0))) (hlevel claims) refl
row_sums_of_sum (row ∷ a) [] i =
    linear (number_at (row_sums (row ∷ a)) i ∷ []) (le_refl (whole (pos 0))) (hlevel claims) refl
row_sums_of_sum (row ∷ a) (other ∷ b) zero = norm-add_lists Sum row other
row_sums_of_sum (row ∷ a) (other ∷ b) (suc i) = row_sums_of_sum a b i

column_sums_of_sum : (a b : Matrix) (i : ℕ)
    → number_at (column_sums (add_matrices a b)) i ≤ℚ number_at (column_sums a) i +ℚ number_at
    (column_sums b) i
column_sums_of_sum [] b i =
    linear (number_at (column_sums b) i ∷ []) (le_refl (whole (pos 0))) (hlevel claims) refl
column_sums_of_sum (row ∷ a) [] i =
    linear (number_at (column_sums (row ∷ a)) i ∷ []) (le_refl (whole (pos 0))) (hlevel claims) refl
column_sums_of_sum (row ∷ a) (other ∷ b) i =
    rw (
      number_at-add_lists (sizes (add_lists row other)) (column_sums (add_matrices a b)) i,
      number_at-add_lists (sizes row) (column_sums a) i,
      number_at-add_lists (sizes other) (column_sums b) i,
      number_at-sizes (add_lists row other) i,
      number_at-sizes row i,
      number_at-sizes other i,
      number_at-add_lists row other i,
    )
    (join (number_at row i) (number_at other i) _ _ _ (column_sums_of_sum a b i))
  where
    join : (x y s t r : Fraction) → r ≤ℚ s +ℚ t → size (x +ℚ y) +ℚ r ≤ℚ (size x +ℚ s) +ℚ (size y +ℚ t)
    join x y s t r h =
        linear (size (x +ℚ y) ∷ size x ∷ size y ∷ s ∷ t ∷ r ∷ []) (size_add x y ⊞ h) (hlevel claims) refl

greatest_of_sum : (u v w : Vector) → ((i : ℕ) → number_at w i ≤ℚ number_at u i +ℚ number_at v i)
    → greatest w ≤ℚ greatest u +ℚ greatest v
greatest_of_sum u v w h = greatest_below w (add_natural (greatest_natural u) (greatest_natural v))
    (λ i. le_trans (h i) (add_mono (number_below_greatest u i) (number_below_greatest v i)))

pub norm-add_matrices : (norm : Norm) (a b : Matrix)
    → norm_of_matrix norm (add_matrices a b) ≤ℚ norm_of_matrix norm a +ℚ norm_of_matrix norm b
norm-add_matrices Sup a b =
    greatest_of_sum (row_sums a) (row_sums b) (row_sums (add_matrices a b)) (row_sums_of_sum a b)
norm-add_matrices Sum a b = greatest_of_sum (column_sums a) (column_sums b)
    (column_sums (add_matrices a b)) (column_sums_of_sum a b)

-- |c A| = |c| |A|
row_sums-scale : (c : Fraction) (a : Matrix)
    → row_sums (scale_matrix c a) ≡ scale_list (size c) (row_sums a)
row_sums-scale c [] = refl
row_sums-scale c (row ∷ a) = ap₂ (λ y w. y ∷ w) (norm-scale_list Sum c row) (row_sums-scale c a)

scale-add_lists : (c : Fraction) (u v : Vector)
    → scale_list c (add_lists u v) ≡ add_lists (scale_list c u) (scale_list c v)
scale-add_lists c [] v = refl
scale-add_lists c (x ∷ u) [] = refl
scale-add_lists c (x ∷ u) (y ∷ v) =
    ap₂ (λ z w. z ∷ w) (ring (c ∷ x ∷ y ∷ []) (hlevel terms) refl) (scale-add_lists c u v)

column_sums-scale : (c : Fraction) (a : Matrix)
    → column_sums (scale_matrix c a) ≡ scale_list (size c) (column_sums a)
column_sums-scale c [] = refl
column_sums-scale c (row ∷ a) = ap₂ add_lists (sizes-scale_list c row) (column_sums-scale c a)
    ∙ sym (scale-add_lists (size c) (sizes row) (column_sums a))

pub norm-scale_matrix : (norm : Norm) (c : Fraction) (a : Matrix)
    → norm_of_matrix norm (scale_matrix c a) ≡ size c *ℚ norm_of_matrix norm a
norm-scale_matrix Sup c a =
    ap greatest (row_sums-scale c a) ∙ greatest-scale (size c) (row_sums a) (size_natural c)
norm-scale_matrix Sum c a =
    ap greatest (column_sums-scale c a) ∙ greatest-scale (size c) (column_sums a) (size_natural c)

-- each number of a matrix is of at most its norm in size
number_below_columns : (a : Matrix) (i j : ℕ)
    → size (number_at (vector_at a i) j) ≤ℚ number_at (column_sums a) j
number_below_columns [] i j = le_of_equal size_zero
number_below_columns (row ∷ a) zero j =
    rw (number_at-add_lists (sizes row) (column_sums a) j, number_at-sizes row j)
    (linear (size (number_at row j) ∷ number_at (column_sums a) j ∷ []) (columns_natural a j)
    (hlevel claims) refl)
  where
    columns_natural : (a : Matrix) (j : ℕ) → whole (pos 0) ≤ℚ number_at (column_sums a) j
    columns_natural [] j = le_refl (whole (pos 0))
    columns_natural (row ∷ a) j = rw (
      number_at-add_lists (sizes row)
          (column_sums a) j,
      number_at-sizes row j,
    ) (add_natural (size_natural _) (columns_natural a j))
number_below_columns (row ∷ a) (suc i) j =
    rw (number_at-add_lists (sizes row) (column_sums a) j, number_at-sizes row j)
    (linear (size (number_at (vector_at a i) j) ∷ size (number_at row j) ∷ number_at (column_sums a) j ∷
    []) (number_below_columns a i j ⊞ size_natural (number_at row j)) (hlevel claims) refl)

number_below_rows : (a : Matrix) (i j : ℕ) → size (number_at (vector_at a i) j) ≤ℚ number_at (row_sums a) i
number_below_rows [] i j = le_of_equal size_zero
number_below_rows (row ∷ a) zero j = number_below_norm Sum row j
number_below_rows (row ∷ a) (suc i) j = number_below_rows a i j

pub number_below_matrix_norm : (norm : Norm) (a : Matrix) (i j : ℕ)
    → size (number_at (vector_at a i) j) ≤ℚ norm_of_matrix norm a
number_below_matrix_norm Sup a i j =
    le_trans (number_below_rows a i j) (number_below_greatest (row_sums a) i)
number_below_matrix_norm Sum a i j =
    le_trans (number_below_columns a i j) (number_below_greatest (column_sums a) j)
