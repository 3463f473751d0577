-- Norms of matrices that are given by places.
use Rattle.std.specs.Prelude.{◌≡◌, ℕ, zero, suc, pos, ◌<◌, ◌≤◌, [], ◌∷◌}
use Rattle.std.proofs.Common.{refl, ap, sym, ◌∙◌, arith, inl, inr}
use mathlib.Core.Path.{ap₂}
use Rattle.std.proofs.lemmas.Bool.{cases_lt}
use Rattle.std.proofs.lemmas.Bool.Decides.{eqb_tells}
use Rattle.frac_laws.specs.Fraction.{Fraction, whole, size, ◌+ℚ◌, ◌*ℚ◌, ◌≤ℚ◌}
use Rattle.frac_laws.specs.Sums.{sum_to, sum_of_list}
use Rattle.frac_laws.specs.Lists.{Vector, number_at, add_lists, scale_list, add_matrices, scale_matrix}
use Rattle.frac_laws.specs.Lists.{identity, shift_rows}
use Rattle.frac_laws.specs.Norms.{sizes, greatest, row_sums, column_sums}
use Rattle.frac_laws.proofs.FractionTerms.{ring, terms}
use Rattle.frac_laws.proofs.Linear.{natural}
use Rattle.frac_laws.proofs.Order.{le_trans, le_of_equal}
use Rattle.frac_laws.proofs.Sizes.{size_add, size_mul, size_of_natural}
use Rattle.frac_laws.proofs.Sums.{sum_to_first, sum_to_mono, sum_to_add, sum_to_scale_right}
use Rattle.frac_laws.proofs.Convolutions.{sum_to_one}
use Rattle.frac_laws.proofs.Extremes.{greater_le}
use Rattle.frac_laws.proofs.Vectors.{number_at-add_lists}
use Rattle.frac_laws.proofs.Norms.{number_at-sizes, greatest_below, size_zero}
use Rattle.whole_laws.specs.Whole.{list_of}
use Rattle.model_specs.specs.Systems.{matrix_of, where_same}
use Rattle.whole_laws.proofs.ListsByPlace.{at-list_of, past-list_of, list_of-agree}

-- 1 where two places are one, and else 0
abbrev pub unit_at : ℕ → ℕ → Fraction
unit_at zero zero = whole (pos 1)
unit_at zero (suc j) = whole (pos 0)
unit_at (suc i) zero = whole (pos 0)
unit_at (suc i) (suc j) = unit_at i j

pub unit-same : (i : ℕ) → unit_at i i ≡ whole (pos 1)
unit-same zero = refl
unit-same (suc i) = unit-same i

pub unit-other : (i j : ℕ) → (j ≡ i → ⊥) → unit_at i j ≡ whole (pos 0)
unit-other zero zero h = absurd (h refl)
unit-other zero (suc j) h = refl
unit-other (suc i) zero h = refl
unit-other (suc i) (suc j) h = unit-other i j (λ e. h (ap (λ k. suc k) e))

pub unit-symmetric : (i j : ℕ) → unit_at i j ≡ unit_at j i
unit-symmetric zero zero = refl
unit-symmetric zero (suc j) = refl
unit-symmetric (suc i) zero = refl
unit-symmetric (suc i) (suc j) = unit-symmetric i j

pub unit_natural : (i j : ℕ) → whole (pos 0) ≤ℚ unit_at i j
unit_natural zero zero = natural 1 1
unit_natural zero (suc j) = natural 0 1
unit_natural (suc i) zero = natural 0 1
unit_natural (suc i) (suc j) = unit_natural i j

pub where_same-is : (i j : ℕ) (x : Fraction) → where_same i j x ≡ unit_at i j *ℚ x
where_same-is i j x = elim (eqb_tells i j) [
  | inl same ↦ rw same.0 (ring (x ∷ []) (hlevel terms) refl
      ∙ ap (λ u. u *ℚ x) (sym (ap (unit_at i) (sym same.1) ∙ unit-same i)))
  | inr other ↦ rw other.0 (ring (x ∷ []) (hlevel terms) refl
      ∙ ap (λ u. u *ℚ x) (sym (unit-other i j (λ e. other.1 (sym e)))))
]

pub sum_of_units : (n i : ℕ) → i < n → sum_to n (unit_at i) ≡ whole (pos 1)
sum_of_units n i b = sum_to_one n i b (λ j h. unit-other i j h) ∙ unit-same i

-- a row of links: p j, and d at the place i
pub links_row : (n i : ℕ) (p : ℕ → Fraction) (d : Fraction) → i < n
    → sum_to n (λ j. size (p j +ℚ unit_at i j *ℚ d)) ≤ℚ sum_to n (λ j. size (p j)) +ℚ size d
links_row n i p d b =
    le_trans (sum_to_mono n each) (le_of_equal (sum_to_add n (λ j. size (p j)) (λ j. unit_at i j *ℚ size d)
    ∙ ap (λ z. sum_to n (λ j. size (p j)) +ℚ z) (sum_to_scale_right n (size d) (unit_at i)
    ∙ ap (λ z. z *ℚ size d) (sum_of_units n i b)
    ∙ ring (size d ∷ []) (hlevel terms) refl)))
  where
    each : (j : ℕ) → j < n → size (p j +ℚ unit_at i j *ℚ d) ≤ℚ size (p j) +ℚ unit_at i j *ℚ size d
    each j c = le_trans (size_add (p j) (unit_at i j *ℚ d))
        (le_of_equal (ap (λ z. size (p j) +ℚ z) (size_mul (unit_at i j) d
        ∙ ap (λ z. z *ℚ size d) (size_of_natural (unit_natural i j)))))

-- rows and columns of a table
pub sizes-list_of : (n : ℕ) (f : ℕ → Fraction) → sum_of_list (sizes (list_of n f)) ≡ sum_to n (λ j. size (f j))
sizes-list_of zero f = refl
sizes-list_of (suc n) f =
    ap (λ z. size (f 0) +ℚ z) (sizes-list_of n (λ j. f (suc j))) ∙ sym (sum_to_first n (λ j. size (f j)))

pub table_rows : (n rows : ℕ) (f : ℕ → ℕ → Fraction) (r : Fraction) → whole (pos 0) ≤ℚ r
    → ((i : ℕ) → i < rows → sum_to n (λ j. size (f i j)) ≤ℚ r)
    → greatest (row_sums (list_of rows (λ i. list_of n (f i)))) ≤ℚ r
table_rows n zero f r some h = some
table_rows n (suc rows) f r some h =
    greater_le _ _ (rw (sizes-list_of n (f 0)) (h 0 (omega arith)))
    (table_rows n rows (λ i. f (suc i)) r some (λ i b. h (suc i) (omega arith)))

pub vector_most : (n : ℕ) (f : ℕ → Fraction) (r : Fraction) → whole (pos 0) ≤ℚ r
    → ((i : ℕ) → i < n → size (f i) ≤ℚ r) → greatest (sizes (list_of n f)) ≤ℚ r
vector_most zero f r some h = some
vector_most (suc n) f r some h =
    greater_le _ _ (h 0 (omega arith)) (vector_most n (λ i. f (suc i)) r some (λ i b. h (suc i) (omega arith)))

column_at : (n rows : ℕ) (f : ℕ → ℕ → Fraction) (j : ℕ) → j < n
    → number_at (column_sums (list_of rows (λ i. list_of n (f i)))) j ≡ sum_to rows (λ i. size (f i j))
column_at n zero f j b = refl
column_at n (suc rows) f j b =
    number_at-add_lists (sizes (list_of n (f 0))) (column_sums (list_of rows (λ i. list_of n (f (suc i))))) j
    ∙ ap₂ ◌+ℚ◌ (number_at-sizes (list_of n (f 0)) j ∙ ap size (at-list_of n (f 0) j (whole (pos 0)) b))
    (column_at n rows (λ i. f (suc i)) j b)
    ∙ sym (sum_to_first rows (λ i. size (f i j)))

column_past : (n rows : ℕ) (f : ℕ → ℕ → Fraction) (j : ℕ) → n ≤ j
    → number_at (column_sums (list_of rows (λ i. list_of n (f i)))) j ≡ whole (pos 0)
column_past n zero f j b = refl
column_past n (suc rows) f j b =
    number_at-add_lists (sizes (list_of n (f 0))) (column_sums (list_of rows (λ i. list_of n (f (suc i))))) j
    ∙ ap₂ ◌+ℚ◌ (number_at-sizes (list_of n (f 0)) j ∙ ap size (past-list_of n (f 0) j (whole (pos 0)) b) ∙ size_zero)
    (column_past n rows (λ i. f (suc i)) j b)
    ∙ ring [] (hlevel terms) refl

pub table_columns : (n rows : ℕ) (f : ℕ → ℕ → Fraction) (r : Fraction) → whole (pos 0) ≤ℚ r
    → ((j : ℕ) → j < n → sum_to rows (λ i. size (f i j)) ≤ℚ r)
    → greatest (column_sums (list_of rows (λ i. list_of n (f i)))) ≤ℚ r
table_columns n rows f r some h = greatest_below _ some (λ j. elim (cases_lt j n) [
  | inl b ↦ rw (column_at n rows f j b) (h j b)
  | inr b ↦ rw (column_past n rows f j b) some
])

add-list_of : (n : ℕ) (f g : ℕ → Fraction)
    → add_lists (list_of n f) (list_of n g) ≡ list_of n (λ i. f i +ℚ g i)
add-list_of zero f g = refl
add-list_of (suc n) f g = ap (λ xs. (f 0 +ℚ g 0) ∷ xs) (add-list_of n (λ i. f (suc i)) (λ i. g (suc i)))

pub scale-list_of : (n : ℕ) (c : Fraction) (f : ℕ → Fraction)
    → scale_list c (list_of n f) ≡ list_of n (λ i. c *ℚ f i)
scale-list_of zero c f = refl
scale-list_of (suc n) c f = ap (λ xs. (c *ℚ f 0) ∷ xs) (scale-list_of n c (λ i. f (suc i)))

add-rows : (n : ℕ) (f g : ℕ → Vector)
    → add_matrices (list_of n f) (list_of n g) ≡ list_of n (λ i. add_lists (f i) (g i))
add-rows zero f g = refl
add-rows (suc n) f g = ap (λ xs. add_lists (f 0) (g 0) ∷ xs) (add-rows n (λ i. f (suc i)) (λ i. g (suc i)))

scale-rows : (n : ℕ) (c : Fraction) (f : ℕ → Vector)
    → scale_matrix c (list_of n f) ≡ list_of n (λ i. scale_list c (f i))
scale-rows zero c f = refl
scale-rows (suc n) c f = ap (λ xs. scale_list c (f 0) ∷ xs) (scale-rows n c (λ i. f (suc i)))

pub scale-table : (n : ℕ) (c : Fraction) (f : ℕ → ℕ → Fraction)
    → scale_matrix c (matrix_of n f) ≡ matrix_of n (λ i j. c *ℚ f i j)
scale-table n c f =
    scale-rows n c (λ i. list_of n (f i))
    ∙ list_of-agree n (λ i. scale_list c (list_of n (f i))) (λ i. list_of n (λ j. c *ℚ f i j))
    (λ i b. scale-list_of n c (f i))

pub add-table : (n : ℕ) (f g : ℕ → ℕ → Fraction)
    → add_matrices (matrix_of n f) (matrix_of n g) ≡ matrix_of n (λ i j. f i j +ℚ g i j)
add-table n f g =
    add-rows n (λ i. list_of n (f i)) (λ i. list_of n (g i))
    ∙ list_of-agree n (λ i. add_lists (list_of n (f i)) (list_of n (g i))) (λ i. list_of n (λ j. f i j +ℚ g i j))
    (λ i b. add-list_of n (f i) (g i))

-- the identity by rows
abbrev unit_row : ℕ → Vector
unit_row zero = whole (pos 1) ∷ []
unit_row (suc i) = whole (pos 0) ∷ unit_row i

shift-list_of : (n : ℕ) (f : ℕ → Vector) → shift_rows (list_of n f) ≡ list_of n (λ i. whole (pos 0) ∷ f i)
shift-list_of zero f = refl
shift-list_of (suc n) f = ap (λ xs. (whole (pos 0) ∷ f 0) ∷ xs) (shift-list_of n (λ i. f (suc i)))

identity-rows : (n : ℕ) → identity n ≡ list_of n unit_row
identity-rows zero = refl
identity-rows (suc n) =
    ap (λ rows. (whole (pos 1) ∷ []) ∷ shift_rows rows) (identity-rows n)
    ∙ ap (λ rows. (whole (pos 1) ∷ []) ∷ rows) (shift-list_of n unit_row)

unit_row-add : (n i : ℕ) (f : ℕ → Fraction) → i < n
    → add_lists (unit_row i) (list_of n f) ≡ list_of n (λ j. unit_at i j +ℚ f j)
unit_row-add zero i f b = absurd (omega arith)
unit_row-add (suc n) zero f b =
    ap (λ xs. (whole (pos 1) +ℚ f 0) ∷ xs)
    (list_of-agree n (λ j. f (suc j)) (λ j. whole (pos 0) +ℚ f (suc j))
    (λ j c. ring (f (suc j) ∷ []) (hlevel terms) refl))
unit_row-add (suc n) (suc i) f b =
    ap (λ xs. (whole (pos 0) +ℚ f 0) ∷ xs) (unit_row-add n i (λ j. f (suc j)) (omega arith))

pub identity-add : (n : ℕ) (f : ℕ → ℕ → Fraction)
    → add_matrices (identity n) (matrix_of n f) ≡ matrix_of n (λ i j. unit_at i j +ℚ f i j)
identity-add n f =
    ap (λ a. add_matrices a (matrix_of n f)) (identity-rows n)
    ∙ add-rows n unit_row (λ i. list_of n (f i))
    ∙ list_of-agree n (λ i. add_lists (unit_row i) (list_of n (f i))) (λ i. list_of n (λ j. unit_at i j +ℚ f i j))
    (λ i b. unit_row-add n i (f i) b)
