-- The difference of an exact matrix and the stored one: its numbers, its images and its norm.
use Rattle.std.specs.Prelude.{◌≡◌, ℕ, suc, zero, pos, negsuc, List, [], ◌∷◌, length, ◌≤◌, ◌^◌}
use Rattle.std.proofs.Common.{refl, ap, sym, ◌∙◌, inl, inr, arith}
use Rattle.std.proofs.lemmas.Bool.{cases_lt}
use Rattle.std.proofs.lemmas.List.{get_or_past}
use Rattle.frac_laws.specs.Fraction.{Fraction, whole, ◌+ℚ◌, ◌*ℚ◌, ◌-ℚ◌, ◌≤ℚ◌, size}
use Rattle.frac_laws.specs.Lists.{Vector, Matrix, number_at, vector_at, matrix_at, add_lists, scale_list}
use Rattle.frac_laws.specs.Lists.{image, add_matrices, scale_matrix}
use Rattle.frac_laws.specs.Norms.{Norm, norm_of_matrix}
use Rattle.frac_laws.proofs.FractionTerms.{ring, terms}
use Rattle.frac_laws.proofs.Linear.{linear, claims, natural}
use Rattle.frac_laws.proofs.Order.{le_refl, le_trans, le_of_equal, le_antisym}
use Rattle.frac_laws.proofs.Lengths.{add_lists_fits, scale_list_fits, number_at-past, length-scale_matrix}
use Rattle.frac_laws.proofs.Lengths.{add_matrices_fits}
use Rattle.frac_laws.proofs.Vectors.{number_at-subtract_lists, image-add, image-scale}
use Rattle.frac_laws.proofs.Norms.{matrix_norm_natural, size_zero}
use Rattle.frac_laws.proofs.SmallNumbers.{IsSmall, matrix_norm_of_small}
use Rattle.step_laws.specs.StandsFor.{units, entry_at, MatricesStandFor}

-- A_m - B_m
abbrev pub difference : (exact stored : List Matrix) → ℕ → Matrix
difference exact stored m =
    add_matrices (matrix_at exact m) (scale_matrix (whole (negsuc 0)) (matrix_at stored m))

-- rows of sums and of multiples
add_lists-none : (v : Vector) → add_lists v [] ≡ v
add_lists-none [] = refl
add_lists-none (x ∷ v) = refl

vector_at-add_matrices : (a b : Matrix) (i : ℕ)
    → vector_at (add_matrices a b) i ≡ add_lists (vector_at a i) (vector_at b i)
vector_at-add_matrices [] b i = refl
vector_at-add_matrices (row ∷ a) [] i = sym (add_lists-none (vector_at (row ∷ a) i))
vector_at-add_matrices (row ∷ a) (other ∷ b) zero = refl
vector_at-add_matrices (row ∷ a) (other ∷ b) (suc i) = vector_at-add_matrices a b i

vector_at-scale_matrix : (c : Fraction) (a : Matrix) (i : ℕ)
    → vector_at (scale_matrix c a) i ≡ scale_list c (vector_at a i)
vector_at-scale_matrix c [] i = refl
vector_at-scale_matrix c (row ∷ a) zero = refl
vector_at-scale_matrix c (row ∷ a) (suc i) = vector_at-scale_matrix c a i

-- the difference's rows, numbers and images
module _ (exact stored : List Matrix) (m : ℕ) where
  row_is : (i : ℕ) → vector_at (difference exact stored m) i ≡ add_lists (vector_at (matrix_at exact m) i)
      (scale_list (whole (negsuc 0)) (vector_at (matrix_at stored m) i))
  row_is i = vector_at-add_matrices (matrix_at exact m) (scale_matrix (whole (negsuc 0)) (matrix_at stored m)) i
      ∙ ap (λ v. add_lists (vector_at (matrix_at exact m) i) v)
      (vector_at-scale_matrix (whole (negsuc 0)) (matrix_at stored m) i)

  number_is : (i j : ℕ) → number_at (vector_at (difference exact stored m) i) j
      ≡ entry_at exact m i j -ℚ entry_at stored m i j
  number_is i j = ap (λ v. number_at v j) (row_is i)
      ∙ number_at-subtract_lists (vector_at (matrix_at exact m) i) (vector_at (matrix_at stored m) i) j

  pub image-difference : (v : Vector) (i : ℕ) → number_at (image (difference exact stored m) v) i
      ≡ number_at (image (matrix_at exact m) v) i -ℚ number_at (image (matrix_at stored m) v) i
  image-difference v i =
      image-add (matrix_at exact m) (scale_matrix (whole (negsuc 0)) (matrix_at stored m)) v i
      ∙ ap (λ t. number_at (image (matrix_at exact m) v) i +ℚ t)
      (image-scale (whole (negsuc 0)) (matrix_at stored m) v i)
      ∙ ring (number_at (image (matrix_at exact m) v) i ∷ number_at (image (matrix_at stored m) v) i ∷ [])
      (hlevel terms) refl

pub entry_past_rows : (matrices : List Matrix) (d m i j : ℕ) → length (matrix_at matrices m) ≤ d → d ≤ i
    → entry_at matrices m i j ≡ whole (pos 0)
entry_past_rows matrices d m i j h k =
    ap (λ v. number_at v j) (get_or_past (matrix_at matrices m) i [] (omega arith))

pub both_zero : {x y r : Fraction} → x ≡ whole (pos 0) → y ≡ whole (pos 0) → whole (pos 0) ≤ℚ r
    → size (x -ℚ y) ≤ℚ r
both_zero e f z = rw (e, f) (le_trans (le_of_equal (ap size (ring [] (hlevel terms) refl) ∙ size_zero)) z)

-- a stored system's matrices, each of which is close to the exact one
module _ (error d : ℕ) (stored exact : List Matrix) (s : MatricesStandFor error d stored exact) where
  pub near_everywhere : (m i j : ℕ) → size (entry_at exact m i j -ℚ entry_at stored m i j) ≤ℚ units error
  near_everywhere m i j = elim (cases_lt i d) [
    | inl b ↦ elim (cases_lt j d) [
      | inl c ↦ s.near m i j b c
      | inr c ↦ both_zero
          (number_at-past (vector_at (matrix_at exact m) i) d j (s.exact_fit.columns m i) c)
          (number_at-past (vector_at (matrix_at stored m) i) d j (s.stored_fit.columns m i) c)
          (natural error (2 ^ 64))
    ]
    | inr b ↦ both_zero (entry_past_rows exact d m i j (s.exact_fit.rows m) b)
        (entry_past_rows stored d m i j (s.stored_fit.rows m) b) (natural error (2 ^ 64))
  ]

  within : (r : Fraction) (m : ℕ)
      → ((i j : ℕ) → size (entry_at exact m i j -ℚ entry_at stored m i j) ≤ℚ r)
      → IsSmall d r (difference exact stored m)
  within r m h = record {
    rows = add_matrices_fits d (matrix_at exact m) (scale_matrix (whole (negsuc 0)) (matrix_at stored m))
        (s.exact_fit.rows m)
        (rw (length-scale_matrix (whole (negsuc 0)) (matrix_at stored m)) (s.stored_fit.rows m));
    columns = λ i. rw (row_is exact stored m i)
        (add_lists_fits d (vector_at (matrix_at exact m) i)
        (scale_list (whole (negsuc 0)) (vector_at (matrix_at stored m) i)) (s.exact_fit.columns m i)
        (scale_list_fits d (whole (negsuc 0)) (vector_at (matrix_at stored m) i) (s.stored_fit.columns m i)));
    numbers = λ i j. rw (number_is exact stored m i j) (h i j);
  }

  -- |A_m - B_m| is at most d times the error, and 0 beyond power 11
  pub change_is_small : (norm : Norm) (m : ℕ)
      → norm_of_matrix norm (difference exact stored m) ≤ℚ whole (pos d) *ℚ units error
  change_is_small norm m = matrix_norm_of_small norm d (units error) (difference exact stored m)
      (natural error (2 ^ 64)) (within (units error) m (near_everywhere m))

  pub no_change_past : (norm : Norm) (m : ℕ) → 12 ≤ m
      → norm_of_matrix norm (difference exact stored m) ≡ whole (pos 0)
  no_change_past norm m b = le_antisym
      (le_trans (matrix_norm_of_small norm d (whole (pos 0)) (difference exact stored m) (le_refl _)
      (within (whole (pos 0)) m
      (λ i j. both_zero (s.exact_fit.no_more m i j b) (s.stored_fit.no_more m i j b) (le_refl _))))
      (linear (whole (pos d) ∷ []) (le_refl (whole (pos 0))) (hlevel claims) refl))
      (matrix_norm_natural norm (difference exact stored m))
