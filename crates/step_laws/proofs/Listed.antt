-- Vectors, matrices and lists of them that are listed from their numbers.
use Rattle.std.specs.Prelude.{◌≡◌, ℕ, suc, zero, pos, List, [], ◌∷◌, length, slice_index_or, ◌<◌, ◌≤◌, ◌-◌}
use Rattle.std.proofs.Common.{refl, ap, sym, ◌∙◌, inl, inr, arith}
use mathlib.Core.Path.{ap₂}
use Rattle.std.proofs.lemmas.Bool.{cases_lt}
use Rattle.std.proofs.lemmas.List.{get_or_past}
use Rattle.frac_laws.specs.Fraction.{Fraction, whole, ◌*ℚ◌}
use Rattle.frac_laws.specs.Sums.{sum_to}
use Rattle.frac_laws.specs.Lists.{Vector, Matrix, number_at, vector_at, matrix_at, image}
use Rattle.frac_laws.proofs.Sums.{sum_to_ext}
use Rattle.frac_laws.proofs.Vectors.{number_at-image, dot-sum}
use Rattle.cell_laws.specs.Recurrence.{convolved}
use Rattle.step_laws.specs.StandsFor.{entry_at, MatricesFit, VectorsFit, MatricesStandFor}
use Rattle.step_laws.specs.StandsFor.{VectorsStandFor}
use Rattle.step_laws.specs.StoredSteps.{NumbersStandFor, FreeNumbersStandFor}

-- f 0, .., f (n - 1)
abbrev pub listed : {A : Type 0} → ℕ → (ℕ → A) → List A
listed zero f = []
listed (suc n) f = f 0 ∷ listed n (λ k. f (suc k))

pub length-listed : {A : Type 0} (n : ℕ) (f : ℕ → A) → length (listed n f) ≡ n
length-listed zero f = refl
length-listed (suc n) f = ap suc (length-listed n (λ k. f (suc k)))

pub item_at : {A : Type 0} (n : ℕ) (f : ℕ → A) (i : ℕ) (d : A) → i < n → slice_index_or (listed n f) i d ≡ f i
item_at zero f i d b = absurd (omega arith)
item_at (suc n) f zero d b = refl
item_at (suc n) f (suc i) d b = item_at n (λ k. f (suc k)) i d (omega arith)

pub item_past : {A : Type 0} (n : ℕ) (f : ℕ → A) (i : ℕ) (d : A) → n ≤ i → slice_index_or (listed n f) i d ≡ d
item_past n f i d b = let e = length-listed n f in get_or_past (listed n f) i d (omega (arith, e))

-- d numbers; d rows of d numbers; the powers up to 11
abbrev pub vector_of : ℕ → (ℕ → Fraction) → Vector
vector_of d f = listed d f

abbrev pub matrix_of : ℕ → ((row col : ℕ) → Fraction) → Matrix
matrix_of d f = listed d (λ row. vector_of d (f row))

abbrev pub matrices_of : ℕ → ((m row col : ℕ) → Fraction) → List Matrix
matrices_of d f = listed 12 (λ m. matrix_of d (f m))

abbrev pub vectors_of : ℕ → ((m row : ℕ) → Fraction) → List Vector
vectors_of d f = listed 12 (λ m. vector_of d (f m))

pub number_at-vector_of : (d : ℕ) (f : ℕ → Fraction) (i : ℕ) → i < d → number_at (vector_of d f) i ≡ f i
number_at-vector_of d f i b = item_at d f i (whole (pos 0)) b

pub vector_of_fits : (d : ℕ) (f : ℕ → Fraction) → length (vector_of d f) ≤ d
vector_of_fits d f = let e = length-listed d f in omega (arith, e)

nothing_fits : {A : Type 0} (xs : List A) (d : ℕ) → xs ≡ [] → length xs ≤ d
nothing_fits xs d e = rw e (omega arith)

module _ (d : ℕ) (f : (m row col : ℕ) → Fraction) where
  matrix_rows : (m : ℕ) → length (matrix_at (matrices_of d f) m) ≤ d
  matrix_rows m = elim (cases_lt m 12) [
    | inl b ↦ rw (item_at 12 (λ m. matrix_of d (f m)) m [] b)
        (let e = length-listed d (λ row. vector_of d (f m row)) in omega (arith, e))
    | inr b ↦ nothing_fits (matrix_at (matrices_of d f) m) d (item_past 12 (λ m. matrix_of d (f m)) m [] b)
  ]

  row_fits : (m row : ℕ) → length (vector_at (matrix_of d (f m)) row) ≤ d
  row_fits m row = elim (cases_lt row d) [
    | inl c ↦ rw (item_at d (λ row. vector_of d (f m row)) row [] c) (vector_of_fits d (f m row))
    | inr c ↦ nothing_fits (vector_at (matrix_of d (f m)) row) d
        (item_past d (λ row. vector_of d (f m row)) row [] c)
  ]

  pub matrix_columns : (m row : ℕ) → length (vector_at (matrix_at (matrices_of d f) m) row) ≤ d
  matrix_columns m row = elim (cases_lt m 12) [
    | inl b ↦ rw (item_at 12 (λ m. matrix_of d (f m)) m [] b) (row_fits m row)
    | inr b ↦ nothing_fits (vector_at (matrix_at (matrices_of d f) m) row) d
        (ap (λ a. vector_at a row) (item_past 12 (λ m. matrix_of d (f m)) m [] b))
  ]

  pub matrices_fit : MatricesFit d (matrices_of d f)
  matrices_fit = record {
    rows = matrix_rows;
    columns = matrix_columns;
    no_more = λ m row col b. ap (λ a. number_at (vector_at a row) col)
        (item_past 12 (λ m. matrix_of d (f m)) m [] b);
  }

  -- each number stands in its place, where those beyond power 11 are 0
  module _ (no_more : (m row col : ℕ) → row < d → col < d → 12 ≤ m → f m row col ≡ whole (pos 0)) where
    pub entry_is : (m row col : ℕ) → row < d → col < d → entry_at (matrices_of d f) m row col ≡ f m row col
    entry_is m row col b c = elim (cases_lt m 12) [
      | inl l ↦ ap (λ a. number_at (vector_at a row) col) (item_at 12 (λ m. matrix_of d (f m)) m [] l)
          ∙ ap (λ v. number_at v col) (item_at d (λ row. vector_of d (f m row)) row [] b)
          ∙ number_at-vector_of d (f m row) col c
      | inr l ↦ matrices_fit.no_more m row col l ∙ sym (no_more m row col b c l)
    ]

    -- so a row's part of a step is a sum over the columns
    pub image_is : (m row : ℕ) (v : ℕ → Fraction) → row < d
        → number_at (image (matrix_at (matrices_of d f) m) (vector_of d v)) row
        ≡ sum_to d (λ col. f m row col *ℚ v col)
    image_is m row v b = number_at-image (matrix_at (matrices_of d f) m) (vector_of d v) row
        ∙ dot-sum (vector_at (matrix_at (matrices_of d f) m) row) (vector_of d v) d (matrix_columns m row)
        ∙ sum_to_ext d (λ col c. ap₂ ◌*ℚ◌ (entry_is m row col b c) (number_at-vector_of d v col c))

    pub convolved_is : (z : (k row : ℕ) → Fraction) (k row : ℕ) → row < d
        → convolved (matrices_of d f) (λ j. vector_of d (z j)) k row
        ≡ sum_to (suc k) (λ m. sum_to d (λ col. f m row col *ℚ z (k - m) col))
    convolved_is z k row b = sum_to_ext (suc k) (λ m c. image_is m row (z (k - m)) b)

module _ (d : ℕ) (f : (m row : ℕ) → Fraction) where
  pub vectors_fit : VectorsFit d (vectors_of d f)
  vectors_fit = record {
    numbers = λ m. elim (cases_lt m 12) [
      | inl b ↦ rw (item_at 12 (λ m. vector_of d (f m)) m [] b) (vector_of_fits d (f m))
      | inr b ↦ nothing_fits (vector_at (vectors_of d f) m) d (item_past 12 (λ m. vector_of d (f m)) m [] b)
    ];
    no_more = λ m row b. ap (λ v. number_at v row) (item_past 12 (λ m. vector_of d (f m)) m [] b);
  }

  pub free_is : ((m row : ℕ) → row < d → 12 ≤ m → f m row ≡ whole (pos 0))
      → (m row : ℕ) → row < d → number_at (vector_at (vectors_of d f) m) row ≡ f m row
  free_is no_more m row b = elim (cases_lt m 12) [
    | inl l ↦ ap (λ v. number_at v row) (item_at 12 (λ m. vector_of d (f m)) m [] l)
        ∙ number_at-vector_of d (f m) row b
    | inr l ↦ vectors_fit.no_more m row l ∙ sym (no_more m row b l)
  ]

-- and the lists stand for what the numbers stand for
pub matrices_stand : (error d : ℕ) (f : (m row col : ℕ) → Fraction) (exact : List Matrix)
    → NumbersStandFor error d f exact → MatricesStandFor error d (matrices_of d f) exact
matrices_stand error d f exact s = record {
  stored_fit = matrices_fit d f;
  exact_fit = s.exact_fit;
  near = λ m row col b c. rw (entry_is d f s.no_more m row col b c) (s.near m row col b c);
}

pub vectors_stand : (error d : ℕ) (f : (m row : ℕ) → Fraction) (exact : List Vector)
    → FreeNumbersStandFor error d f exact → VectorsStandFor error d (vectors_of d f) exact
vectors_stand error d f exact s = record {
  stored_fit = vectors_fit d f;
  exact_fit = s.exact_fit;
  near = λ m row b. rw (free_is d f s.no_more m row b) (s.near m row b);
}
