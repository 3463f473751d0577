-- The matrices and vectors of a cell's systems, number by number.
use Rattle.std.specs.Prelude.{◌≡◌, ◌≢◌, ℕ, suc, pos, ◌+◌, ◌-◌, ◌<◌, ◌≤◌, refl, [], ◌∷◌}
use Rattle.std.proofs.Common.{ap, sym, ◌∙◌, inl, inr, arith}
use Rattle.std.proofs.lemmas.Bool.{cases_lt}
use Rattle.std.proofs.lemmas.Bool.Decides.{eqb_tells}
use Rattle.frac_laws.specs.Fraction.{Fraction, whole, ◌+ℚ◌, ◌*ℚ◌}
use Rattle.frac_laws.specs.Sums.{sum_to}
use Rattle.frac_laws.specs.Convolution.{convolution}
use Rattle.frac_laws.specs.Lists.{Vector, number_at, vector_at, matrix_at, dot, image}
use Rattle.frac_laws.proofs.FractionTerms.{ring, terms}
use Rattle.frac_laws.proofs.Sums.{sum_to_ext, sum_to_add, sum_to_zeros}
use Rattle.frac_laws.proofs.Convolutions.{sum_to_one}
use Rattle.frac_laws.proofs.Vectors.{number_at-image, dot-sum}
use Rattle.whole_laws.specs.Whole.{list_of}
use Rattle.model_specs.specs.Systems.{matrix_of, vector_of, where_same}
use Rattle.whole_laws.proofs.ListsByPlace.{at-list_of, past-list_of, length-list_of}

-- number i of a table's product with a vector, where the table is 0 past its last power
pub image-table : (states powers : ℕ) (f : ℕ → ℕ → ℕ → Fraction) (m i : ℕ) (v : Vector) → i < states
    → ((j : ℕ) → powers ≤ m → f m i j ≡ whole (pos 0))
    → number_at (image (matrix_at (list_of powers (λ k. matrix_of states (f k))) m) v) i
    ≡ sum_to states (λ j. f m i j *ℚ number_at v j)
image-table states powers f m i v within past = elim (cases_lt m powers) [
  | inl low ↦ rw (at-list_of powers (λ k. matrix_of states (f k)) m [] low)
      (number_at-image (matrix_of states (f m)) v i
      ∙ rw (at-list_of states (λ k. list_of states (f m k)) i [] within) (row i))
  | inr high ↦ rw (past-list_of powers (λ k. matrix_of states (f k)) m [] high)
      (sym (sum_to_zeros states (λ j b. rw (past j high) (ring (number_at v j ∷ []) (hlevel terms) refl))))
]
  where
    row : (i : ℕ) → dot (list_of states (f m i)) v ≡ sum_to states (λ j. f m i j *ℚ number_at v j)
    row i = dot-sum (list_of states (f m i)) v states (rw (length-list_of states (f m i)) (omega arith))
        ∙ sum_to_ext states
        (λ j b. ap (λ z. z *ℚ number_at v j) (at-list_of states (f m i) j (whole (pos 0)) b))

-- number i of a table of vectors, where the table is 0 past its last power
pub number-table : (states powers : ℕ) (f : ℕ → ℕ → Fraction) (k i : ℕ) → i < states
    → (powers ≤ k → f k i ≡ whole (pos 0))
    → number_at (vector_at (list_of powers (λ m. vector_of states (f m))) k) i ≡ f k i
number-table states powers f k i within past = elim (cases_lt k powers) [
  | inl low ↦ rw (at-list_of powers (λ m. vector_of states (f m)) k [] low)
      (at-list_of states (f k) i (whole (pos 0)) within)
  | inr high ↦ rw (past-list_of powers (λ m. vector_of states (f m)) k [] high) (sym (past high))
]

-- a number on the diagonal, and elsewhere
pub where_same-same : (i : ℕ) (x : Fraction) → where_same i i x ≡ x
where_same-same i x = elim (eqb_tells i i) [ inl same ↦ rw same.0 refl | inr other ↦ absurd (other.1 refl) ]

pub where_same-other : (i j : ℕ) (x : Fraction) → j ≢ i → where_same i j x ≡ whole (pos 0)
where_same-other i j x differ =
    elim (eqb_tells i j) [ inl same ↦ absurd (differ (sym same.1)) | inr other ↦ rw other.0 refl ]

where_same-zero : (i j : ℕ) → where_same i j (whole (pos 0)) ≡ whole (pos 0)
where_same-zero i j = elim (eqb_tells i j) [ inl same ↦ rw same.0 refl | inr other ↦ rw other.0 refl ]

-- a row with something on the diagonal
pub row-diagonal : (states i : ℕ) (g v : ℕ → Fraction) (x : Fraction) → i < states
    → sum_to states (λ j. (g j +ℚ where_same i j x) *ℚ v j) ≡ x *ℚ v i +ℚ sum_to states (λ j. g j *ℚ v j)
row-diagonal states i g v x within =
    sum_to_ext states (λ j b. ring (g j ∷ where_same i j x ∷ v j ∷ []) (hlevel terms) refl)
    ∙ sum_to_add states (λ j. where_same i j x *ℚ v j) (λ j. g j *ℚ v j)
    ∙ ap (λ z. z +ℚ sum_to states (λ j. g j *ℚ v j))
    (sum_to_one states i {f = λ j. where_same i j x *ℚ v j} within
    (λ j differ. rw (where_same-other i j x differ) (ring (v j ∷ []) (hlevel terms) refl))
    ∙ ap (λ z. z *ℚ v i) (where_same-same i x))

-- what is 0 beside the diagonal and on it is 0
pub entry-zero : (i j : ℕ) (g x : Fraction) → g ≡ whole (pos 0) → x ≡ whole (pos 0)
    → g +ℚ where_same i j x ≡ whole (pos 0)
entry-zero i j g x none nothing = rw (none, nothing, where_same-zero i j) (ring [] (hlevel terms) refl)

-- a convolution of two sequences that are 0 from d and from e on is 0 from d + e - 1 on
pub convolution-past : (d e k : ℕ) (a b : ℕ → Fraction) → ((m : ℕ) → d ≤ m → a m ≡ whole (pos 0))
    → ((m : ℕ) → e ≤ m → b m ≡ whole (pos 0)) → d + e ≤ suc k → convolution a b k ≡ whole (pos 0)
convolution-past d e k a b none nothing past = sum_to_zeros (suc k) (λ m within. term m within)
  where
    term : (m : ℕ) → m < suc k → a m *ℚ b (k - m) ≡ whole (pos 0)
    term m within = elim (cases_lt m d) [
      | inl low ↦ rw (nothing (k - m) (omega arith)) (ring (a m ∷ []) (hlevel terms) refl)
      | inr high ↦ rw (none m high) (ring (b (k - m) ∷ []) (hlevel terms) refl)
    ]
