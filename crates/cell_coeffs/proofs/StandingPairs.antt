-- Stored rows of both moments make a system that stands for Norberg's pair.
use Rattle.std.specs.Prelude.{◌≡◌, ℕ, suc, pos, ◌+◌, ◌<◌, ◌≤◌, Bool, true, false, cond, nat_eq}
use Rattle.std.specs.Prelude.{List, [], ◌∷◌, length, map}
use Rattle.std.proofs.Common.{refl, ap, ◌∙◌, arith, inl, inr}
use Rattle.std.proofs.lemmas.Bool.{cases_lt}
use Rattle.std.proofs.lemmas.Bool.Decides.{eqb_tells}
use Rattle.std.proofs.lemmas.List.{length-map}
use mathlib.Core.Path.{ap₂}
use Rattle.frac_laws.specs.Fraction.{Fraction, whole, opposite, size, ◌+ℚ◌, ◌-ℚ◌, ◌*ℚ◌, ◌≤ℚ◌}
use Rattle.frac_laws.specs.Sums.{sum_to}
use Rattle.frac_laws.specs.Lists.{Vector, Matrix, number_at, vector_at, matrix_at, scale_list, scale_matrix}
use Rattle.frac_laws.proofs.FractionTerms.{ring, terms}
use Rattle.frac_laws.proofs.Linear.{linear, claims, natural}
use Rattle.frac_laws.proofs.Lengths.{length-scale_list}
use Rattle.frac_laws.proofs.Order.{le_trans}
use Rattle.frac_laws.proofs.Sums.{sum_to_zeros}
use Rattle.frac_laws.proofs.Vectors.{number_at-scale_list}
use Rattle.model_specs.specs.Cells.{CellCurves}
use Rattle.model_specs.specs.Systems.{interest_at, leaving_at, second_payment_at, backward_entry, coupling_entry}
use Rattle.model_specs.specs.Systems.{second_moment_system, norberg_pair, matrix_of, vector_of}
use Rattle.whole_laws.specs.Whole.{list_of}
use Rattle.whole_laws.proofs.ListsByPlace.{past-list_of, at-list_of, length-list_of}
use Rattle.whole_laws.proofs.Members.{at-map}
use Rattle.model_laws.proofs.CellEntries.{systems_have_entries, systems_keep_states}
use Rattle.linear_system.specs.StoredSystem.{StoredSystem, dim_of, row_of, place_of, number_at_place}
use Rattle.linear_system.specs.StoredSystem.{stored_number, stored_free}
use Rattle.linear_system.specs.Setting.{HasPlace}
use Rattle.linear_system.specs.StandsFor.{units, StandsForPair, MatricesStandNear, VectorsStandNear, block_from}
use Rattle.cell_bounds.specs.ScaledSystems.{scaled_pair}
use Rattle.cell_bounds.proofs.TableNorms.{unit_at, where_same-is}
use Rattle.moment_laws.proofs.ScaledRuns.{free-scaled}
use Rattle.cell_coeffs.specs.PairRows.{IsSmallPair, IsStoredSecondRow}
use Rattle.cell_coeffs.specs.StoredRows.{IsStoredRow}
use Rattle.cell_coeffs.proofs.Cut.{cut_zero}
use Rattle.cell_coeffs.proofs.Links.{stored_zero}
use Rattle.cell_coeffs.proofs.StandingCells.{thiele_matrices, thiele_free}

-- lists of a table are as long as there are states, or empty
row_short : (states powers m i : ℕ) (f : ℕ → ℕ → ℕ → Fraction)
    → length (vector_at (matrix_at (list_of powers (λ k. matrix_of states (f k))) m) i) ≤ states
row_short states powers m i f = elim (cases_lt m powers) [
  | inl low ↦ elim (cases_lt i states) [
    | inl b ↦ le_by (vector_at (matrix_at (list_of powers (λ k. matrix_of states (f k))) m) i) (list_of states (f m i))
        (ap (λ (a : Matrix). vector_at a i) (at-list_of powers (λ k. matrix_of states (f k)) m [] low)
        ∙ at-list_of states (λ k. list_of states (f m k)) i [] b)
        (length-list_of states (f m i))
    | inr past ↦ le_none (vector_at (matrix_at (list_of powers (λ k. matrix_of states (f k))) m) i)
        (ap (λ (a : Matrix). vector_at a i) (at-list_of powers (λ k. matrix_of states (f k)) m [] low)
        ∙ past-list_of states (λ k. list_of states (f m k)) i [] past)
  ]
  | inr past ↦ le_none (vector_at (matrix_at (list_of powers (λ k. matrix_of states (f k))) m) i)
      (ap (λ (a : Matrix). vector_at a i) (past-list_of powers (λ k. matrix_of states (f k)) m [] past))
]
  where
    le_by : (u v : Vector) → u ≡ v → length v ≡ states → length u ≤ states
    le_by u v is long = rw is (omega (arith, long))

    le_none : (u : Vector) → u ≡ [] → length u ≤ states
    le_none u is = rw is (omega arith)

three_of_two : (x : Fraction) → x ≤ℚ units (pos 2) → x ≤ℚ units (pos 3)
three_of_two x within = le_trans within (linear [] (natural 0 1) (hlevel claims) refl)

-- a number of a scaled matrix
coupling-scaled : (c : Fraction) (ms : List Matrix) (m i j : ℕ)
    → number_at (vector_at (matrix_at (map (scale_matrix c) ms) m) i) j
    ≡ c *ℚ number_at (vector_at (matrix_at ms m) i) j
coupling-scaled c ms m i j =
    ap (λ (a : Matrix). number_at (vector_at a i) j) (at-map (scale_matrix c) ms m [])
    ∙ ap (λ (v : Vector). number_at v j) (at-map (scale_list c) (matrix_at ms m) i [])
    ∙ number_at-scale_list c (vector_at (matrix_at ms m) i) j

module _ (cell : CellCurves) (h : Fraction) (s : StoredSystem) (small : IsSmallPair cell h)
    (rows : (i : ℕ) → i < cell.states → IsStoredSecondRow cell h i s) where
  abbrev matrices : List Matrix
  matrices = (second_moment_system cell).matrices

  abbrev couplings : List Matrix
  couplings = (norberg_pair cell).coupling

  entry_none : (i c m : ℕ) → 6 ≤ m → backward_entry cell 2 m i c ≡ whole (pos 0)
  entry_none i c m six =
      ap₂ ◌+ℚ◌ (small.first.intensity_none i c m six) (where_same-is i c
      (opposite (whole (pos 2) *ℚ interest_at cell m +ℚ leaving_at cell i m))
      ∙ ap (λ z. unit_at i c *ℚ opposite z) (ap₂ (λ r l. whole (pos 2) *ℚ r +ℚ l) (small.first.interest_none m six)
      (sum_to_zeros cell.states (λ j b. small.first.intensity_none i j m six))))
      ∙ tidy (unit_at i c)
    where
      tidy : (u : Fraction) → whole (pos 0) +ℚ u *ℚ opposite (whole (pos 2) *ℚ whole (pos 0) +ℚ whole (pos 0))
          ≡ whole (pos 0)
      tidy u = ring (u ∷ []) (hlevel terms) refl

  matrix_none : (m : ℕ) → 6 ≤ m → matrix_at matrices m ≡ []
  matrix_none m six = past-list_of 6 (λ k. matrix_of cell.states (backward_entry cell 2 k)) m [] six

  near : (i c m : ℕ) → i < cell.states → c < cell.states
      → size (number_at (vector_at (matrix_at matrices m) i) c
      -ℚ units (stored_number s (cell.states + i) (cell.states + c) m)) ≤ℚ units (pos 1)
  near i c m b d = elim (cases_lt m 6) [
    | inl low ↦ rw ((systems_have_entries cell).second m i c low b d) ((rows i b).numbers c m d).near
    | inr past ↦
        let nothing : number_at (vector_at (matrix_at matrices m) i) c ≡ whole (pos 0) =
        ap (λ (a : Matrix). number_at (vector_at a i) c) (matrix_none m past) in
        (stored_zero (number_at (vector_at (matrix_at matrices m) i) c)
        (stored_number s (cell.states + i) (cell.states + c) m) nothing
        (((rows i b).numbers c m d).none (entry_none i c m past))).near
  ]

  pub second_matrices : MatricesStandNear 1 cell.states (block_from s cell.states cell.states) matrices
  second_matrices = record {
    near = near;
    rows = λ m. (systems_keep_states cell).second.rows m;
    columns = λ m i. row_short cell.states 6 m i (backward_entry cell 2);
    no_more = λ i c m past. ap (λ (a : Matrix). number_at (vector_at a i) c) (matrix_none m (omega (arith, past)));
  }

  coupling_none : (i c m : ℕ) → 9 ≤ m → number_at (vector_at (matrix_at (map (scale_matrix h) couplings) m) i) c
      ≡ whole (pos 0)
  coupling_none i c m late =
      coupling-scaled h couplings m i c
      ∙ ap (λ (a : Matrix). h *ℚ number_at (vector_at a i) c)
      (past-list_of 9 (λ k. matrix_of cell.states (coupling_entry cell k)) m [] late)
      ∙ ring (h ∷ []) (hlevel terms) refl

  coupling_near : (i c m : ℕ) → i < cell.states → c < cell.states
      → size (number_at (vector_at (matrix_at (map (scale_matrix h) couplings) m) i) c
      -ℚ units (stored_number s (cell.states + i) c m)) ≤ℚ units (pos 2)
  coupling_near i c m b d = elim (cases_lt m 9) [
    | inl low ↦ rw (coupling-scaled h couplings m i c, (systems_have_entries cell).coupling m i c low b d)
        ((rows i b).coupling c m d low).near
    | inr past ↦ (cut_zero (number_at (vector_at (matrix_at (map (scale_matrix h) couplings) m) i) c)
        (stored_number s (cell.states + i) c m) (coupling_none i c m past) ((rows i b).coupling_end c m d past)).near
  ]

  scaled_row_short : (m i : ℕ) → length (vector_at (matrix_at (map (scale_matrix h) couplings) m) i) ≤ cell.states
  scaled_row_short m i =
      let is : length (vector_at (matrix_at (map (scale_matrix h) couplings) m) i)
      ≡ length (vector_at (matrix_at couplings m) i) =
      ap (λ (a : Matrix). length (vector_at a i)) (at-map (scale_matrix h) couplings m [])
      ∙ ap length (at-map (scale_list h) (matrix_at couplings m) i [])
      ∙ length-scale_list h (vector_at (matrix_at couplings m) i) in
      omega (arith, is, row_short cell.states 9 m i (coupling_entry cell))

  scaled_rows_short : (m : ℕ) → length (matrix_at (map (scale_matrix h) couplings) m) ≤ cell.states
  scaled_rows_short m =
      let is : length (matrix_at (map (scale_matrix h) couplings) m) ≡ length (matrix_at couplings m) =
      ap length (at-map (scale_matrix h) couplings m []) ∙ length-map (matrix_at couplings m) (scale_list h) in
      omega (arith, is, (systems_keep_states cell).coupling m)

  pub coupling_matrices : MatricesStandNear 3 cell.states (λ i c m. stored_number s (cell.states + i) c m)
      (map (scale_matrix h) couplings)
  coupling_matrices = record {
    near = λ i c m b d. three_of_two _ (coupling_near i c m b d);
    rows = scaled_rows_short;
    columns = scaled_row_short;
    no_more = λ i c m past. coupling_none i c m (omega (arith, past));
  }

  abbrev free : List Vector
  free = (second_moment_system cell).free

  free_gone : (i m : ℕ) → 12 ≤ m → number_at (vector_at (map (scale_list (h *ℚ h)) free) m) i ≡ whole (pos 0)
  free_gone i m past =
      ap (λ (u : Vector). number_at u i) (free-scaled (h *ℚ h) free m
      ∙ ap (scale_list (h *ℚ h)) (past-list_of 12 (λ k. vector_of cell.states
      (λ i. sum_to cell.states (λ j. second_payment_at cell i j k))) m [] past))

  free_near : (i m : ℕ) → i < cell.states
      → size (number_at (vector_at (map (scale_list (h *ℚ h)) free) m) i
      -ℚ units (stored_free s (cell.states + i) m)) ≤ℚ units (pos 2)
  free_near i m b =
      let is : number_at (vector_at (map (scale_list (h *ℚ h)) free) m) i ≡ h *ℚ h *ℚ number_at (vector_at free m) i =
      ap (λ (u : Vector). number_at u i) (free-scaled (h *ℚ h) free m)
      ∙ number_at-scale_list (h *ℚ h) (vector_at free m) i in
      elim (cases_lt m 12) [
        | inl low ↦ rw (is, (systems_have_entries cell).second_free m i low b) ((rows i b).free m low).near
        | inr past ↦ (cut_zero (number_at (vector_at (map (scale_list (h *ℚ h)) free) m) i)
            (stored_free s (cell.states + i) m) (free_gone i m past) ((rows i b).no_more m past)).near
      ]

  pub second_free : VectorsStandNear 3 cell.states (λ i m. stored_free s (cell.states + i) m)
      (map (scale_list (h *ℚ h)) free)
  second_free = record {
    near = λ i m b. three_of_two _ (free_near i m b);
    rows = λ m. rw (free-scaled (h *ℚ h) free m, length-scale_list (h *ℚ h) (vector_at free m))
        ((systems_keep_states cell).second.free m);
    no_more = free_gone;
  }

pub stands_for_norberg : (cell : CellCurves) (h : Fraction) (s : StoredSystem) → IsSmallPair cell h
    → dim_of s ≡ cell.states + cell.states → ((i : ℕ) → i < cell.states → IsStoredRow cell h i s)
    → ((i : ℕ) → i < cell.states → IsStoredSecondRow cell h i s)
    → ((row col m : ℕ) → row < cell.states → cell.states ≤ col → col < dim_of s → stored_number s row col m ≡ pos 0)
    → StandsForPair s cell.states (scaled_pair h (norberg_pair cell))
stands_for_norberg cell h s small dim first second one_way = record {
  halves = dim;
  first_dimension = refl;
  second_dimension = refl;
  first = thiele_matrices cell h s first small.first.interest_none small.first.intensity_none;
  first_free = thiele_free cell h s first small.first.interest_none small.first.intensity_none;
  second = second_matrices cell h s small second;
  second_free = second_free cell h s small second;
  coupling = coupling_matrices cell h s small second;
  one_way = one_way;
}

-- a column that has no place holds nothing
pub no_place_none : (s : StoredSystem) (row col m : ℕ) → row < dim_of s → col < dim_of s → (HasPlace s row col → ⊥)
    → stored_number s row col m ≡ pos 0
no_place_none s row col m row_in col_in not_there =
    none (place_of (row_of s row).columns col) (length (row_of s row).columns)
    (place_most (row_of s row).columns col) (λ less. not_there
    (record { row_in = row_in; col_in = col_in; has_column = less }))
  where
    place_most : (columns : List ℕ) (c : ℕ) → place_of columns c ≤ length columns
    place_most [] c = omega arith
    place_most (x ∷ columns) c = choose (nat_eq x c) (place_most columns c)
      where
        choose : (b : Bool) → place_of columns c ≤ length columns
            → cond b 0 (suc (place_of columns c)) ≤ suc (length columns)
        choose true most = omega arith
        choose false most = omega (arith, most)

    none : (place long : ℕ) → place ≤ long → (place < long → ⊥)
        → cond (nat_eq place long) (pos 0) (number_at_place (row_of s row) place m) ≡ pos 0
    none place long most not_less = elim (eqb_tells place long) [
      | inl same ↦ ap (λ b. cond b (pos 0) (number_at_place (row_of s row) place m)) same.0
      | inr other ↦ absurd (not_less (grind (arith, most, other.1)))
    ]
