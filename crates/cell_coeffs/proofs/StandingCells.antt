-- Stored rows make a system that stands for Thiele's.
use Rattle.std.specs.Prelude.{◌≡◌, ℕ, pos, ◌<◌, ◌≤◌, List, [], ◌∷◌, length, map}
use Rattle.std.proofs.Common.{refl, ap, sym, ◌∙◌, arith, inl, inr}
use Rattle.std.proofs.lemmas.Bool.{cases_lt}
use mathlib.Core.Path.{ap₂}
use Rattle.frac_laws.specs.Fraction.{Fraction, whole, opposite, size, ◌+ℚ◌, ◌-ℚ◌, ◌*ℚ◌, ◌≤ℚ◌}
use Rattle.frac_laws.specs.Sums.{sum_to}
use Rattle.frac_laws.specs.Lists.{Vector, Matrix, number_at, vector_at, matrix_at, scale_list}
use Rattle.frac_laws.proofs.FractionTerms.{ring, terms}
use Rattle.frac_laws.proofs.Linear.{linear, claims, natural}
use Rattle.frac_laws.proofs.Lengths.{length-scale_list}
use Rattle.frac_laws.proofs.Order.{le_trans}
use Rattle.frac_laws.proofs.Sums.{sum_to_zeros}
use Rattle.frac_laws.proofs.Vectors.{number_at-scale_list}
use Rattle.model_specs.specs.Cells.{CellCurves}
use Rattle.model_specs.specs.Systems.{interest_at, intensity_at, sojourn_rate_at, leaving_at, first_payment_at}
use Rattle.model_specs.specs.Systems.{backward_entry, thiele_system, matrix_of, vector_of}
use Rattle.whole_laws.specs.Whole.{list_of}
use Rattle.whole_laws.proofs.ListsByPlace.{past-list_of, at-list_of, length-list_of}
use Rattle.model_laws.proofs.CellEntries.{systems_have_entries, systems_keep_states}
use Rattle.linear_system.specs.StoredSystem.{StoredSystem, dim_of, stored_number, stored_free}
use Rattle.linear_system.specs.StandsFor.{units, StandsFor, MatricesStandNear, VectorsStandNear}
use Rattle.cell_bounds.specs.ScaledSystems.{scaled_system}
use Rattle.moment_laws.proofs.ScaledRuns.{free-scaled}
use Rattle.cell_bounds.proofs.TableNorms.{unit_at, where_same-is}
use Rattle.cell_coeffs.specs.StoredRows.{IsStoredRow}
use Rattle.cell_coeffs.proofs.Links.{stored_zero}

module _ (cell : CellCurves) (h : Fraction) (s : StoredSystem)
    (rows : (i : ℕ) → i < cell.states → IsStoredRow cell h i s)
    (interest_none : (m : ℕ) → 6 ≤ m → interest_at cell m ≡ whole (pos 0))
    (intensity_none : (i j m : ℕ) → 6 ≤ m → intensity_at cell i j m ≡ whole (pos 0)) where
  abbrev exact : List Matrix
  exact = (thiele_system cell).matrices

  entry_none : (i c m : ℕ) → 6 ≤ m → backward_entry cell 1 m i c ≡ whole (pos 0)
  entry_none i c m six =
      ap₂ ◌+ℚ◌ (intensity_none i c m six) (where_same-is i c
      (opposite (whole (pos 1) *ℚ interest_at cell m +ℚ leaving_at cell i m))
      ∙ ap (λ z. unit_at i c *ℚ opposite z) (ap₂ (λ r l. whole (pos 1) *ℚ r +ℚ l) (interest_none m six)
      (sum_to_zeros cell.states {f = λ j. intensity_at cell i j m} (λ j b. intensity_none i j m six))))
      ∙ tidy (unit_at i c)
    where
      tidy : (u : Fraction) → whole (pos 0) +ℚ u *ℚ opposite (whole (pos 1) *ℚ whole (pos 0) +ℚ whole (pos 0))
          ≡ whole (pos 0)
      tidy u = ring (u ∷ []) (hlevel terms) refl

  matrix_none : (m : ℕ) → 6 ≤ m → matrix_at exact m ≡ []
  matrix_none m six = past-list_of 6 (λ k. matrix_of cell.states (backward_entry cell 1 k)) m [] six

  near : (i c m : ℕ) → i < cell.states → c < cell.states
      → size (number_at (vector_at (matrix_at exact m) i) c -ℚ units (stored_number s i c m)) ≤ℚ units (pos 1)
  near i c m b d = elim (cases_lt m 6) [
    | inl low ↦ rw ((systems_have_entries cell).thiele m i c low b d) ((rows i b).numbers c m d).near
    | inr past ↦
        let nothing : number_at (vector_at (matrix_at exact m) i) c ≡ whole (pos 0) =
        ap (λ (a : Matrix). number_at (vector_at a i) c) (matrix_none m past) in
        (stored_zero (number_at (vector_at (matrix_at exact m) i) c) (stored_number s i c m) nothing
        (((rows i b).numbers c m d).none (entry_none i c m past))).near
  ]

  columns : (m i : ℕ) → length (vector_at (matrix_at exact m) i) ≤ cell.states
  columns m i = elim (cases_lt m 6) [
    | inl low ↦ elim (cases_lt i cell.states) [
      | inl b ↦ le_by (vector_at (matrix_at exact m) i) (list_of cell.states (backward_entry cell 1 m i))
          (ap (λ (a : Matrix). vector_at a i) (at-list_of 6 (λ k. matrix_of cell.states (backward_entry cell 1 k)) m
          [] low)
          ∙ at-list_of cell.states (λ k. list_of cell.states (backward_entry cell 1 m k)) i [] b)
          (length-list_of cell.states (backward_entry cell 1 m i))
      | inr past ↦ le_none (vector_at (matrix_at exact m) i)
          (ap (λ (a : Matrix). vector_at a i) (at-list_of 6 (λ k. matrix_of cell.states (backward_entry cell 1 k)) m
          [] low)
          ∙ past-list_of cell.states (λ k. list_of cell.states (backward_entry cell 1 m k)) i [] past)
    ]
    | inr past ↦ le_none (vector_at (matrix_at exact m) i) (ap (λ (a : Matrix). vector_at a i) (matrix_none m past))
  ]
    where
      le_by : (u v : Vector) → u ≡ v → length v ≡ cell.states → length u ≤ cell.states
      le_by u v is long = rw is (omega (arith, long))

      le_none : (u : Vector) → u ≡ [] → length u ≤ cell.states
      le_none u is = rw is (omega arith)

  free_near : (i m : ℕ) → i < cell.states
      → size (number_at (vector_at (map (scale_list h) (thiele_system cell).free) m) i -ℚ units (stored_free s i m))
      ≤ℚ units (pos 1)
  free_near i m b =
      let is : number_at (vector_at (map (scale_list h) (thiele_system cell).free) m) i ≡ h
      *ℚ number_at (vector_at (thiele_system cell).free m) i =
      ap (λ (u : Vector). number_at u i) (free-scaled h (thiele_system cell).free m)
      ∙ number_at-scale_list h (vector_at (thiele_system cell).free m) i in
      elim (cases_lt m 9) [
        | inl low ↦ rw (is, (systems_have_entries cell).thiele_free m i low b) ((rows i b).free m low).near
        | inr past ↦ (stored_zero (number_at (vector_at (map (scale_list h) (thiele_system cell).free) m) i)
            (stored_free s i m)
            (is ∙ ap (λ (v : Vector). h *ℚ number_at v i) (none m past) ∙ ring (h ∷ []) (hlevel terms) refl)
            ((rows i b).no_more m past)).near
      ]
    where
      none : (m : ℕ) → 9 ≤ m → vector_at (thiele_system cell).free m ≡ []
      none m past = past-list_of 9 (λ k. vector_of cell.states
          (λ i. sojourn_rate_at cell i k +ℚ sum_to cell.states (λ j. first_payment_at cell i j k))) m [] past

  free_gone : (i m : ℕ) → 12 ≤ m → number_at (vector_at (map (scale_list h) (thiele_system cell).free) m) i
      ≡ whole (pos 0)
  free_gone i m past =
      ap (λ (u : Vector). number_at u i) (free-scaled h (thiele_system cell).free m
      ∙ ap (scale_list h) (past-list_of 9 (λ k. vector_of cell.states
      (λ i. sojourn_rate_at cell i k +ℚ sum_to cell.states (λ j. first_payment_at cell i j k))) m []
      (omega (arith, past))))

  three : (x : Fraction) → x ≤ℚ units (pos 1) → x ≤ℚ units (pos 3)
  three x within = le_trans within (linear [] (natural 0 1) (hlevel claims) refl)

  pub thiele_matrices : MatricesStandNear 1 cell.states (stored_number s) exact
  thiele_matrices = record {
    near = near;
    rows = λ m. (systems_keep_states cell).thiele.rows m;
    columns = columns;
    no_more = λ i c m past. ap (λ (a : Matrix). number_at (vector_at a i) c) (matrix_none m (omega (arith, past)));
  }

  pub thiele_free : VectorsStandNear 3 cell.states (stored_free s) (map (scale_list h) (thiele_system cell).free)
  thiele_free = record {
    near = λ i m b. three _ (free_near i m b);
    rows = λ m. rw (
      free-scaled h (thiele_system cell).free m,
      length-scale_list h (vector_at (thiele_system cell).free m),
    )
        ((systems_keep_states cell).thiele.free m);
    no_more = free_gone;
  }

  pub stands_for_thiele : dim_of s ≡ cell.states → StandsFor s (scaled_system h (thiele_system cell))
  stands_for_thiele dim =
      record { dimension = sym dim; matrices = rw dim thiele_matrices; free = rw dim thiele_free }
