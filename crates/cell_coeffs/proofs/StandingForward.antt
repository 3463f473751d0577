-- Stored columns make a system that stands for Kolmogorov's, and one that is constant where the cell is.
use Rattle.std.specs.Prelude.{◌≡◌, ℕ, suc, pos, ◌<◌, ◌≤◌, [], length}
use Rattle.std.proofs.Common.{refl, ap, sym, ◌∙◌, arith, inl, inr}
use Rattle.std.proofs.lemmas.Bool.{cases_lt}
use mathlib.Core.Path.{ap₂}
use Rattle.std.specs.Prelude.{◌∷◌}
use Rattle.frac_laws.specs.Fraction.{Fraction, whole, opposite, size, ◌+ℚ◌, ◌-ℚ◌, ◌*ℚ◌, ◌≤ℚ◌}
use Rattle.frac_laws.specs.Lists.{Vector, Matrix, number_at, vector_at, matrix_at}
use Rattle.frac_laws.proofs.FractionTerms.{ring, terms}
use Rattle.frac_laws.proofs.Linear.{linear, claims, natural}
use Rattle.frac_laws.proofs.Order.{le_trans}
use Rattle.frac_laws.proofs.Sums.{sum_to_zeros}
use Rattle.whole_laws.specs.Whole.{list_of}
use Rattle.model_specs.specs.Cells.{CellCurves}
use Rattle.model_specs.specs.Systems.{intensity_at, leaving_at, kolmogorov_system, matrix_of}
use Rattle.whole_laws.proofs.ListsByPlace.{at-list_of, past-list_of, length-list_of}
use Rattle.model_laws.proofs.CellEntries.{systems_have_entries, systems_keep_states}
use Rattle.linear_system.specs.StoredSystem.{StoredSystem, dim_of, stored_number, stored_free}
use Rattle.linear_system.specs.StandsFor.{units, StandsFor}
use Rattle.linear_system.specs.DegreeLimit.{IsConstant}
use Rattle.cell_bounds.proofs.TableNorms.{where_same-is, unit_at}
use Rattle.product_laws.proofs.SparseCells.{cells_have_job_degrees}
use Rattle.cell_coeffs.specs.ForwardColumns.{IsStoredColumn, forward_entry}
use Rattle.cell_coeffs.proofs.ConstantSystems.{constant_system}
use Rattle.cell_coeffs.proofs.FlatCells.{IsFlatCell}
use Rattle.cell_coeffs.proofs.Links.{stored_zero}

module _ (cell : CellCurves) (s : StoredSystem) (dim : dim_of s ≡ cell.states)
    (columns : (i : ℕ) → i < cell.states → IsStoredColumn cell i s)
    (free : (j m : ℕ) → stored_free s j m ≡ pos 0) where
  no_entry : (i j m : ℕ) → ((i j : ℕ) → intensity_at cell i j m ≡ whole (pos 0))
      → forward_entry cell m j i ≡ whole (pos 0)
  no_entry i j m none =
      ap₂ ◌+ℚ◌ (none i j) (where_same-is j i (opposite (leaving_at cell j m))
      ∙ ap (λ l. unit_at j i *ℚ opposite l)
      (sum_to_zeros cell.states {f = λ k. intensity_at cell j k m} (λ k b. none j k)))
      ∙ tidy (unit_at j i)
    where
      tidy : (u : Fraction) → whole (pos 0) +ℚ u *ℚ opposite (whole (pos 0)) ≡ whole (pos 0)
      tidy u = ring (u ∷ []) (hlevel terms) refl

  module _ (intensity_none : (i j m : ℕ) → 6 ≤ m → intensity_at cell i j m ≡ whole (pos 0)) where
    abbrev exact : ℕ → Matrix
    exact m = matrix_at (kolmogorov_system cell).matrices m

    matrix_none : (m : ℕ) → 6 ≤ m → exact m ≡ []
    matrix_none m six = (cells_have_job_degrees cell).probabilities m (omega (arith, six))

    near : (j i m : ℕ) → j < cell.states → i < cell.states
        → size (number_at (vector_at (exact m) j) i -ℚ units (stored_number s j i m)) ≤ℚ units (pos 1)
    near j i m b d = elim (cases_lt m 6) [
      | inl low ↦ rw ((systems_have_entries cell).kolmogorov m j i low b d) (columns i d j m b).near
      | inr past ↦
          let nothing : number_at (vector_at (exact m) j) i ≡ whole (pos 0) =
          ap (λ (a : Matrix). number_at (vector_at a j) i) (matrix_none m past) in
          (stored_zero (number_at (vector_at (exact m) j) i) (stored_number s j i m) nothing
          ((columns i d j m b).none (no_entry i j m (λ i j. intensity_none i j m past)))).near
    ]

    widths : (m j : ℕ) → length (vector_at (exact m) j) ≤ cell.states
    widths m j = elim (cases_lt m 6) [
      | inl low ↦
          let is : vector_at (exact m) j ≡ vector_at (matrix_of cell.states (forward_entry cell m)) j =
          ap (λ (a : Matrix). vector_at a j)
          (at-list_of 6 (λ k. matrix_of cell.states (forward_entry cell k)) m [] low) in
          elim (cases_lt j cell.states) [
            | inl b ↦ le_by (vector_at (exact m) j) (list_of cell.states (forward_entry cell m j))
                (is ∙ at-list_of cell.states (λ k. list_of cell.states (forward_entry cell m k)) j [] b)
                (length-list_of cell.states (forward_entry cell m j))
            | inr past ↦ le_none (vector_at (exact m) j)
                (is ∙ past-list_of cell.states (λ k. list_of cell.states (forward_entry cell m k)) j [] past)
          ]
      | inr past ↦ le_none (vector_at (exact m) j) (ap (λ (a : Matrix). vector_at a j) (matrix_none m past))
    ]
      where
        le_by : (u v : Vector) → u ≡ v → length v ≡ cell.states → length u ≤ cell.states
        le_by u v is long = rw is (omega (arith, long))

        le_none : (u : Vector) → u ≡ [] → length u ≤ cell.states
        le_none u is = rw is (omega arith)

    three : (x : Fraction) → x ≤ℚ units (pos 1) → x ≤ℚ units (pos 3)
    three x within = le_trans within (linear [] (natural 0 1) (hlevel claims) refl)

    pub stands_for_kolmogorov : StandsFor s (kolmogorov_system cell)
    stands_for_kolmogorov = record {
      dimension = sym dim;
      matrices = record {
        near = λ j i m b d. near j i m (rw dim at b) (rw dim at d);
        rows = λ m. rw dim ((systems_keep_states cell).kolmogorov.rows m);
        columns = λ m j. rw dim (widths m j);
        no_more = λ j i m past.
            ap (λ (a : Matrix). number_at (vector_at a j) i) (matrix_none m (omega (arith, past)));
      };
      free = record {
        near = λ j m b. three _ (stored_zero (whole (pos 0)) (stored_free s j m) refl (free j m)).near;
        rows = λ m. omega arith;
        no_more = λ j m past. refl;
      };
    }

  -- nothing but 0 is stored above power 0
  pub forward_constant : IsFlatCell cell → IsConstant s
  forward_constant flat = constant_system s (λ row col m b c. elim (cases_lt col cell.states) [
    | inl inside ↦ (columns col inside row (suc m) (rw dim at b)).none
        (no_entry col row (suc m) (λ i j. flat.intensity i j m))
    | inr past ↦
        let last : dim_of s ≡ col = omega (arith, dim, past, c) in
        rw last at (free row (suc m))
  ])
