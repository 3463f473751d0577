-- Numbers only where there are transitions, and the degrees of the three jobs.
use Rattle.std.specs.Prelude.{◌≡◌, ◌≢◌, ℕ, suc, pos, ◌-◌, ◌<◌, ◌≤◌, None, [], ◌∷◌}
use Rattle.std.proofs.Common.{refl, ap, sym, ◌∙◌, inl, inr, arith}
use mathlib.Core.Path.{ap₂}
use Rattle.std.proofs.lemmas.Bool.{cases_lt}
use Rattle.frac_laws.specs.Fraction.{Fraction, whole, opposite, ◌+ℚ◌, ◌*ℚ◌}
use Rattle.frac_laws.specs.Sums.{sum_to}
use Rattle.frac_laws.specs.Lists.{Matrix}
use Rattle.frac_laws.proofs.FractionTerms.{ring, terms}
use Rattle.frac_laws.proofs.Sums.{sum_to_zeros}
use Rattle.whole_laws.specs.Whole.{list_of}
use Rattle.model_specs.specs.Product.{Product}
use Rattle.model_specs.specs.Payments.{Plan}
use Rattle.model_specs.specs.Cells.{CellCurves, Grid, cell_curves, transition_between}
use Rattle.model_specs.specs.Systems.{matrix_of, vector_of, intensity_at, sojourn_rate_at, sum_paid_at, leaving_at}
use Rattle.model_specs.specs.Systems.{first_payment_at, second_payment_at, backward_entry, coupling_entry, where_same}
use Rattle.model_laws.proofs.CellEntries.{systems_have_entries}
use Rattle.whole_laws.proofs.ListsByPlace.{past-list_of}
use Rattle.cell_bounds.proofs.TableNorms.{unit-other, where_same-is}
use Rattle.product_laws.specs.SparseCells.{entry_at, CellsAreSparse, CellsHaveJobDegrees}

-- a number of the diagonal alone is 0 beside it
beside_diagonal : (i j : ℕ) (x : Fraction) → i ≢ j → where_same i j x ≡ whole (pos 0)
beside_diagonal i j x other =
    where_same-is i j x ∙ ap (λ u. u *ℚ x) (unit-other i j (λ e. other (sym e))) ∙ ring (x ∷ []) (hlevel terms) refl

-- a list of tables has nothing past its powers
past-powers : (powers : ℕ) (f : ℕ → Matrix) (m i j : ℕ) → powers ≤ m
    → entry_at (list_of powers f) m i j ≡ whole (pos 0)
past-powers powers f m i j high = rw (past-list_of powers f m [] high) refl

-- so it is 0 where it is at the powers that it has
everywhere : (powers m i j : ℕ) (f : ℕ → Matrix) → (m < powers → entry_at (list_of powers f) m i j ≡ whole (pos 0))
    → entry_at (list_of powers f) m i j ≡ whole (pos 0)
everywhere powers m i j f inside = elim (cases_lt m powers) [
  | inl low ↦ inside low
  | inr high ↦ past-powers powers f m i j high
]

module _ (grid : Grid) (product : Product) (plan : Plan) (month place : ℕ) where
  abbrev cell : CellCurves
  cell = cell_curves grid product plan month place

  -- no transition, no intensity
  no_intensity : (i j m : ℕ) → transition_between product i j ≡ None → intensity_at cell i j m ≡ whole (pos 0)
  no_intensity i j m none = rw none refl

  no_payment : (i j m : ℕ) → transition_between product i j ≡ None → first_payment_at cell i j m ≡ whole (pos 0)
  no_payment i j m none = sum_to_zeros (suc m) (λ k b.
      ap (λ x. x *ℚ sum_paid_at cell i j (m - k)) (no_intensity i j k none) ∙ nothing (sum_paid_at cell i j (m - k)))
    where
      nothing : (x : Fraction) → whole (pos 0) *ℚ x ≡ whole (pos 0)
      nothing x = ring (x ∷ []) (hlevel terms) refl

  no_link : (times m i j : ℕ) → i ≢ j → transition_between product i j ≡ None
      → backward_entry cell times m i j ≡ whole (pos 0)
  no_link times m i j other none =
      ap₂ ◌+ℚ◌ (no_intensity i j m none) (beside_diagonal i j _ other) ∙ ring [] (hlevel terms) refl

  no_coupling : (m i j : ℕ) → i ≢ j → transition_between product i j ≡ None
      → coupling_entry cell m i j ≡ whole (pos 0)
  no_coupling m i j other none =
      ap₂ ◌+ℚ◌ (ap (λ x. whole (pos 2) *ℚ x) (no_payment i j m none)) (beside_diagonal i j _ other)
      ∙ ring [] (hlevel terms) refl

pub cells_are_sparse : CellsAreSparse
cells_are_sparse grid product plan month place =
    let cell = cell_curves grid product plan month place in
    let entries = systems_have_entries cell in
    record {
      thiele = λ m i j row column other none.
          everywhere 6 m i j (λ k. matrix_of cell.states (backward_entry cell 1 k))
          (λ low. entries.thiele m i j low row column ∙ no_link grid product plan month place 1 m i j other none);
      second = λ m i j row column other none.
          everywhere 6 m i j (λ k. matrix_of cell.states (backward_entry cell 2 k))
          (λ low. entries.second m i j low row column ∙ no_link grid product plan month place 2 m i j other none);
      coupling = λ m i j row column other none.
          everywhere 9 m i j (λ k. matrix_of cell.states (coupling_entry cell k))
          (λ low. entries.coupling m i j low row column ∙ no_coupling grid product plan month place m i j other none);
      kolmogorov = λ m i j row column other none.
          everywhere 6 m j i (λ k. matrix_of cell.states
          (λ j i. intensity_at cell i j k +ℚ where_same j i (opposite (leaving_at cell j k))))
          (λ low. entries.kolmogorov m j i low column row
          ∙ ap₂ ◌+ℚ◌ (no_intensity grid product plan month place i j m none)
          (beside_diagonal j i _ (λ e. other (sym e)))
          ∙ ring [] (hlevel terms) refl);
    }

pub cells_have_job_degrees : CellsHaveJobDegrees
cells_have_job_degrees cell = record {
  probabilities = λ m above. past-list_of 6 (λ k. matrix_of cell.states
      (λ j i. intensity_at cell i j k +ℚ where_same j i (opposite (leaving_at cell j k)))) m [] (omega (arith, above));
  nothing_free = λ m. refl;
  first = λ m above. past-list_of 6 (λ k. matrix_of cell.states (backward_entry cell 1 k)) m [] (omega (arith, above));
  first_free = λ m above. past-list_of 9 (λ k. vector_of cell.states
      (λ i. sojourn_rate_at cell i k +ℚ sum_to cell.states (λ j. first_payment_at cell i j k))) m []
      (omega (arith, above));
  second = λ m above. past-list_of 6 (λ k. matrix_of cell.states (backward_entry cell 2 k)) m [] (omega (arith, above));
  coupling = λ m above. past-list_of 9 (λ k. matrix_of cell.states (coupling_entry cell k)) m [] (omega (arith, above));
  second_free = λ m above. past-list_of 12 (λ k. vector_of cell.states
      (λ i. sum_to cell.states (λ j. second_payment_at cell i j k))) m [] (omega (arith, above));
}
