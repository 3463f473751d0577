-- In a month in which nothing varies, nothing but 0 is stored of both moments above power 0.
use Rattle.std.specs.Prelude.{◌≡◌, ℕ, suc, pos, ◌+◌, ◌-◌, ◌<◌, ◌≤◌, [], ◌∷◌}
use Rattle.std.proofs.Common.{refl, subst, ap, ◌∙◌, arith, inl, inr}
use mathlib.Core.Path.{ap₂}
use Rattle.std.proofs.lemmas.Bool.{cases_lt}
use Rattle.frac_laws.specs.Fraction.{Fraction, whole, ◌+ℚ◌, ◌*ℚ◌}
use Rattle.frac_laws.specs.Sums.{sum_to}
use Rattle.frac_laws.proofs.FractionTerms.{ring, terms}
use Rattle.frac_laws.proofs.Sums.{sum_to_zeros}
use Rattle.model_specs.specs.Cells.{CellCurves}
use Rattle.model_specs.specs.Systems.{sojourn_rate_at, sum_paid_at, first_payment_at, second_payment_at}
use Rattle.model_specs.specs.Systems.{coupling_entry}
use Rattle.cell_bounds.proofs.TableNorms.{where_same-is, unit_at}
use Rattle.linear_system.specs.StoredSystem.{StoredSystem, dim_of, stored_number, stored_free}
use Rattle.linear_system.specs.DegreeLimit.{IsConstant}
use Rattle.cell_coeffs.specs.PairRows.{IsStoredSecondRow}
use Rattle.cell_coeffs.specs.StoredRows.{IsStoredRow}
use Rattle.cell_coeffs.proofs.ConstantSystems.{constant_system}
use Rattle.cell_coeffs.proofs.FlatCells.{IsFlatCell, flat_product, entry_flat, paid_flat, column_none, free_none}

module _ (cell : CellCurves) (flat : IsFlatCell cell) where
  coupling_flat : (h : Fraction) (i j m : ℕ) → i < cell.states → h *ℚ coupling_entry cell (suc m) i j ≡ whole (pos 0)
  coupling_flat h i j m b =
      ap₂ (λ p r. h *ℚ (whole (pos 2) *ℚ p +ℚ r)) (paid_flat cell flat i j m)
      (where_same-is i j (whole (pos 2) *ℚ sojourn_rate_at cell i (suc m))
      ∙ ap (λ r. unit_at i j *ℚ (whole (pos 2) *ℚ r)) (flat.sojourn i m b))
      ∙ ring (h ∷ unit_at i j ∷ []) (hlevel terms) refl

  squares_flat : (i j m : ℕ) → second_payment_at cell i j (suc m) ≡ whole (pos 0)
  squares_flat i j m =
      flat_product (first_payment_at cell i j) (sum_paid_at cell i j) (paid_flat cell flat i j) (flat.sums i j) m

  free_flat : (h : Fraction) (i m : ℕ)
      → h *ℚ h *ℚ sum_to cell.states (λ j. second_payment_at cell i j (suc m)) ≡ whole (pos 0)
  free_flat h i m =
      ap (λ x. h *ℚ h *ℚ x) (sum_to_zeros cell.states (λ j c. squares_flat i j m))
      ∙ ring (h ∷ []) (hlevel terms) refl

  module _ (h : Fraction) (s : StoredSystem) (dim : dim_of s ≡ cell.states + cell.states)
      (first : (i : ℕ) → i < cell.states → IsStoredRow cell h i s)
      (second : (i : ℕ) → i < cell.states → IsStoredSecondRow cell h i s)
      (apart : (row col m : ℕ) → row < cell.states → cell.states ≤ col → col < dim_of s
      → stored_number s row col m ≡ pos 0) where
    first_none : (row col m : ℕ) → row < cell.states → col < suc (dim_of s) → stored_number s row col (suc m) ≡ pos 0
    first_none row col m b c = elim (cases_lt col cell.states) [
      | inl inside ↦ column_none cell flat h s first row col m b inside
      | inr past ↦ elim (cases_lt col (dim_of s)) [
        | inl behind ↦ apart row col (suc m) b past behind
        | inr beyond ↦
            let last : dim_of s ≡ col = omega (arith, beyond, c) in
            subst (λ k. stored_number s row k (suc m) ≡ pos 0) last (free_none cell flat h s first row m b)
      ]
    ]

    second_free : (i m : ℕ) → i < cell.states → stored_free s (cell.states + i) (suc m) ≡ pos 0
    second_free i m b = elim (cases_lt (suc m) 12) [
      | inl few ↦ ((second i b).free (suc m) few).none (free_flat h i m)
      | inr beyond ↦ (second i b).no_more (suc m) beyond
    ]

    coupling_none : (i col m : ℕ) → i < cell.states → col < cell.states
        → stored_number s (cell.states + i) col (suc m) ≡ pos 0
    coupling_none i col m b c = elim (cases_lt (suc m) 9) [
      | inl few ↦ ((second i b).coupling col (suc m) c few).none (coupling_flat h i col m b)
      | inr beyond ↦ (second i b).coupling_end col (suc m) c beyond
    ]

    second_none : (i col m : ℕ) → i < cell.states → col < suc (dim_of s)
        → stored_number s (cell.states + i) col (suc m) ≡ pos 0
    second_none i col m b c = elim (cases_lt col cell.states) [
      | inl inside ↦ coupling_none i col m b inside
      | inr past ↦ elim (cases_lt col (dim_of s)) [
        | inl behind ↦
            let is : cell.states + (col - cell.states) ≡ col = omega (arith, past) in
            subst (λ k. stored_number s (cell.states + i) k (suc m) ≡ pos 0) is
            (((second i b).numbers (col - cell.states) (suc m) (omega (arith, dim, past, behind))).none
            (entry_flat cell flat 2 i (col - cell.states) m))
        | inr beyond ↦
            let last : dim_of s ≡ col = omega (arith, beyond, c) in
            subst (λ k. stored_number s (cell.states + i) k (suc m) ≡ pos 0) last (second_free i m b)
      ]
    ]

    number_none : (row col m : ℕ) → row < dim_of s → col < suc (dim_of s) → stored_number s row col (suc m) ≡ pos 0
    number_none row col m b c = elim (cases_lt row cell.states) [
      | inl inside ↦ first_none row col m inside c
      | inr past ↦
          let is : cell.states + (row - cell.states) ≡ row = omega (arith, past) in
          subst (λ k. stored_number s k col (suc m) ≡ pos 0) is
          (second_none (row - cell.states) col m (omega (arith, dim, past, b)) c)
    ]

    pub pair_constant : IsConstant s
    pair_constant = constant_system s number_none
