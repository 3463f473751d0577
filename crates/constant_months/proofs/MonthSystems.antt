-- The system of a constant month: alike in all cells, kept over a stretch, constant in x, and fit for a map.
use Rattle.std.specs.Prelude.{◌≡◌, ℕ, zero, suc, pos, ◌<◌, ◌≤◌, IsTrue, ◌⊎◌, [], ◌∷◌, map}
use Rattle.std.proofs.Common.{refl, ap, sym, ◌∙◌, arith, inl, inr}
use Rattle.std.proofs.Math.ListN.{get_or-map}
use Rattle.std.proofs.lemmas.Bool.{cases_lt}
use Rattle.frac_laws.specs.Fraction.{Fraction, whole, ◌+ℚ◌, ◌*ℚ◌}
use Rattle.frac_laws.specs.Sums.{sum_to}
use Rattle.frac_laws.specs.Lists.{Vector, number_at, vector_at, matrix_at, scale_list}
use Rattle.frac_laws.proofs.FractionTerms.{ring, terms}
use Rattle.frac_laws.proofs.Vectors.{number_at-scale_list}
use Rattle.whole_laws.specs.Whole.{list_of}
use Rattle.whole_laws.proofs.ListsByPlace.{at-list_of, past-list_of}
use Rattle.whole_laws.proofs.Tests.{both_pass}
use Rattle.model_specs.specs.Product.{Product}
use Rattle.model_specs.specs.Payments.{Plan, payment_plan, pattern_plan}
use Rattle.model_specs.specs.Cells.{CellCurves, Backward, cells_of_32}
use Rattle.model_specs.specs.Growth.{kappa40}
use Rattle.model_specs.specs.Stretches.{is_constant_month, keeps_values}
use Rattle.model_specs.specs.Systems.{sojourn_rate_at, first_payment_at, backward_entry}
use Rattle.model_specs.specs.Systems.{matrix_of, vector_of, thiele_system}
use Rattle.model_specs.specs.ValuationRules.{IsAdmissible}
use Rattle.model_laws.proofs.PlanSteps.{HasFourEach, payment_plan_four, pattern_plan_four}
use Rattle.ledger_laws.proofs.GrowthFacts.{kappa_most}
use Rattle.ledger_laws.proofs.MonthFacts.{admissible_obeys}
use Rattle.linear_system.specs.StandsFor.{StandsFor}
use Rattle.linear_system.specs.StoredSystem.{StoredSystem}
use Rattle.taylor_step.specs.ConstantSteps.{IsConstantInX}
use Rattle.cell_bounds.specs.ScaledSystems.{scaled_system}
use Rattle.product_cells.specs.EachCell.{backward_cell, plan_scaling}
use Rattle.product_laws.proofs.ProductTame.{thiele_cell_tame}
use Rattle.map_laws.specs.MonthOfCells.{IsConstantCell}
use Rattle.cell_coeffs.proofs.FlatCells.{IsFlatCell, flat_cell, entry_flat, free_flat}
use Rattle.constant_months.specs.MonthSystems.{month_system, CellsAreAlike, StretchesKeepTheirSystem}
use Rattle.constant_months.specs.MonthSystems.{MonthSystemsAreConstant, ConstantMonthsAreConstantCells}
use Rattle.constant_months.proofs.FirstNumbers.{same_month, cells_same, first_kept}
use Rattle.constant_months.proofs.SameCells.{thiele_same}

pub cells_are_alike : CellsAreAlike
cells_are_alike product plan month cell constant =
    thiele_same (cells_of_32 Backward) product plan month cell month 0
    (cells_same (cells_of_32 Backward) product plan month cell month 0 constant constant
    (same_month product plan month))

pub stretches_keep_their_system : StretchesKeepTheirSystem
stretches_keep_their_system product plan month constant goes_on =
    let parts = both_pass (is_constant_month product plan month) (keeps_values product plan month (suc month))
    goes_on in
    ap (scaled_system (plan_scaling product plan))
    (sym (thiele_same (cells_of_32 Backward) product plan month 0 (suc month) 0
    (cells_same (cells_of_32 Backward) product plan month 0 (suc month) 0 parts.0 constant
    (first_kept product plan month (suc month) parts.1))))

-- ---- constant in x

-- a table that is 0 at a power has no number there
table_none : (states powers : ℕ) (f : ℕ → ℕ → ℕ → Fraction) (m : ℕ) → ((i j : ℕ) → f m i j ≡ whole (pos 0))
    → (i j : ℕ) → number_at (vector_at (matrix_at (list_of powers (λ k. matrix_of states (f k))) m) i) j ≡ whole (pos 0)
table_none states powers f m none i j = elim (cases_lt m powers) [
  | inl low ↦ rw (at-list_of powers (λ k. matrix_of states (f k)) m [] low) (row_none (cases_lt i states))
  | inr high ↦ rw (past-list_of powers (λ k. matrix_of states (f k)) m [] high) refl
]
  where
    number_none : (j < states) ⊎ (states ≤ j) → number_at (list_of states (f m i)) j ≡ whole (pos 0)
    number_none (inl col) = at-list_of states (f m i) j (whole (pos 0)) col ∙ none i j
    number_none (inr past) = past-list_of states (f m i) j (whole (pos 0)) past

    row_none : (i < states) ⊎ (states ≤ i) → number_at (vector_at (matrix_of states (f m)) i) j ≡ whole (pos 0)
    row_none (inl row) = rw (at-list_of states (λ k. list_of states (f m k)) i [] row) (number_none (cases_lt j states))
    row_none (inr past) = rw (past-list_of states (λ k. list_of states (f m k)) i [] past) refl

vector_none : (h : Fraction) (states powers : ℕ) (f : ℕ → ℕ → Fraction) (m : ℕ)
    → ((i : ℕ) → i < states → h *ℚ f m i ≡ whole (pos 0)) → (i : ℕ)
    → number_at (vector_at (map (scale_list h) (list_of powers (λ k. vector_of states (f k)))) m) i ≡ whole (pos 0)
vector_none h states powers f m none i =
    ap (λ (v : Vector). number_at v i) (get_or-map (scale_list h) (list_of powers (λ k. vector_of states (f k))) m [])
    ∙ number_at-scale_list h (vector_at (list_of powers (λ k. vector_of states (f k))) m) i
    ∙ number_none (cases_lt m powers)
  where
    nothing : h *ℚ whole (pos 0) ≡ whole (pos 0)
    nothing = ring (h ∷ []) (hlevel terms) refl

    at_row : (i < states) ⊎ (states ≤ i) → h *ℚ number_at (vector_of states (f m)) i ≡ whole (pos 0)
    at_row (inl row) = rw (at-list_of states (f m) i (whole (pos 0)) row) (none i row)
    at_row (inr past) = rw (past-list_of states (f m) i (whole (pos 0)) past) nothing

    number_none : (m < powers) ⊎ (powers ≤ m)
        → h *ℚ number_at (vector_at (list_of powers (λ k. vector_of states (f k))) m) i ≡ whole (pos 0)
    number_none (inl low) = rw (at-list_of powers (λ k. vector_of states (f k)) m [] low) (at_row (cases_lt i states))
    number_none (inr high) = rw (past-list_of powers (λ k. vector_of states (f k)) m [] high) nothing

flat_is_constant : (h : Fraction) (cell : CellCurves) → IsFlatCell cell
    → IsConstantInX (scaled_system h (thiele_system cell))
flat_is_constant h cell flat = record { matrices = at_power; free = free_at_power }
  where
    at_power : (row col m : ℕ) → 1 ≤ m → number_at (vector_at (matrix_at (thiele_system cell).matrices m) row) col
        ≡ whole (pos 0)
    at_power row col zero some = absurd (omega arith)
    at_power row col (suc m) some = table_none cell.states 6 (backward_entry cell 1) (suc m)
        (λ i j. entry_flat cell flat 1 i j m) row col

    free_at_power : (row m : ℕ) → 1 ≤ m
        → number_at (vector_at (scaled_system h (thiele_system cell)).free m) row ≡ whole (pos 0)
    free_at_power row zero some = absurd (omega arith)
    free_at_power row (suc m) some = vector_none h cell.states 9
        (λ k i. sojourn_rate_at cell i k +ℚ sum_to cell.states (λ j. first_payment_at cell i j k)) (suc m)
        (λ i inside. free_flat cell flat h i m inside) row

pub month_systems_are_constant : MonthSystemsAreConstant
month_systems_are_constant product plan month constant =
    flat_is_constant (plan_scaling product plan) (backward_cell product plan month 0)
    (flat_cell product plan month constant (cells_of_32 Backward) 0)

-- ---- fit for a map

pub constant_cell : (product : Product) (plan : Plan) (month : ℕ) → IsAdmissible product → month < product.months
    → HasFourEach plan → IsTrue (is_constant_month product plan month) → (s : StoredSystem)
    → StandsFor s (month_system product plan month)
    → IsConstantCell s (kappa40 product month) (month_system product plan month)
constant_cell product plan month admissible inside four constant s stands = record {
  few = admissible.well_formed.names.at_most_twelve;
  stands = stands;
  tame = thiele_cell_tame product plan month 0 admissible.well_formed
      (admissible_obeys product admissible month inside) inside (omega arith) four;
  constant = month_systems_are_constant product plan month constant;
  growth = omega (
    arith,
    kappa_most product admissible.well_formed (admissible_obeys product admissible) month inside,
  );
}

pub constant_months_are_constant_cells : ConstantMonthsAreConstantCells
constant_months_are_constant_cells product month admissible inside = (
  constant_cell product (payment_plan product) month admissible inside
      (payment_plan_four product admissible.well_formed),
  constant_cell product (pattern_plan product) month admissible inside (pattern_plan_four product),
)
