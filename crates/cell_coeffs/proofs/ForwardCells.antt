-- The intensities of an admissible product's forward cells can be stored.
use Rattle.std.specs.Prelude.{◌≡◌, ℕ, pos, ◌<◌, ◌≤◌, [], ◌∷◌}
use Rattle.std.proofs.Common.{refl, ap, sym, ◌∙◌, inl, inr}
use Rattle.std.proofs.lemmas.Bool.{cases_lt}
use Rattle.std.proofs.lemmas.Bool.Decides.{eqb_tells}
use mathlib.Core.Path.{ap₂}
use Rattle.std.specs.Prelude.{None, unwrap_or, option_map, Option, Some, ℤ, List, slice_index_or}
use Rattle.frac_laws.specs.Fraction.{Fraction, over, size, whole, opposite, ◌+ℚ◌, ◌*ℚ◌, ◌≤ℚ◌}
use Rattle.frac_laws.specs.Lists.{number_at, matrix_at}
use Rattle.frac_laws.specs.Norms.{Sum}
use Rattle.frac_laws.proofs.FractionTerms.{ring, terms}
use Rattle.frac_laws.proofs.Linear.{linear, claims, natural}
use Rattle.frac_laws.proofs.Norms.{matrix_norm_natural, number_below_matrix_norm, size_zero}
use Rattle.frac_laws.proofs.Order.{le_trans, le_of_equal}
use Rattle.frac_laws.proofs.Sizes.{size-opposite}
use Rattle.frac_laws.proofs.Sums.{sum_to_zeros, term_le_sum_to}
use Rattle.frac_laws.proofs.Lengths.{number_at-past}
use Rattle.cell_laws.specs.Tame.{IsTame, matrix_norm_at}
use Rattle.model_specs.specs.Curve.{Piece}
use Rattle.model_specs.specs.Product.{Product, transition_at}
use Rattle.model_specs.specs.Cells.{CellCurves, Forward, cells_of_32, curve_cell, transition_between}
use Rattle.model_specs.specs.Growth.{kappa40}
use Rattle.model_specs.specs.Systems.{intensity_at, leaving_at, kolmogorov_system}
use Rattle.model_specs.specs.ValuationRules.{IsAdmissible}
use Rattle.model_laws.proofs.CellEntries.{systems_have_entries}
use Rattle.model_laws.proofs.CellShapes.{cells_are_quintic}
use Rattle.cell_bounds.proofs.TableNorms.{where_same-is, unit-same, unit-other}
use Rattle.product_cells.specs.EachCell.{forward_cell}
use Rattle.product_laws.proofs.ProductTame.{kolmogorov_cells_are_tame}
use Rattle.cell_coeffs.specs.Near.{IsNear}
use Rattle.cell_coeffs.specs.ForwardColumns.{HasSmallFlows, forward_entry}
use Rattle.cell_coeffs.proofs.RowSteps.{no_loop}

-- the two kinds of numbers of a column
pub leaving-is : (cell : CellCurves) (i m : ℕ) → intensity_at cell i i m ≡ whole (pos 0)
    → forward_entry cell m i i ≡ opposite (leaving_at cell i m)
leaving-is cell i m loop =
    ap₂ ◌+ℚ◌ loop (where_same-is i i (opposite (leaving_at cell i m))
    ∙ ap (λ u. u *ℚ opposite (leaving_at cell i m)) (unit-same i))
    ∙ tidy (leaving_at cell i m)
  where
    tidy : (l : Fraction) → whole (pos 0) +ℚ whole (pos 1) *ℚ opposite l ≡ opposite l
    tidy l = ring (l ∷ []) (hlevel terms) refl

pub flow-is : (cell : CellCurves) (i j m : ℕ) → (j ≡ i → ⊥) → forward_entry cell m j i ≡ intensity_at cell i j m
flow-is cell i j m differ =
    ap (λ z. intensity_at cell i j m +ℚ z) (where_same-is j i (opposite (leaving_at cell j m))
    ∙ ap (λ u. u *ℚ opposite (leaving_at cell j m)) (unit-other j i (λ e. differ (sym e))))
    ∙ tidy (intensity_at cell i j m) (leaving_at cell j m)
  where
    tidy : (x l : Fraction) → x +ℚ whole (pos 0) *ℚ opposite l ≡ x
    tidy x l = ring (x ∷ l ∷ []) (hlevel terms) refl

-- what is found of a transition between two states
module _ (product : Product) (month cell i j : ℕ) where
  pub flow-found : (e m : ℕ) → transition_between product i j ≡ Some e
      → intensity_at (forward_cell product month cell) i j m
      ≡ number_at (curve_cell (cells_of_32 Forward) product.den (transition_at product e).rate month cell) m
  flow-found e m is = ap (λ (found : Option ℕ). number_at (unwrap_or (option_map
      (λ k. curve_cell (cells_of_32 Forward) product.den (transition_at product k).rate month cell) found) []) m) is

  pub flow-none : (m : ℕ) → transition_between product i j ≡ None
      → intensity_at (forward_cell product month cell) i j m ≡ whole (pos 0)
  flow-none m is = ap (λ (found : Option ℕ). number_at (unwrap_or (option_map
      (λ k. curve_cell (cells_of_32 Forward) product.den (transition_at product k).rate month cell) found) []) m) is

-- what is read of a transition's curve
pub flow_near : (product : Product) (month cell i j e : ℕ) → transition_between product i j ≡ Some e → (den : ℕ)
    (pieces : List Piece) (numbers : List ℤ) → den ≡ product.den → pieces ≡ (transition_at product e).rate
    → ((m : ℕ) → IsNear 2 (number_at (curve_cell (cells_of_32 Forward) den pieces month cell) m)
    (slice_index_or numbers m (pos 0)))
    → (m : ℕ) → IsNear 2 (intensity_at (forward_cell product month cell) i j m) (slice_index_or numbers m (pos 0))
flow_near product month cell i j e found den pieces numbers is_den are near m =
    rw (flow-found product month cell i j e m found, ← is_den, ← are) (near m)

-- no number of a tame cell is above 1/64
entry_small : (cell : CellCurves) (kappa : ℕ) → IsTame Sum kappa (kolmogorov_system cell) → (m j i : ℕ) → m < 6
    → j < cell.states → i < cell.states → size (forward_entry cell m j i) ≤ℚ over (pos 1) 64
entry_small cell kappa tame m j i low row column =
    let matrices = (kolmogorov_system cell).matrices in
    le_trans (le_of_equal (ap size (sym ((systems_have_entries cell).kolmogorov m j i low row column))))
    (le_trans (number_below_matrix_norm Sum (matrix_at matrices m) j i)
    (le_trans (term_le_sum_to 6 m {f = matrix_norm_at Sum matrices}
    (λ k b. matrix_norm_natural Sum (matrix_at matrices k)) low) tame.total))

pub small_flows : (product : Product) (month cell : ℕ) → IsAdmissible product → month < product.months → cell < 32
    → HasSmallFlows (forward_cell product month cell)
small_flows product month cell admissible inside few = record {
  flows = flows;
  leaving = leaving;
  few = admissible.well_formed.names.at_most_twelve;
  loop = loop;
  none = none;
}
  where
    curves : CellCurves
    curves = forward_cell product month cell

    none : (i j m : ℕ) → 6 ≤ m → intensity_at curves i j m ≡ whole (pos 0)
    none i j m six = number_at-past (curves.intensity i j) 6 m
        ((cells_are_quintic (cells_of_32 Forward) product month cell admissible.well_formed).0.intensity i j) six

    loop : (i m : ℕ) → intensity_at curves i i m ≡ whole (pos 0)
    loop i m = flow-none product month cell i i m (no_loop product i admissible.well_formed)

    small : (m j i : ℕ) → m < 6 → j < curves.states → i < curves.states
        → size (forward_entry curves m j i) ≤ℚ over (pos 1) 64
    small = entry_small curves (kappa40 product month)
        (kolmogorov_cells_are_tame product month cell admissible inside few)

    zero_small : (x : Fraction) (k d : ℕ) → x ≡ whole (pos 0) → size x ≤ℚ over (pos k) d
    zero_small x k d is = le_trans (le_of_equal (ap size is ∙ size_zero)) (natural k d)

    flows : (i j m : ℕ) → i < curves.states → j < curves.states → size (intensity_at curves i j m) ≤ℚ over (pos 1) 64
    flows i j m b c = elim (eqb_tells j i) [
      | inl same ↦ zero_small (intensity_at curves i j m) 1 64
          (ap (λ k. intensity_at curves i k m) same.1 ∙ loop i m)
      | inr apart ↦ elim (cases_lt m 6) [
        | inl low ↦ le_trans (le_of_equal (ap size (sym (flow-is curves i j m apart.1)))) (small m j i low c b)
        | inr past ↦ zero_small (intensity_at curves i j m) 1 64 (none i j m past)
      ]
    ]

    leaving : (i m : ℕ) → i < curves.states → size (leaving_at curves i m) ≤ℚ over (pos 5) 256
    leaving i m b = elim (cases_lt m 6) [
      | inl low ↦ le_trans (le_of_equal (sym (size-opposite (leaving_at curves i m))
          ∙ ap size (sym (leaving-is curves i m (loop i m)))))
          (le_trans (small m i i low b b) (linear [] (natural 0 1) (hlevel claims) refl))
      | inr past ↦ zero_small (leaving_at curves i m) 5 256
          (sum_to_zeros curves.states {f = λ j. intensity_at curves i j m} (λ j c. none i j m past))
    ]
