-- The numbers of both moments in a cell of an admissible product are small enough to be stored.
use Rattle.std.specs.Prelude.{◌≡◌, ℕ, pos, ◌<◌, [], ◌∷◌}
use Rattle.std.proofs.Common.{refl, ap, sym, subst, ◌∙◌, arith, inl, inr}
use Rattle.std.proofs.lemmas.Bool.{cases_lt}
use mathlib.Core.Path.{ap₂}
use Rattle.frac_laws.specs.Fraction.{Fraction, whole, over, opposite, size, ◌+ℚ◌, ◌*ℚ◌, ◌≤ℚ◌}
use Rattle.frac_laws.specs.Sums.{sum_to}
use Rattle.frac_laws.specs.Lists.{Vector, number_at, vector_at, matrix_at}
use Rattle.frac_laws.specs.Norms.{Sup}
use Rattle.frac_laws.proofs.FractionTerms.{ring, terms}
use Rattle.frac_laws.proofs.Linear.{linear, claims, natural}
use Rattle.frac_laws.proofs.Norms.{size_zero, number_below_norm, number_below_matrix_norm, matrix_norm_natural}
use Rattle.frac_laws.proofs.Order.{le_trans, le_of_equal}
use Rattle.frac_laws.proofs.Sizes.{size-opposite}
use Rattle.frac_laws.proofs.Sums.{term_le_sum_to, sum_to_zeros}
use Rattle.frac_laws.proofs.Vectors.{number_at-scale_list}
use Rattle.cell_laws.specs.Tame.{matrix_norm_at, vector_norm_at}
use Rattle.model_specs.specs.Product.{Product}
use Rattle.model_specs.specs.Payments.{payment_plan}
use Rattle.model_specs.specs.Ledgers.{scale}
use Rattle.model_specs.specs.Cells.{CellCurves, Backward, cells_of_32}
use Rattle.model_specs.specs.Systems.{interest_at, intensity_at, leaving_at, second_payment_at, backward_entry}
use Rattle.model_specs.specs.Systems.{second_moment_system}
use Rattle.model_specs.specs.ValuationRules.{IsAdmissible}
use Rattle.model_laws.proofs.CellEntries.{systems_have_entries}
use Rattle.model_laws.proofs.CellShapes.{cells_are_quintic}
use Rattle.payment_plan.specs.declared.pattern.Which.TheVariants.{Benefits}
use Rattle.cell_bounds.proofs.TableNorms.{where_same-is, unit-same}
use Rattle.cell_bounds.specs.ScaledSystems.{scaling, scaled_system}
use Rattle.product_cells.specs.EachCell.{backward_cell, plan_scaling}
use Rattle.product_laws.proofs.FittingNumbers.{numbers_fit}
use Rattle.product_laws.proofs.ProductPairs.{norberg_pairs_are_tame}
use Rattle.moment_laws.proofs.ScaledRuns.{free-scaled}
use Rattle.cell_coeffs.specs.PairRows.{IsSmallPair}
use Rattle.cell_coeffs.specs.Rows.{IsSmallCell}
use Rattle.cell_coeffs.proofs.AdmissibleCells.{admissible_cell}
use Rattle.cell_coeffs.proofs.Links.{intensity-none}
use Rattle.cell_coeffs.proofs.RowSteps.{no_loop}
use Rattle.cell_coeffs.proofs.SmallCells.{number_past}

module _ (cell : CellCurves) (h : Fraction) (first : IsSmallCell cell h)
    (loop : (i m : ℕ) → intensity_at cell i i m ≡ whole (pos 0))
    (most : (m : ℕ) → m < 6 → matrix_norm_at Sup (second_moment_system cell).matrices m ≤ℚ over (pos 1) 64)
    (fits : (m : ℕ) → m < 12
    → vector_norm_at Sup (scaled_system (h *ℚ h) (second_moment_system cell)).free m ≤ℚ over (pos 1) 256) where
  entry-own : (i m : ℕ) → backward_entry cell 2 m i i
      ≡ opposite ((interest_at cell m +ℚ interest_at cell m) +ℚ leaving_at cell i m)
  entry-own i m =
      ap₂ ◌+ℚ◌ (loop i m) (where_same-is i i (opposite (whole (pos 2) *ℚ interest_at cell m +ℚ leaving_at cell i m))
      ∙ ap (λ u. u *ℚ opposite (whole (pos 2) *ℚ interest_at cell m +ℚ leaving_at cell i m)) (unit-same i))
      ∙ tidy (interest_at cell m) (leaving_at cell i m)
    where
      tidy : (r l : Fraction) → whole (pos 0) +ℚ whole (pos 1) *ℚ opposite (whole (pos 2) *ℚ r +ℚ l)
          ≡ opposite ((r +ℚ r) +ℚ l)
      tidy r l = ring (r ∷ l ∷ []) (hlevel terms) refl

  pub second_diagonal : (i m : ℕ) → i < cell.states
      → size ((interest_at cell m +ℚ interest_at cell m) +ℚ leaving_at cell i m) ≤ℚ over (pos 5) 256
  second_diagonal i m b = elim (cases_lt m 6) [
    | inl low ↦
        let a = matrix_at (second_moment_system cell).matrices m in
        let is : number_at (vector_at a i) i ≡ opposite ((interest_at cell m +ℚ interest_at cell m)
        +ℚ leaving_at cell i m) = (systems_have_entries cell).second m i i low b b ∙ entry-own i m in
        le_trans (le_of_equal (sym (size-opposite ((interest_at cell m +ℚ interest_at cell m) +ℚ leaving_at cell i m))
        ∙ ap size (sym is)))
        (le_trans (number_below_matrix_norm Sup a i i) (le_trans (most m low)
        (linear [] (natural 1 256) (hlevel claims) refl)))
    | inr past ↦ le_trans (le_of_equal (ap size (ap₂ ◌+ℚ◌ (ap₂ ◌+ℚ◌ (first.interest_none m past)
        (first.interest_none m past)) (sum_to_zeros cell.states (λ j c. first.intensity_none i j m past))
        ∙ ring [] (hlevel terms) refl) ∙ size_zero)) (natural 5 256)
  ]

  pub second_free : (i m : ℕ) → i < cell.states → m < 12
      → size (h *ℚ h *ℚ sum_to cell.states (λ j. second_payment_at cell i j m)) ≤ℚ over (pos 1) 256
  second_free i m b low =
      let v = vector_at (scaled_system (h *ℚ h) (second_moment_system cell)).free m in
      let is : number_at v i ≡ h *ℚ h *ℚ sum_to cell.states (λ j. second_payment_at cell i j m) =
      ap (λ (u : Vector). number_at u i) (free-scaled (h *ℚ h) (second_moment_system cell).free m)
      ∙ number_at-scale_list (h *ℚ h) (vector_at (second_moment_system cell).free m) i
      ∙ ap (λ z. h *ℚ h *ℚ z) ((systems_have_entries cell).second_free m i low b) in
      le_trans (le_of_equal (ap size (sym is))) (le_trans (number_below_norm Sup v i) (fits m low))

-- at the plan's scale
pair_at_scale : (product : Product) (month cell : ℕ) → IsAdmissible product → month < product.months → cell < 32
    → IsSmallPair (backward_cell product (payment_plan product) month cell)
    (plan_scaling product (payment_plan product))
pair_at_scale product month cell admissible inside few =
    let plan = payment_plan product in
    let curves = backward_cell product plan month cell in
    let h = plan_scaling product plan in
    let first = admissible_cell Benefits product (scale product plan) month cell admissible refl inside few in
    let tame = norberg_pairs_are_tame product month cell admissible inside few in
    let fits = (numbers_fit product month cell admissible inside few).0 in
    let quintic = (cells_are_quintic (cells_of_32 Backward) product month cell admissible.well_formed).0 in
    let loop : (i m : ℕ) → intensity_at curves i i m ≡ whole (pos 0) =
    λ i m. intensity-none product Benefits month cell i i m (no_loop product i admissible.well_formed) in
    let most : (m : ℕ) → m < 6 → matrix_norm_at Sup (second_moment_system curves).matrices m ≤ℚ over (pos 1) 64 =
    λ m low. le_trans (term_le_sum_to 6 m {f = matrix_norm_at Sup (second_moment_system curves).matrices}
    (λ k b. matrix_norm_natural Sup (matrix_at (second_moment_system curves).matrices k)) low) tame.second.total in
    record {
      first = first;
      sums_none = λ i j m past. number_past (curves.sum i j) m (omega (arith, past, quintic.sum i j));
      diagonal = second_diagonal curves h first loop most fits.second;
      free = second_free curves h first loop most fits.second;
    }

pub admissible_pair : (product : Product) (g month cell : ℕ) → IsAdmissible product
    → g ≡ scale product (payment_plan product) → month < product.months → cell < 32
    → IsSmallPair (backward_cell product (payment_plan product) month cell) (scaling g)
admissible_pair product g month cell admissible is_scale inside few =
    subst (λ k. IsSmallPair (backward_cell product (payment_plan product) month cell) (scaling k)) (sym is_scale)
    (pair_at_scale product month cell admissible inside few)
