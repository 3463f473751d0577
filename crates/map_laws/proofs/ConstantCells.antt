-- What a stored system whose exact one is constant in x says of it: above power 0 all norms are 0, and the free numbers
-- are hardly larger than the stored ones.
use Rattle.std.proofs.Common.{◌≡◌, ℕ, suc, ◌^◌, ◌≤◌, pos, [], ◌∷◌, length, refl, sym, ap, subst, ◌∙◌, arith}
use Rattle.std.proofs.Common.{inl, inr}
use Rattle.std.proofs.lemmas.Bool.{cases_lt}
use Rattle.frac_laws.specs.Fraction.{Fraction, over, whole, size, ◌+ℚ◌, ◌-ℚ◌, ◌≤ℚ◌}
use Rattle.frac_laws.specs.Lists.{vector_at, number_at, matrix_at}
use Rattle.frac_laws.specs.Norms.{Sup}
use Rattle.frac_laws.proofs.FractionTerms.{ring, terms}
use Rattle.frac_laws.proofs.Linear.{linear, claims, natural}
use Rattle.frac_laws.proofs.Norms.{norm-same, size_zero}
use Rattle.frac_laws.proofs.Order.{le_refl, le_trans, le_of_equal, add_mono}
use Rattle.frac_laws.proofs.Sizes.{size_add}
use Rattle.frac_laws.proofs.SmallNumbers.{matrix_norm_of_small, sup_of_small}
use Rattle.frac_laws.proofs.Lengths.{number_at-past}
use Rattle.cell_laws.specs.Systems.{System}
use Rattle.cell_laws.specs.Tame.{matrix_norm_at, vector_norm_at}
use Rattle.cell_laws.proofs.TameSums.{norm_of_none}
use Rattle.step_laws.proofs.StoredNorms.{later_powers_small}
use Rattle.linear_system.specs.StandsFor.{units}
use Rattle.linear_system.specs.StoredSystem.{StoredSystem, IsSystem, dim_of, row_of, stored_free}
use Rattle.taylor_step.proofs.ConstantRows.{size_at_most}
use Rattle.taylor_step.proofs.RowProducts.{held_small}
use Rattle.map_laws.specs.MonthOfCells.{IsConstantCell, ConstantCellsHaveSmallNumbers}

module _ (s : StoredSystem) (kappa40 : ℕ) (e : System) (sys : IsSystem s) (cell : IsConstantCell s kappa40 e) where
  no_matrix : (m : ℕ) → 1 ≤ m → matrix_norm_at Sup e.matrices m ≤ℚ whole (pos 0)
  no_matrix m b = le_trans (matrix_norm_of_small Sup (dim_of s) (whole (pos 0)) (matrix_at e.matrices m) (le_refl _)
      (record {
        rows = cell.stands.matrices.rows m;
        columns = cell.stands.matrices.columns m;
        numbers = λ i j. le_of_equal (ap size (cell.constant.matrices i j m b) ∙ size_zero);
      })) (linear (whole (pos (dim_of s)) ∷ []) (le_refl (whole (pos 0))) (hlevel claims) refl)

  no_vector : (k : ℕ) → vector_norm_at Sup e.free (suc k) ≡ whole (pos 0)
  no_vector k = norm-same Sup (vector_at e.free (suc k)) [] (λ i. cell.constant.free i (suc k) (omega arith))
      ∙ norm_of_none Sup

  free_number : (row : ℕ) → size (number_at (vector_at e.free 0) row) ≤ℚ over (pos 1) 32 +ℚ units (pos 3)
  free_number row = elim (cases_lt row (dim_of s)) [
    | inl b ↦ le_trans (le_of_equal (ap size (parts (number_at (vector_at e.free 0) row)
        (units (stored_free s row 0)))))
        (le_trans (size_add (units (stored_free s row 0))
        (number_at (vector_at e.free 0) row -ℚ units (stored_free s row 0)))
        (add_mono (le_trans (size_at_most (stored_free s row 0) (2 ^ 59)
        (held_small (row_of s row) (dim_of s) s.degree (dim_of s) 0 (sys.each row b)))
        (linear [] (natural 0 1) (hlevel claims) refl)) (cell.stands.free.near row 0 b)))
    | inr b ↦ le_trans (le_of_equal (ap size (number_at-past (vector_at e.free 0) (dim_of s) row
        (cell.stands.free.rows 0) b) ∙ size_zero)) (linear [] (natural 0 1) (hlevel claims) refl)
  ]
    where
      parts : (x z : Fraction) → x ≡ z +ℚ (x -ℚ z)
      parts x z = ring (x ∷ z ∷ []) (hlevel terms) refl

pub constant_cells_have_small_numbers : ConstantCellsHaveSmallNumbers
constant_cells_have_small_numbers s kappa40 e sys cell = record {
  keeps = record {
    rows = λ m. subst (λ d. length (matrix_at e.matrices m) ≤ d) (sym cell.stands.dimension)
        (cell.stands.matrices.rows m);
    free = λ k. subst (λ d. length (vector_at e.free k) ≤ d) (sym cell.stands.dimension) (cell.stands.free.rows k);
  };
  no_later = λ n b. le_trans (later_powers_small Sup (dim_of s) e.matrices (record {
    rows = cell.stands.matrices.rows;
    columns = cell.stands.matrices.columns;
    no_more = λ m row col c. cell.stands.matrices.no_more row col m c;
  }) (whole (pos 0)) n (λ m c. no_matrix s kappa40 e sys cell m (omega (arith, b, c))))
      (linear [] (natural 0 1) (hlevel claims) refl);
  free_alone = no_vector s kappa40 e sys cell;
  free_small = sup_of_small (over (pos 1) 32 +ℚ units (pos 3)) (vector_at e.free 0)
      (linear [] (natural 1 32) (hlevel claims) refl) (free_number s kappa40 e sys cell);
}
