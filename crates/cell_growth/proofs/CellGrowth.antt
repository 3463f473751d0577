-- What a cell of Thiele's system does to the first moments.
use Rattle.std.specs.Prelude.{◌≡◌, ℕ, suc, pos, ◌-◌, ◌≤◌, [], ◌∷◌, length}
use Rattle.std.proofs.Common.{refl, ap, sym, ◌∙◌, arith}
use Rattle.std.proofs.lemmas.List.{get_or_past}
use Rattle.frac_laws.specs.Fraction.{Fraction, over, whole, ◌+ℚ◌, ◌-ℚ◌, ◌*ℚ◌, ◌≤ℚ◌}
use Rattle.frac_laws.specs.Sums.{sum_to}
use Rattle.frac_laws.specs.Lists.{Vector, SameNumbers, number_at, add_lists, subtract_lists}
use Rattle.frac_laws.specs.Norms.{Norm, Sup, norm_of_vector}
use Rattle.frac_laws.proofs.FractionTerms.{ring, terms}
use Rattle.frac_laws.proofs.Linear.{linear, claims, natural, ◌⊞◌, ◌⊠◌, ◌·◌}
use Rattle.frac_laws.proofs.Order.{le_trans, le_of_equal}
use Rattle.frac_laws.proofs.Norms.{norm-same, norm-add_lists}
use Rattle.frac_laws.proofs.Vectors.{number_at-add_lists}
use Rattle.frac_laws.proofs.Sums.{sum_to_mono, sum_to_scale}
use Rattle.frac_laws.proofs.Convolutions.{sum_to_within}
use Rattle.cell_laws.specs.Systems.{System, coefficient, taylor_value, homogeneous}
use Rattle.cell_laws.specs.Tame.{IsTame, growth_of, matrix_norm_at, vector_norm_at, total_norm}
use Rattle.cell_laws.specs.GrowthLaws.{later_powers}
use Rattle.cell_laws.proofs.Growth.{cells_grow}
use Rattle.cell_laws.proofs.Recurrences.{norms_are_driven, taylor_values_stay_within}
use Rattle.cell_laws.proofs.Solutions.{defects_respond}
use Rattle.cell_laws.proofs.Superposition.{taylor_values_superpose}
use Rattle.cell_laws.proofs.TameSums.{total_within, vector_norms_natural, norm_of_none}
use Rattle.model_specs.specs.Cells.{CellCurves}
use Rattle.model_specs.specs.Systems.{thiele_system}
use Rattle.cell_bounds.specs.CellBounds.{of_cell, paid_bound, HasSmallCurves, HasSmallMonth, CountsGrowth}
use Rattle.cell_bounds.specs.CellBounds.{HasSmallPayments}
use Rattle.cell_bounds.proofs.CellConstants.{paid_total}
use Rattle.cell_bounds.proofs.TameSystems.{backward_tame, thiele_free}

-- the homogeneous growth of a tame system above all its powers
pub grows_by_kappa : (norm : Norm) (kappa40 : ℕ) (s : System) (e : Vector) (n : ℕ) → IsTame norm kappa40 s
    → length e ≤ s.dimension → length s.matrices ≤ n
    → norm_of_vector norm (taylor_value (homogeneous s) e n)
    ≤ℚ (whole (pos 1) +ℚ growth_of kappa40) *ℚ norm_of_vector norm e
grows_by_kappa norm kappa40 s e n tame fits above =
    le_trans (cells_grow norm kappa40 s e n tame fits)
    (le_of_equal (ap (λ r. (whole (pos 1) +ℚ growth_of kappa40 +ℚ r) *ℚ norm_of_vector norm e) none
    ∙ ring (growth_of kappa40 ∷ norm_of_vector norm e ∷ []) (hlevel terms) refl))
  where
    none : later_powers norm s.matrices n ≡ whole (pos 0)
    none = let z : length s.matrices - n ≡ 0 = omega (arith, above) in rw z refl

subtract-none : (v : Vector) → subtract_lists v [] ≡ v
subtract-none [] = refl
subtract-none (x ∷ v) = refl

-- a Taylor value is the homogeneous one and the one from 0
pub value_in_parts : (norm : Norm) (s : System) (v : Vector) (n : ℕ) → norm_of_vector norm (taylor_value s v n)
    ≤ℚ norm_of_vector norm (taylor_value (homogeneous s) v n) +ℚ norm_of_vector norm (taylor_value s [] n)
value_in_parts norm s v n =
    le_trans (le_of_equal (norm-same norm (taylor_value s v n)
    (add_lists (taylor_value (homogeneous s) v n) (taylor_value s [] n)) numbers))
    (norm-add_lists norm (taylor_value (homogeneous s) v n) (taylor_value s [] n))
  where
    numbers : SameNumbers (taylor_value s v n) (add_lists (taylor_value (homogeneous s) v n) (taylor_value s [] n))
    numbers i =
        apart (number_at (taylor_value s v n) i) (number_at (taylor_value s [] n) i)
        ∙ ap (λ z. z +ℚ number_at (taylor_value s [] n) i) (taylor_values_superpose s v [] n i
        ∙ ap (λ e. number_at (taylor_value (homogeneous s) e n) i) (subtract-none v))
        ∙ sym (number_at-add_lists (taylor_value (homogeneous s) v n) (taylor_value s [] n) i)
      where
        apart : (x y : Fraction) → x ≡ (x -ℚ y) +ℚ y
        apart x y = ring (x ∷ y ∷ []) (hlevel terms) refl

-- what a system makes of nothing
pub from_nothing : (norm : Norm) (s : System) (n : ℕ) (free : Fraction) → total_norm norm s.matrices ≤ℚ over (pos 1) 64
    → sum_to n (vector_norm_at norm s.free) ≤ℚ free
    → whole (pos 63) *ℚ norm_of_vector norm (taylor_value s [] n) ≤ℚ whole (pos 64) *ℚ free
from_nothing norm s n free small paid =
    let norms : ℕ → Fraction = λ k. norm_of_vector norm (coefficient s [] k) in
    let first : norms 0 ≡ whole (pos 0) = norm_of_none norm in
    let all = defects_respond n (matrix_norm_at norm s.matrices) (vector_norm_at norm s.free) norms
    (norms_are_driven norm s [] n) (vector_norms_natural norm s.free)
    (le_trans (total_within norm s.matrices n) small) in
    linear (norm_of_vector norm (taylor_value s [] n) ∷ sum_to (suc n) norms ∷ norms 0
    ∷ sum_to n (vector_norm_at norm s.free) ∷ free ∷ [])
    (taylor_values_stay_within norm s [] n ⊠ natural 63 1 ⊞ all ⊞ whole (pos 64) · first ⊞ paid ⊠ natural 64 1)
    (hlevel claims) refl

module _ (cell : CellCurves) (rates : ℕ → ℕ → Fraction) (rho iota nu phi : Fraction) (kappa40 : ℕ)
    (curves : HasSmallCurves cell rates rho iota nu) (small : HasSmallMonth rho iota nu)
    (counts : CountsGrowth rho iota nu phi kappa40)
    (rate : ℕ → Fraction) (sum : ℕ → ℕ → Fraction) (x greatest : Fraction)
    (payments : HasSmallPayments cell rates rate sum x greatest) (x_natural : whole (pos 0) ≤ℚ x) where
  pub free_total : (n : ℕ) → sum_to n (vector_norm_at Sup (thiele_system cell).free) ≤ℚ of_cell x *ℚ over (pos 5) 4
  free_total n =
      le_trans (sum_to_within 9 n (vector_norms_natural Sup (thiele_system cell).free)
      (λ m past. ap (norm_of_vector Sup) (get_or_past (thiele_system cell).free m [] past) ∙ norm_of_none Sup))
      (le_trans (sum_to_mono 9 (thiele_free cell rates rho iota nu phi kappa40 curves small counts rate sum x greatest
      (whole (pos 0)) payments x_natural (natural 0 1)))
      (le_trans (le_of_equal (sum_to_scale 9 (of_cell x) paid_bound))
      (linear (sum_to 9 paid_bound ∷ x ∷ []) ((paid_total ⊠ x_natural) ⊠ natural 1 384) (hlevel claims) refl)))

  -- a cell enlarges the first moments by the growth and by what is paid
  pub thiele_grows : (v : Vector) (n : ℕ) → length v ≤ cell.states → 6 ≤ n
      → norm_of_vector Sup (taylor_value (thiele_system cell) v n)
      ≤ℚ (whole (pos 1) +ℚ growth_of kappa40) *ℚ norm_of_vector Sup v +ℚ over (pos 1) 192 *ℚ x
  thiele_grows v n fits above =
      let s = thiele_system cell in
      let tame = backward_tame cell rates rho iota nu phi kappa40 curves small counts 1
      (linear [] (natural 1 1) (hlevel claims) refl) in
      let homogeneous_part = grows_by_kappa Sup kappa40 (homogeneous s) v n tame fits above in
      let paid = from_nothing Sup s n (of_cell x *ℚ over (pos 5) 4) tame.total (free_total n) in
      linear (norm_of_vector Sup (taylor_value s v n) ∷ norm_of_vector Sup (taylor_value (homogeneous s) v n)
      ∷ norm_of_vector Sup (taylor_value s [] n) ∷ growth_of kappa40 ∷ norm_of_vector Sup v ∷ x ∷ [])
      (value_in_parts Sup s v n ⊞ homogeneous_part ⊞ paid ⊠ natural 1 63 ⊞ x_natural ⊠ natural 46 24192)
      (hlevel claims) refl
