-- What a cell of Norberg's pair does to the second moments.
use Rattle.std.specs.Prelude.{◌≡◌, ℕ, zero, suc, pos, ◌<◌, ◌≤◌, List, [], ◌∷◌, length}
use Rattle.std.proofs.Common.{refl, ap, sym, arith}
use mathlib.Core.Path.{ap₂}
use Rattle.frac_laws.specs.Fraction.{Fraction, over, whole, ◌+ℚ◌, ◌*ℚ◌, ◌≤ℚ◌}
use Rattle.frac_laws.specs.Sums.{sum_to}
use Rattle.frac_laws.specs.Convolution.{convolution}
use Rattle.frac_laws.specs.Lists.{Vector, Matrix, vector_at, add_lists, scale_list, sum_of_vectors}
use Rattle.frac_laws.specs.Norms.{Sup, norm_of_vector}
use Rattle.frac_laws.proofs.Linear.{linear, claims, natural, ◌⊞◌, ◌⊠◌}
use Rattle.frac_laws.proofs.Order.{le_refl, le_trans, le_of_equal, add_mono}
use Rattle.frac_laws.proofs.Signs.{sum_natural}
use Rattle.frac_laws.proofs.Norms.{norm-add_lists, norm_natural}
use Rattle.frac_laws.proofs.Sums.{sum_to_ext, sum_to_mono, sum_to_add, sum_to_longer}
use Rattle.frac_laws.proofs.Convolutions.{convolution_total_le}
use Rattle.cell_laws.specs.Systems.{System, run, coefficient, coefficients, taylor_value, homogeneous, sum_of_images}
use Rattle.cell_laws.specs.Pairs.{CoupledPair, received, second_taylor_value}
use Rattle.cell_laws.specs.Tame.{growth_of, matrix_norm_at, vector_norm_at}
use Rattle.cell_laws.proofs.Runs.{norm_of_images-run}
use Rattle.cell_laws.proofs.Recurrences.{norms_are_driven}
use Rattle.cell_laws.proofs.Solutions.{defects_respond}
use Rattle.cell_laws.proofs.TameSums.{total_within, matrix_norms_natural, vector_norms_natural}
use Rattle.whole_laws.specs.Whole.{list_of}
use Rattle.model_specs.specs.Cells.{CellCurves}
use Rattle.model_specs.specs.Systems.{norberg_pair, thiele_system}
use Rattle.whole_laws.proofs.ListsByPlace.{at-list_of}
use Rattle.cell_bounds.specs.CellBounds.{of_cell, HasSmallCurves, HasSmallMonth, CountsGrowth, HasSmallPayments}
use Rattle.cell_bounds.specs.CellBounds.{HasSmallSums}
use Rattle.cell_bounds.proofs.TameSystems.{backward_tame}
use Rattle.cell_growth.proofs.CellGrowth.{grows_by_kappa, value_in_parts, from_nothing, free_total}
use Rattle.cell_bounds.proofs.PairTame.{coupling_total, second_total}

-- a run of n powers takes n free vectors
run-same : (matrices : List Matrix) (f g : ℕ → Vector) (y : Vector) (n : ℕ) → ((k : ℕ) → k < n → f k ≡ g k)
    → run matrices f y n ≡ run matrices g y n
run-same matrices f g y zero h = refl
run-same matrices f g y (suc n) h =
    ap₂ (λ vs v. scale_list (over (pos 1) (suc n)) (add_lists (sum_of_images matrices vs) v) ∷ vs)
    (run-same matrices f g y n (λ k b. h k (omega (arith, b)))) (h n (omega arith))

module _ (cell : CellCurves) (rates : ℕ → ℕ → Fraction) (rho iota nu phi : Fraction) (kappa40 : ℕ)
    (rate : ℕ → Fraction) (sum : ℕ → ℕ → Fraction) (x greatest : Fraction) (largest apart : ℕ → ℕ → Fraction)
    (curves : HasSmallCurves cell rates rho iota nu) (small : HasSmallMonth rho iota nu)
    (counts : CountsGrowth rho iota nu phi kappa40)
    (payments : HasSmallPayments cell rates rate sum x greatest) (sums : HasSmallSums cell sum largest apart)
    (x_natural : whole (pos 0) ≤ℚ x) (greatest_natural : whole (pos 0) ≤ℚ greatest) where
  abbrev pair : CoupledPair
  pair = norberg_pair cell

  -- the first half's coefficients added up
  first_total : (w : Vector) (n : ℕ) → whole (pos 63) *ℚ sum_to (suc n)
      (λ k. norm_of_vector Sup (coefficient pair.first w k))
      ≤ℚ whole (pos 64) *ℚ (norm_of_vector Sup w +ℚ over (pos 5) 1536 *ℚ x)
  first_total w n =
      let s = thiele_system cell in
      let norms : ℕ → Fraction = λ k. norm_of_vector Sup (coefficient s w k) in
      let tame = backward_tame cell rates rho iota nu phi kappa40 curves small counts 1
      (linear [] (natural 1 1) (hlevel claims) refl) in
      let all = defects_respond n (matrix_norm_at Sup s.matrices) (vector_norm_at Sup s.free) norms
      (norms_are_driven Sup s w n) (vector_norms_natural Sup s.free)
      (le_trans (total_within Sup s.matrices n) tame.total) in
      let paid = free_total cell rates rho iota nu phi kappa40 curves small counts rate sum x greatest payments
      x_natural n in
      linear (sum_to (suc n) norms ∷ norm_of_vector Sup w ∷ sum_to n (vector_norm_at Sup s.free) ∷ x ∷ [])
      (all ⊞ paid ⊠ natural 64 1) (hlevel claims) refl

  -- what the second half receives
  received_norm : (w : Vector) (k : ℕ) → norm_of_vector Sup (received pair w k)
      ≤ℚ convolution (matrix_norm_at Sup pair.coupling) (λ j. norm_of_vector Sup (coefficient pair.first w j)) k
      +ℚ vector_norm_at Sup pair.second.free k
  received_norm w k =
      le_trans (norm-add_lists Sup (sum_of_images pair.coupling (coefficients pair.first w k))
      (vector_at pair.second.free k))
      (add_mono (norm_of_images-run pair.first.matrices (vector_at pair.first.free) w Sup pair.coupling k) (le_refl _))

  abbrev pub received_most : Fraction → Fraction
  received_most w = over (pos 1) 153 *ℚ x *ℚ (over (pos 64) 63 *ℚ (w +ℚ over (pos 5) 1536 *ℚ x))
      +ℚ of_cell (over (pos 21) 16 *ℚ (greatest *ℚ x))

  received_total : (w : Vector) (n : ℕ) → sum_to n (λ k. norm_of_vector Sup (received pair w k))
      ≤ℚ received_most (norm_of_vector Sup w)
  received_total w n =
      let c = matrix_norm_at Sup pair.coupling in
      let norms : ℕ → Fraction = λ k. norm_of_vector Sup (coefficient pair.first w k) in
      let norms_natural : (k : ℕ) → whole (pos 0) ≤ℚ norms k = λ k. norm_natural Sup (coefficient pair.first w k) in
      let each = sum_to_mono n {f = λ k. norm_of_vector Sup (received pair w k)}
      {g = λ k. convolution c norms k +ℚ vector_norm_at Sup pair.second.free k} (λ k b. received_norm w k) in
      let split = sum_to_add n (convolution c norms) (vector_norm_at Sup pair.second.free) in
      let product = convolution_total_le n (matrix_norms_natural Sup pair.coupling) norms_natural in
      let more = sum_to_longer n (suc n) {f = norms} (λ k b. norms_natural k) (omega arith) in
      let total = coupling_total cell rates rho iota nu phi kappa40 rate sum x greatest largest apart curves small
      counts
      payments sums x_natural greatest_natural n in
      let free = second_total cell rates rho iota nu phi kappa40 rate sum x greatest largest apart curves small counts
      payments sums x_natural greatest_natural n in
      gap (sum_to n (λ k. norm_of_vector Sup (received pair w k)))
      (sum_to n (λ k. convolution c norms k +ℚ vector_norm_at Sup pair.second.free k)) (sum_to n (convolution c norms))
      (sum_to n (vector_norm_at Sup pair.second.free)) (sum_to n c) (sum_to n norms) (sum_to (suc n) norms)
      (norm_of_vector Sup w) each split product total (sum_natural n norms norms_natural) more (first_total w n) free
    where
      gap : (all parts convolved free c norms longer w : Fraction) → all ≤ℚ parts → parts ≡ convolved +ℚ free
          → convolved ≤ℚ c *ℚ norms → c ≤ℚ over (pos 1) 153 *ℚ x → whole (pos 0) ≤ℚ norms → norms ≤ℚ longer
          → whole (pos 63) *ℚ longer ≤ℚ whole (pos 64) *ℚ (w +ℚ over (pos 5) 1536 *ℚ x)
          → free ≤ℚ of_cell (over (pos 21) 16 *ℚ (greatest *ℚ x))
          → all ≤ℚ received_most w
      gap all parts convolved free c norms longer w each split product total some more first paid =
          linear (all ∷ parts ∷ convolved ∷ free ∷ c ∷ norms ∷ longer ∷ w ∷ x ∷ greatest ∷ [])
          (each ⊞ le_of_equal split ⊞ product ⊞ total ⊠ some ⊞ (more ⊠ x_natural) ⊠ natural 1 153
          ⊞ (first ⊠ x_natural) ⊠ natural 1 9639 ⊞ paid) (hlevel claims) refl

  -- a cell enlarges the second moments by the growth, and by what they receive
  pub second_grows : (w z : Vector) (n : ℕ) → length z ≤ cell.states → 6 ≤ n
      → norm_of_vector Sup (second_taylor_value pair w z n)
      ≤ℚ (whole (pos 1) +ℚ growth_of kappa40) *ℚ norm_of_vector Sup z
      +ℚ over (pos 64) 63 *ℚ received_most (norm_of_vector Sup w)
  second_grows w z n fits above =
      let s : System = record {
        dimension = cell.states;
        matrices = pair.second.matrices;
        free = list_of n (received pair w);
      } in
      let same : second_taylor_value pair w z n ≡ taylor_value s z n =
      ap sum_of_vectors (run-same pair.second.matrices (received pair w) (vector_at s.free) z n
      (λ k b. sym (at-list_of n (received pair w) k [] b))) in
      let tame = backward_tame cell rates rho iota nu phi kappa40 curves small counts 2 (le_refl (whole (pos 2))) in
      let homogeneous_part = grows_by_kappa Sup kappa40 (homogeneous s) z n tame fits above in
      let paid : sum_to n (vector_norm_at Sup s.free) ≤ℚ received_most (norm_of_vector Sup w) =
      le_trans (le_of_equal (sum_to_ext n (λ k b. ap (norm_of_vector Sup) (at-list_of n (received pair w) k [] b))))
      (received_total w n) in
      let answer = from_nothing Sup s n (received_most (norm_of_vector Sup w)) tame.total paid in
      rw same (joined (norm_of_vector Sup (taylor_value s z n)) (norm_of_vector Sup (taylor_value (homogeneous s) z n))
      (norm_of_vector Sup (taylor_value s [] n)) (growth_of kappa40) (norm_of_vector Sup z)
      (received_most (norm_of_vector Sup w)) (value_in_parts Sup s z n) homogeneous_part answer)
    where
      joined : (t a b k z r : Fraction) → t ≤ℚ a +ℚ b → a ≤ℚ (whole (pos 1) +ℚ k) *ℚ z
          → whole (pos 63) *ℚ b ≤ℚ whole (pos 64) *ℚ r
          → t ≤ℚ (whole (pos 1) +ℚ k) *ℚ z +ℚ over (pos 64) 63 *ℚ r
      joined t a b k z r parts grown answer =
          linear (t ∷ a ∷ b ∷ k ∷ z ∷ r ∷ []) (parts ⊞ grown ⊞ answer ⊠ natural 1 63) (hlevel claims) refl
