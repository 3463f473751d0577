-- Norberg's pair of a cell is a tame pair.
use Rattle.std.specs.Prelude.{◌≡◌, ℕ, pos, ◌<◌, map, List, [], ◌∷◌}
use Rattle.std.proofs.Common.{refl, ap, ◌∙◌}
use Rattle.std.proofs.lemmas.List.{get_or_past}
use mathlib.Core.Path.{ap₂}
use Rattle.frac_laws.specs.Fraction.{Fraction, over, whole, ◌+ℚ◌, ◌*ℚ◌, ◌≤ℚ◌}
use Rattle.frac_laws.specs.Sums.{sum_to, power}
use Rattle.frac_laws.specs.Lists.{Vector, Matrix, vector_at, matrix_at, scale_list, scale_matrix}
use Rattle.frac_laws.specs.Norms.{Sup, norm_of_vector, norm_of_matrix}
use Rattle.frac_laws.proofs.FractionTerms.{ring, terms}
use Rattle.frac_laws.proofs.Linear.{linear, claims, natural, ◌⊞◌, ◌⊠◌, ◌·◌}
use Rattle.frac_laws.proofs.Order.{le_refl, le_trans, le_of_equal}
use Rattle.frac_laws.proofs.Powers.{power_natural}
use Rattle.frac_laws.proofs.Signs.{mul_natural}
use Rattle.frac_laws.proofs.Sizes.{size_of_natural}
use Rattle.frac_laws.proofs.Sums.{sum_to_mono, sum_to_add, sum_to_scale}
use Rattle.frac_laws.proofs.Convolutions.{sum_to_within}
use Rattle.frac_laws.proofs.Norms.{norm-scale_matrix}
use Rattle.cell_laws.specs.Tame.{weighted, matrix_norm_at, vector_norm_at, IsTamePair}
use Rattle.cell_laws.specs.Tame.{weighted_norm_of_vectors}
use Rattle.cell_laws.proofs.TameSums.{matrix_norms_natural, vector_norms_natural, matrix_norm_past, norm_of_none}
use Rattle.model_specs.specs.Cells.{CellCurves}
use Rattle.model_specs.specs.Systems.{matrix_of, vector_of, norberg_pair, second_moment_system, coupling_entry}
use Rattle.model_specs.specs.Systems.{second_payment_at}
use Rattle.whole_laws.proofs.ListsByPlace.{at-list_of}
use Rattle.whole_laws.proofs.Members.{at-map}
use Rattle.cell_bounds.specs.CellBounds.{paid_bound, load_bound, twice_paid_bound, of_cell, HasSmallCurves}
use Rattle.cell_bounds.specs.CellBounds.{HasSmallMonth, HasSmallPayments, HasSmallSums, CountsGrowth}
use Rattle.cell_bounds.specs.ScaledSystems.{scaled_pair}
use Rattle.cell_bounds.proofs.CellConstants.{paid_total, paid_weighted, loads_weighted, twice_paid_total}
use Rattle.cell_bounds.proofs.CellConstants.{twice_paid_weighted}
use Rattle.cell_bounds.proofs.TameSystems.{scaled_norm, backward_tame, thiele_tame}
use Rattle.cell_bounds.proofs.SecondBounds.{coupling_by_x, coupling_by_scale, second_by_scale, second_by_x}

-- scaled matrices have scaled norms
scaled_matrix_norm : (c : Fraction) (ms : List Matrix) (m : ℕ) → whole (pos 0) ≤ℚ c
    → matrix_norm_at Sup (map (scale_matrix c) ms) m ≡ c *ℚ matrix_norm_at Sup ms m
scaled_matrix_norm c ms m some =
    ap (norm_of_matrix Sup) (at-map (scale_matrix c) ms m [])
    ∙ norm-scale_matrix Sup c (matrix_at ms m)
    ∙ ap (λ z. z *ℚ matrix_norm_at Sup ms m) (size_of_natural some)

module _ (cell : CellCurves) (rates : ℕ → ℕ → Fraction) (rho iota nu phi : Fraction) (kappa40 : ℕ)
    (rate : ℕ → Fraction) (sum : ℕ → ℕ → Fraction) (x greatest : Fraction) (largest apart : ℕ → ℕ → Fraction)
    (curves : HasSmallCurves cell rates rho iota nu) (small : HasSmallMonth rho iota nu)
    (counts : CountsGrowth rho iota nu phi kappa40)
    (payments : HasSmallPayments cell rates rate sum x greatest) (sums : HasSmallSums cell sum largest apart)
    (x_natural : whole (pos 0) ≤ℚ x) (greatest_natural : whole (pos 0) ≤ℚ greatest) where
  abbrev couplings : List Matrix
  couplings = (norberg_pair cell).coupling

  abbrev second : List Vector
  second = (second_moment_system cell).free

  coupling-at : (m : ℕ) → m < 9 → matrix_at couplings m ≡ matrix_of cell.states (coupling_entry cell m)
  coupling-at m b = at-list_of 9 (λ m. matrix_of cell.states (coupling_entry cell m)) m [] b

  abbrev second_number : ℕ → ℕ → Fraction
  second_number m i = sum_to cell.states (λ j. second_payment_at cell i j m)

  second-at : (m : ℕ) → m < 12 → vector_at second m ≡ vector_of cell.states (second_number m)
  second-at m b = at-list_of 12 (λ m. vector_of cell.states (second_number m)) m [] b

  -- the sums without weights, by x
  coupling_norm : (m : ℕ) → m < 9 → matrix_norm_at Sup couplings m ≤ℚ of_cell (whole (pos 2) *ℚ x) *ℚ paid_bound m
  coupling_norm m b = le_trans (le_of_equal (ap (norm_of_matrix Sup) (coupling-at m b)))
      (coupling_by_x cell rates rho iota nu rate sum x greatest largest apart curves small payments sums m x_natural)

  pub coupling_total : (n : ℕ) → sum_to n (matrix_norm_at Sup couplings) ≤ℚ over (pos 1) 153 *ℚ x
  coupling_total n =
      le_trans (sum_to_within 9 n (matrix_norms_natural Sup couplings) (matrix_norm_past Sup couplings))
      (le_trans (sum_to_mono 9 coupling_norm)
      (le_trans (le_of_equal (sum_to_scale 9 (of_cell (whole (pos 2) *ℚ x)) paid_bound))
      (linear (sum_to 9 paid_bound ∷ x ∷ []) ((paid_total ⊠ x_natural) ⊠ natural 1 192 ⊞ x_natural ⊠ natural 1 39168)
      (hlevel claims) refl)))

  second_norm : (m : ℕ) → m < 12 → vector_norm_at Sup second m ≤ℚ of_cell (greatest *ℚ x) *ℚ twice_paid_bound m
  second_norm m b = le_trans (le_of_equal (ap (norm_of_vector Sup) (second-at m b)))
      (second_by_x cell rates rho iota nu rate sum x greatest largest apart curves small payments sums m x_natural
      greatest_natural)

  pub second_total : (n : ℕ) → sum_to n (vector_norm_at Sup second) ≤ℚ of_cell (over (pos 21) 16 *ℚ (greatest *ℚ x))
  second_total n =
      le_trans (sum_to_within 12 n (vector_norms_natural Sup second)
      (λ m past. ap (norm_of_vector Sup) (get_or_past second m [] past) ∙ norm_of_none Sup))
      (le_trans (sum_to_mono 12 second_norm)
      (le_trans (le_of_equal (sum_to_scale 12 (of_cell (greatest *ℚ x)) twice_paid_bound))
      (linear (sum_to 12 twice_paid_bound ∷ x ∷ greatest ∷ [])
      (((twice_paid_total ⊠ x_natural) ⊠ greatest_natural) ⊠ natural 1 384) (hlevel claims) refl)))

  module _ (h G c : Fraction) (h_natural : whole (pos 0) ≤ℚ h) (G_natural : whole (pos 0) ≤ℚ G)
      (unit : h *ℚ G ≡ whole (pos 1)) (room : greatest +ℚ over (pos 1) 6 *ℚ x ≤ℚ G) (most : h *ℚ x ≤ℚ whole (pos 6))
      (cover : over (pos 1) 96 *ℚ (h *ℚ x) ≤ℚ c) where
    scaled_total : (m : ℕ) → m < 9 → matrix_norm_at Sup (map (scale_matrix h) couplings) m
        ≤ℚ (h *ℚ of_cell (whole (pos 2) *ℚ x)) *ℚ paid_bound m
    scaled_total m b = le_trans (le_of_equal (scaled_matrix_norm h couplings m h_natural))
        (linear (matrix_norm_at Sup couplings m ∷ h ∷ x ∷ paid_bound m ∷ [])
        (coupling_norm m b ⊠ h_natural) (hlevel claims) refl)

    scaled_coupling : (m : ℕ) → m < 9 → weighted (matrix_norm_at Sup (map (scale_matrix h) couplings)) m
        ≤ℚ over (pos 12) 384 *ℚ weighted load_bound m +ℚ over (pos 3) 384 *ℚ weighted paid_bound m
    scaled_coupling m b =
        let norm = matrix_norm_at Sup couplings m in
        let by_scale : norm ≤ℚ of_cell (whole (pos 12) *ℚ G *ℚ load_bound m +ℚ whole (pos 3) *ℚ G *ℚ paid_bound m) =
        le_trans (le_of_equal (ap (norm_of_matrix Sup) (coupling-at m b)))
        (coupling_by_scale cell rates rho iota nu rate sum x greatest largest apart curves small payments sums G
        greatest_natural room m G_natural) in
        let times : h *ℚ norm ≤ℚ over (pos 12) 384 *ℚ load_bound m +ℚ over (pos 3) 384 *ℚ paid_bound m =
        linear (norm ∷ h ∷ G ∷ load_bound m ∷ paid_bound m ∷ [])
        (by_scale ⊠ h_natural ⊞ (over (pos 12) 384 *ℚ load_bound m +ℚ over (pos 3) 384 *ℚ paid_bound m) · unit)
        (hlevel claims) refl in
        le_trans (le_of_equal (ap (λ z. power (whole (pos 8)) m *ℚ z) (scaled_matrix_norm h couplings m h_natural)))
        (linear ((h *ℚ norm) ∷ load_bound m ∷ paid_bound m ∷ power (whole (pos 8)) m ∷ [])
        (times ⊠ power_natural m (natural 8 1)) (hlevel claims) refl)

    scaled_second : (m : ℕ) → m < 12
        → weighted (vector_norm_at Sup (map (scale_list (h *ℚ h)) second)) m
        ≤ℚ over (pos 9) 3072 *ℚ weighted twice_paid_bound m
    scaled_second m b =
        let norm = vector_norm_at Sup second m in
        let by_scale : norm ≤ℚ of_cell (over (pos 9) 8 *ℚ (G *ℚ G)) *ℚ twice_paid_bound m =
        le_trans (le_of_equal (ap (norm_of_vector Sup) (second-at m b)))
        (second_by_scale cell rates rho iota nu rate sum x greatest largest apart curves small payments sums G
        greatest_natural room m G_natural) in
        let squares : h *ℚ h *ℚ (G *ℚ G) ≡ whole (pos 1) =
        regroup h G ∙ ap₂ (λ y z. y *ℚ z) unit unit ∙ ring [] (hlevel terms) refl in
        let times : h *ℚ h *ℚ norm ≤ℚ over (pos 9) 3072 *ℚ twice_paid_bound m =
        linear (norm ∷ h ∷ G ∷ twice_paid_bound m ∷ [])
        ((by_scale ⊠ h_natural) ⊠ h_natural ⊞ (over (pos 9) 3072 *ℚ twice_paid_bound m) · squares)
        (hlevel claims) refl in
        le_trans (le_of_equal (ap (λ z. power (whole (pos 8)) m *ℚ z)
        (scaled_norm Sup (h *ℚ h) second m (mul_natural h_natural h_natural))))
        (linear ((h *ℚ h *ℚ norm) ∷ twice_paid_bound m ∷ power (whole (pos 8)) m ∷ [])
        (times ⊠ power_natural m (natural 8 1)) (hlevel claims) refl)
      where
        regroup : (h g : Fraction) → h *ℚ h *ℚ (g *ℚ g) ≡ (h *ℚ g) *ℚ (h *ℚ g)
        regroup h g = ring (h ∷ g ∷ []) (hlevel terms) refl

    second_small : weighted_norm_of_vectors Sup (map (scale_list (h *ℚ h)) second) ≤ℚ over (pos 1) 32
    second_small =
        le_trans (sum_to_mono 12 scaled_second)
        (le_trans (le_of_equal (sum_to_scale 12 (over (pos 9) 3072) (weighted twice_paid_bound)))
        (linear (sum_to 12 (weighted twice_paid_bound) ∷ []) (twice_paid_weighted ⊠ natural 9 3072) (hlevel claims)
        refl))

    pub pair_tame : IsTamePair kappa40 c (scaled_pair h (norberg_pair cell))
    pair_tame =
        let links = backward_tame cell rates rho iota nu phi kappa40 curves small counts 2 (le_refl (whole (pos 2))) in
        record {
          first = thiele_tame cell rates rho iota nu phi kappa40 curves small counts rate sum x greatest h payments
              x_natural h_natural most;
          second = record {
            total = links.total;
            matrices = links.matrices;
            free = le_trans second_small (linear [] (natural 0 1) (hlevel claims) refl);
            growth = links.growth;
          };
          second_free = second_small;
          coupling = le_trans (sum_to_mono 9 scaled_coupling)
              (le_trans (le_of_equal (sum_to_add 9 (λ m. over (pos 12) 384 *ℚ weighted load_bound m)
              (λ m. over (pos 3) 384 *ℚ weighted paid_bound m)
              ∙ ap₂ ◌+ℚ◌ (sum_to_scale 9 (over (pos 12) 384) (weighted load_bound))
              (sum_to_scale 9 (over (pos 3) 384) (weighted paid_bound))))
              (linear (sum_to 9 (weighted load_bound) ∷ sum_to 9 (weighted paid_bound) ∷ [])
              (loads_weighted ⊠ natural 12 384 ⊞ paid_weighted ⊠ natural 3 384) (hlevel claims) refl));
          total_coupling = le_trans (sum_to_mono 9 scaled_total)
              (le_trans (le_of_equal (sum_to_scale 9 (h *ℚ of_cell (whole (pos 2) *ℚ x)) paid_bound))
              (linear (sum_to 9 paid_bound ∷ h ∷ x ∷ c ∷ [])
              ((paid_total ⊠ mul_natural h_natural x_natural) ⊠ natural 2 384 ⊞ cover ⊠ natural 15 16
              ⊞ mul_natural h_natural x_natural ⊠ natural 5 1536) (hlevel claims) refl));
        }
