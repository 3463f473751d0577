-- The systems of a cell whose curves and payments are small are tame.
use Rattle.std.specs.Prelude.{◌≡◌, ℕ, pos, ◌<◌, map, List, [], ◌∷◌}
use Rattle.std.proofs.Common.{refl, ap, ◌∙◌}
use Rattle.frac_laws.specs.Fraction.{Fraction, whole, opposite, ◌+ℚ◌, ◌*ℚ◌, ◌≤ℚ◌}
use Rattle.frac_laws.specs.Sums.{sum_to, power}
use Rattle.frac_laws.specs.Lists.{Vector, Matrix, matrix_at, vector_at, scale_list}
use Rattle.frac_laws.specs.Norms.{Norm, Sup, Sum, norm_of_vector, norm_of_matrix}
use Rattle.frac_laws.proofs.Linear.{linear, claims, natural, ◌⊞◌, ◌⊠◌}
use Rattle.frac_laws.proofs.Order.{le_trans, le_of_equal}
use Rattle.frac_laws.proofs.Powers.{power_natural}
use Rattle.frac_laws.proofs.Signs.{mul_natural, sum_natural}
use Rattle.frac_laws.proofs.Sizes.{size_of_natural}
use Rattle.frac_laws.proofs.Sums.{sum_to_mono, sum_to_scale}
use Rattle.frac_laws.proofs.Norms.{norm-scale_list}
use Rattle.cell_laws.specs.Systems.{System}
use Rattle.cell_laws.specs.Tame.{weighted, matrix_norm_at, vector_norm_at, total_norm, growth_of}
use Rattle.cell_laws.specs.Tame.{IsTame, one_factor_norm}
use Rattle.cell_laws.proofs.TameSums.{matrix_norms_natural}
use Rattle.whole_laws.specs.Whole.{list_of}
use Rattle.model_specs.specs.Cells.{CellCurves}
use Rattle.model_specs.specs.Systems.{matrix_of, vector_of, intensity_at, leaving_at, backward_entry, where_same}
use Rattle.model_specs.specs.Systems.{thiele_system, kolmogorov_system}
use Rattle.whole_laws.proofs.ListsByPlace.{at-list_of}
use Rattle.whole_laws.proofs.Members.{at-map}
use Rattle.cell_bounds.specs.CellBounds.{paid_bound, of_cell, HasSmallCurves, HasSmallMonth, HasSmallPayments}
use Rattle.cell_bounds.specs.CellBounds.{CountsGrowth}
use Rattle.cell_bounds.specs.ScaledSystems.{scaled_system}
use Rattle.cell_bounds.proofs.CellConstants.{paid_weighted}
use Rattle.cell_bounds.proofs.LinkBounds.{link_entry}
use Rattle.cell_bounds.proofs.TameLinks.{link_bound, total_links, weighted_links, total_small, growth_links}
use Rattle.cell_bounds.proofs.TameLinks.{backward-links, forward-links, rows_norm, columns_norm, rows_factor}
use Rattle.cell_bounds.proofs.TameLinks.{columns_factor}
use Rattle.cell_bounds.proofs.PaymentBounds.{free_number, free_norm}

-- scaled free vectors have scaled norms
pub scaled_norm : (norm : Norm) (c : Fraction) (vs : List Vector) (m : ℕ) → whole (pos 0) ≤ℚ c
    → vector_norm_at norm (map (scale_list c) vs) m ≡ c *ℚ vector_norm_at norm vs m
scaled_norm norm c vs m some =
    ap (norm_of_vector norm) (at-map (scale_list c) vs m [])
    ∙ norm-scale_list norm c (vector_at vs m)
    ∙ ap (λ z. z *ℚ vector_norm_at norm vs m) (size_of_natural some)

module _ (cell : CellCurves) (rates : ℕ → ℕ → Fraction) (rho iota nu phi : Fraction) (kappa40 : ℕ)
    (curves : HasSmallCurves cell rates rho iota nu) (small : HasSmallMonth rho iota nu)
    (counts : CountsGrowth rho iota nu phi kappa40) where
  -- the backward matrices, with interest taken once or twice
  abbrev pub backward_matrices : ℕ → List Matrix
  backward_matrices times = list_of 6 (λ m. matrix_of cell.states (backward_entry cell times m))

  backward-at : (times m : ℕ) → m < 6
      → matrix_at (backward_matrices times) m ≡ matrix_of cell.states (link_entry cell (whole (pos times)) m)
  backward-at times m b =
      at-list_of 6 (λ m. matrix_of cell.states (backward_entry cell times m)) m [] b ∙ backward-links cell times m

  pub backward_norm : (times m : ℕ) → whole (pos times) ≤ℚ whole (pos 2) → m < 6
      → matrix_norm_at Sup (backward_matrices times) m ≤ℚ link_bound rho iota (whole (pos times)) m
  backward_norm times m most b =
      le_trans (le_of_equal (ap (norm_of_matrix Sup) (backward-at times m b)))
      (rows_norm cell rates rho iota nu (whole (pos times)) curves small (natural times 1) most m)

  -- so they are tame, whatever is paid
  pub backward_tame : (times : ℕ) → whole (pos times) ≤ℚ whole (pos 2)
      → IsTame Sup kappa40 (record { dimension = cell.states; matrices = backward_matrices times; free = [] })
  backward_tame times most =
      let s : System = record { dimension = cell.states; matrices = backward_matrices times; free = [] } in
      let norms = matrix_norm_at Sup (backward_matrices times) in
      let t = whole (pos times) in
      let within : (m : ℕ) → m < 6 → norms m ≤ℚ link_bound rho iota t m = λ m b. backward_norm times m most b in
      let all = total_small rho iota t norms within small.rho_natural small.iota_natural (natural times 1) most
      small.rho_most small.iota_most in
      record {
        total = all;
        matrices = weighted_links rho iota t norms within small.rho_natural small.iota_natural (natural times 1) most
            small.rho_most small.iota_most;
        free = natural 1 8;
        growth = growth_links (total_norm Sup s.matrices) (one_factor_norm Sup s) rho iota nu t phi
            (growth_of kappa40)
            (sum_natural 6 norms (matrix_norms_natural Sup (backward_matrices times))) all
            (total_links rho iota t norms within small.rho_natural small.iota_natural (natural times 1) most)
            counts.first
            (rows_factor cell rates rho iota nu t curves small (natural times 1) most (backward_matrices times)
            (backward-at times))
            most small.nu_natural counts.counted;
      }

  -- the forward system
  forward-at : (m : ℕ) → m < 6 → matrix_at (kolmogorov_system cell).matrices m
      ≡ matrix_of cell.states (λ j i. link_entry cell (whole (pos 0)) m i j)
  forward-at m b =
      at-list_of 6 (λ m. matrix_of cell.states
      (λ j i. intensity_at cell i j m +ℚ where_same j i (opposite (leaving_at cell j m)))) m [] b
      ∙ forward-links cell m

  pub forward_norm : (m : ℕ) → m < 6
      → matrix_norm_at Sum (kolmogorov_system cell).matrices m ≤ℚ link_bound rho iota (whole (pos 0)) m
  forward_norm m b =
      le_trans (le_of_equal (ap (norm_of_matrix Sum) (forward-at m b)))
      (columns_norm cell rates rho iota nu (whole (pos 0)) curves small (natural 0 1) (natural 2 1) m)

  pub forward_factor : one_factor_norm Sum (kolmogorov_system cell) ≤ℚ whole (pos 1) +ℚ whole (pos 0) *ℚ of_cell nu
  forward_factor = columns_factor cell rates rho iota nu (whole (pos 0)) curves small (natural 0 1) (natural 2 1)
      (kolmogorov_system cell).matrices forward-at

  pub forward_tame : IsTame Sum kappa40 (kolmogorov_system cell)
  forward_tame =
      let s = kolmogorov_system cell in
      let norms = matrix_norm_at Sum s.matrices in
      let t = whole (pos 0) in
      let all = total_small rho iota t norms forward_norm small.rho_natural small.iota_natural (natural 0 1)
      (natural 2 1) small.rho_most small.iota_most in
      record {
        total = all;
        matrices = weighted_links rho iota t norms forward_norm small.rho_natural small.iota_natural (natural 0 1)
            (natural 2 1) small.rho_most small.iota_most;
        free = natural 1 8;
        growth = growth_links (total_norm Sum s.matrices) (one_factor_norm Sum s) rho iota nu t phi
            (growth_of kappa40)
            (sum_natural 6 norms (matrix_norms_natural Sum s.matrices)) all
            (total_links rho iota t norms forward_norm small.rho_natural small.iota_natural (natural 0 1)
            (natural 2 1))
            counts.first forward_factor (natural 2 1) small.nu_natural counts.counted;
      }

  -- what a free vector of Thiele's system is at most
  module _ (rate : ℕ → Fraction) (sum : ℕ → ℕ → Fraction) (x greatest c : Fraction)
      (payments : HasSmallPayments cell rates rate sum x greatest) (x_natural : whole (pos 0) ≤ℚ x)
      (c_natural : whole (pos 0) ≤ℚ c) where
    pub thiele_free : (m : ℕ) → m < 9
        → vector_norm_at Sup (thiele_system cell).free m ≤ℚ of_cell x *ℚ paid_bound m
    thiele_free m b =
        le_trans (le_of_equal (ap (norm_of_vector Sup) (at-list_of 9
        (λ m. vector_of cell.states (free_number cell rates rho iota nu rate sum x greatest curves payments m)) m []
        b)))
        (free_norm cell rates rho iota nu rate sum x greatest curves payments m x_natural)

    scaled_free : (m : ℕ) → m < 9
        → weighted (vector_norm_at Sup (scaled_system c (thiele_system cell)).free) m
        ≤ℚ (c *ℚ of_cell x) *ℚ weighted paid_bound m
    scaled_free m b =
        le_trans (le_of_equal (ap (λ z. power (whole (pos 8)) m *ℚ z)
        (scaled_norm Sup c (thiele_system cell).free m c_natural)))
        (linear (vector_norm_at Sup (thiele_system cell).free m ∷ c ∷ x ∷ paid_bound m
        ∷ power (whole (pos 8)) m ∷ [])
        ((thiele_free m b ⊠ c_natural) ⊠ power_natural m (natural 8 1)) (hlevel claims) refl)

    pub thiele_tame : c *ℚ x ≤ℚ whole (pos 6) → IsTame Sup kappa40 (scaled_system c (thiele_system cell))
    thiele_tame most =
        let links = backward_tame 1 (linear [] (natural 1 1) (hlevel claims) refl) in
        record {
          total = links.total;
          matrices = links.matrices;
          free = le_trans (sum_to_mono 9 scaled_free)
              (le_trans (le_of_equal (sum_to_scale 9 (c *ℚ of_cell x) (weighted paid_bound)))
              (linear (c ∷ x ∷ sum_to 9 (weighted paid_bound) ∷ [])
              ((paid_weighted ⊠ mul_natural c_natural x_natural) ⊠ natural 1 384 ⊞ most ⊠ natural 5 256)
              (hlevel claims) refl));
          growth = links.growth;
        }
