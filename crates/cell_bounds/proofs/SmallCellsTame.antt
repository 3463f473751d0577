-- Cells within the bounds of their month: tame systems, and the norms of their matrices and free vectors.
use Rattle.std.specs.Prelude.{ℕ, pos, ◌<◌, []}
use Rattle.frac_laws.specs.Fraction.{whole, ◌+ℚ◌, ◌*ℚ◌, ◌≤ℚ◌}
use Rattle.frac_laws.specs.Norms.{Sup, Sum}
use Rattle.cell_laws.specs.Tame.{matrix_norm_at, vector_norm_at, one_factor_norm}
use Rattle.model_specs.specs.Cells.{CellCurves}
use Rattle.model_specs.specs.Systems.{thiele_system, kolmogorov_system}
use Rattle.cell_bounds.specs.CellBounds.{MonthBounds, PlanBounds, IsWithinMonth, PaysWithin, of_cell, paid_bound}
use Rattle.cell_bounds.specs.SmallCellLaws.{SmallThieleCellsAreTame, SmallKolmogorovCellsAreTame}
use Rattle.cell_bounds.specs.SmallCellLaws.{SmallNorbergPairsAreTame}
use Rattle.cell_bounds.proofs.TameLinks.{link_bound}
use Rattle.cell_bounds.proofs.TameSystems.{thiele_tame, forward_tame, backward_norm, forward_norm, forward_factor}
use Rattle.cell_bounds.proofs.TameSystems.{thiele_free}
use Rattle.cell_bounds.proofs.PairTame.{pair_tame}
use Rattle.frac_laws.proofs.Linear.{linear, claims, natural}
use Rattle.std.proofs.Common.{refl}

pub small_thiele_cells_are_tame : SmallThieleCellsAreTame
small_thiele_cells_are_tame cell b p c within pays some most =
    thiele_tame cell b.rates b.rho b.iota b.nu b.phi b.kappa40 within.curves within.small within.counts p.rate p.sum
    p.most p.greatest c pays.payments pays.most_natural some most

pub small_kolmogorov_cells_are_tame : SmallKolmogorovCellsAreTame
small_kolmogorov_cells_are_tame cell b within =
    forward_tame cell b.rates b.rho b.iota b.nu b.phi b.kappa40 within.curves within.small within.counts

pub small_norberg_pairs_are_tame : SmallNorbergPairsAreTame
small_norberg_pairs_are_tame cell b p h G coupling within pays covers =
    pair_tame cell b.rates b.rho b.iota b.nu b.phi b.kappa40 p.rate p.sum p.most p.greatest p.largest p.apart
    within.curves within.small within.counts pays.payments pays.sums pays.most_natural pays.greatest_natural h G
    coupling
    covers.h_natural covers.G_natural covers.unit covers.room covers.most covers.couples

module _ (cell : CellCurves) (b : MonthBounds) (within : IsWithinMonth cell b) where
  -- norms, power by power, and the one-factor map forward
  pub small_thiele_norm : (m : ℕ) → m < 6 → matrix_norm_at Sup (thiele_system cell).matrices m
      ≤ℚ link_bound b.rho b.iota (whole (pos 1)) m
  small_thiele_norm m low = backward_norm cell b.rates b.rho b.iota b.nu b.phi b.kappa40 within.curves within.small
      within.counts 1 m (linear [] (natural 1 1) (hlevel claims) refl) low

  pub small_forward_norm : (m : ℕ) → m < 6 → matrix_norm_at Sum (kolmogorov_system cell).matrices m
      ≤ℚ link_bound b.rho b.iota (whole (pos 0)) m
  small_forward_norm = forward_norm cell b.rates b.rho b.iota b.nu b.phi b.kappa40 within.curves within.small
      within.counts

  pub small_forward_factor : one_factor_norm Sum (kolmogorov_system cell)
      ≤ℚ whole (pos 1) +ℚ whole (pos 0) *ℚ of_cell b.nu
  small_forward_factor = forward_factor cell b.rates b.rho b.iota b.nu b.phi b.kappa40 within.curves within.small
      within.counts

  module _ (p : PlanBounds) (pays : PaysWithin cell b p) where
    -- free vectors, power by power
    pub small_free : (m : ℕ) → m < 9
        → vector_norm_at Sup (thiele_system cell).free m ≤ℚ of_cell p.most *ℚ paid_bound m
    small_free = thiele_free cell b.rates b.rho b.iota b.nu b.phi b.kappa40 within.curves within.small within.counts
        p.rate p.sum p.most p.greatest (whole (pos 0)) pays.payments pays.most_natural (natural 0 1)
