-- A cell within the bounds of its month is tame, with values divided by a scale.
use Rattle.std.specs.Prelude.{◌≡◌, pos}
use Rattle.frac_laws.specs.Fraction.{Fraction, over, whole, ◌+ℚ◌, ◌*ℚ◌, ◌≤ℚ◌}
use Rattle.frac_laws.specs.Norms.{Sup, Sum}
use Rattle.cell_laws.specs.Tame.{IsTame, IsTamePair}
use Rattle.model_specs.specs.Cells.{CellCurves}
use Rattle.model_specs.specs.Systems.{thiele_system, norberg_pair, kolmogorov_system}
use Rattle.cell_bounds.specs.CellBounds.{MonthBounds, PlanBounds, IsWithinMonth, PaysWithin}
use Rattle.cell_bounds.specs.ScaledSystems.{scaled_system, scaled_pair}

-- Thiele's system of c times the unknowns, where c times what a state pays a year is at most 6
abbrev pub SmallThieleCellsAreTame : Type 0
SmallThieleCellsAreTame = (cell : CellCurves) (month : MonthBounds) (plan : PlanBounds) (c : Fraction)
    → IsWithinMonth cell month → PaysWithin cell month plan → whole (pos 0) ≤ℚ c → c *ℚ plan.most ≤ℚ whole (pos 6)
    → IsTame Sup month.kappa40 (scaled_system c (thiele_system cell))

-- Kolmogorov's system
abbrev pub SmallKolmogorovCellsAreTame : Type 0
SmallKolmogorovCellsAreTame = (cell : CellCurves) (month : MonthBounds) → IsWithinMonth cell month
    → IsTame Sum month.kappa40 (kolmogorov_system cell)

-- the scale G of a plan, with h = 1 / G: the greatest sum and a sixth of what a state pays a year are together at most
-- G, and the coupling covers h / 96 of the latter
pub record CoversPlan (plan : PlanBounds) (h G coupling : Fraction) : Type 0 where
  pub h_natural : whole (pos 0) ≤ℚ h
  pub G_natural : whole (pos 0) ≤ℚ G
  pub unit : h *ℚ G ≡ whole (pos 1)
  pub room : plan.greatest +ℚ over (pos 1) 6 *ℚ plan.most ≤ℚ G
  pub most : h *ℚ plan.most ≤ℚ whole (pos 6)
  pub couples : over (pos 1) 96 *ℚ (h *ℚ plan.most) ≤ℚ coupling

-- Norberg's pair
abbrev pub SmallNorbergPairsAreTame : Type 0
SmallNorbergPairsAreTame = (cell : CellCurves) (month : MonthBounds) (plan : PlanBounds) (h G coupling : Fraction)
    → IsWithinMonth cell month → PaysWithin cell month plan → CoversPlan plan h G coupling
    → IsTamePair month.kappa40 coupling (scaled_pair h (norberg_pair cell))
