-- How much a cell within the bounds of its month enlarges moments.
use Rattle.std.specs.Prelude.{ℕ, pos, ◌≤◌, length}
use Rattle.frac_laws.specs.Fraction.{Fraction, over, whole, ◌+ℚ◌, ◌*ℚ◌, ◌≤ℚ◌}
use Rattle.frac_laws.specs.Lists.{Vector}
use Rattle.frac_laws.specs.Norms.{Sup, norm_of_vector}
use Rattle.cell_laws.specs.Systems.{taylor_value}
use Rattle.cell_laws.specs.Pairs.{second_taylor_value}
use Rattle.cell_laws.specs.Tame.{growth_of}
use Rattle.model_specs.specs.Cells.{CellCurves}
use Rattle.model_specs.specs.Systems.{thiele_system, norberg_pair}
use Rattle.cell_bounds.specs.CellBounds.{MonthBounds, PlanBounds, IsWithinMonth, PaysWithin, of_cell}

-- first moments: by the growth of the month and by what is paid
abbrev pub SmallCellsGrow : Type 0
SmallCellsGrow = (cell : CellCurves) (month : MonthBounds) (plan : PlanBounds) (v : Vector) (n : ℕ)
    → IsWithinMonth cell month → PaysWithin cell month plan → length v ≤ cell.states → 6 ≤ n
    → norm_of_vector Sup (taylor_value (thiele_system cell) v n)
    ≤ℚ (whole (pos 1) +ℚ growth_of month.kappa40) *ℚ norm_of_vector Sup v +ℚ over (pos 1) 192 *ℚ plan.most

-- what second moments receive over a cell from first moments of at most w
abbrev pub received : PlanBounds → Fraction → Fraction
received plan w = over (pos 1) 153 *ℚ plan.most *ℚ (over (pos 64) 63 *ℚ (w +ℚ over (pos 5) 1536 *ℚ plan.most))
    +ℚ of_cell (over (pos 21) 16 *ℚ (plan.greatest *ℚ plan.most))

-- second moments: by the growth and by what they receive
abbrev pub SmallPairsGrow : Type 0
SmallPairsGrow = (cell : CellCurves) (month : MonthBounds) (plan : PlanBounds) (w z : Vector) (n : ℕ)
    → IsWithinMonth cell month → PaysWithin cell month plan → length z ≤ cell.states → 6 ≤ n
    → norm_of_vector Sup (second_taylor_value (norberg_pair cell) w z n)
    ≤ℚ (whole (pos 1) +ℚ growth_of month.kappa40) *ℚ norm_of_vector Sup z
    +ℚ over (pos 64) 63 *ℚ received plan (norm_of_vector Sup w)
