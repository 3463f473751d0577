-- The probabilities of an admissible product add up to one, and their sizes to at most two.
use Rattle.std.specs.Prelude.{◌≡◌, ℕ, pos, ◌+◌, ◌-◌, ◌*◌, ◌<◌, ◌≤◌, length}
use Rattle.frac_laws.specs.Fraction.{over, whole, ◌*ℚ◌, ◌≤ℚ◌}
use Rattle.frac_laws.specs.Sums.{sum_to, sum_of_list}
use Rattle.frac_laws.specs.Lists.{Vector}
use Rattle.frac_laws.specs.Norms.{Sum, norm_of_vector}
use Rattle.cell_laws.specs.Systems.{System, taylor_value, homogeneous, KeepsDimension}
use Rattle.cell_laws.specs.Tame.{matrix_norm_at, one_factor_norm}
use Rattle.model_specs.specs.Product.{Product}
use Rattle.model_specs.specs.ValuationRules.{IsAdmissible}
use Rattle.model_specs.specs.Systems.{kolmogorov_system}
use Rattle.model_specs.specs.Runs.{month_forward, probabilities}
use Rattle.product_cells.specs.EachCell.{forward_cell}

-- what a forward cell has beyond tameness: |A_0| is at most 1/96, the later norms add up to at most 1/512, and the
-- one-factor map enlarges no vector
pub record HasSmallForward (s : System) : Type 0 where
  pub first : matrix_norm_at Sum s.matrices 0 ≤ℚ over (pos 1) 96
  pub later : sum_to 5 (λ m. matrix_norm_at Sum s.matrices (1 + m)) ≤ℚ over (pos 1) 512
  pub mean : one_factor_norm Sum s ≤ℚ whole (pos 1)

-- each forward cell of an admissible product has this
abbrev pub ForwardCellsAreSmall : Type 0
ForwardCellsAreSmall = (product : Product) (month cell : ℕ) → IsAdmissible product → month < product.months
    → cell < 32 → HasSmallForward (kolmogorov_system (forward_cell product month cell))

-- such a cell enlarges a vector by at most 1/76800 of it, in every degree from 8 on
abbrev pub SmallForwardCellsGrowLittle : Type 0
SmallForwardCellsGrowLittle = (s : System) (v : Vector) (n : ℕ) → HasSmallForward s → KeepsDimension s
    → length s.matrices ≡ 6
    → length v ≤ s.dimension → 8 ≤ n
    → norm_of_vector Sum (taylor_value (homogeneous s) v n) ≤ℚ over (pos 76801) 76800 *ℚ norm_of_vector Sum v

-- the probabilities after some cells of a month
abbrev pub probabilities_after : Product → (n month cells : ℕ) → Vector
probabilities_after product n month cells =
    month_forward (λ cell. kolmogorov_system (forward_cell product month cell)) n cells (probabilities product n month)

-- they add up to 1, in every degree
abbrev pub ProbabilitiesAddUpToOne : Type 0
ProbabilitiesAddUpToOne = (product : Product) (n month cells : ℕ) → IsAdmissible product
    → sum_of_list (probabilities_after product n month cells) ≡ whole (pos 1)

-- from degree 8 on their sizes add up to at most 76800 / (76800 - c) after c cells, and to at most 2
abbrev pub ProbabilitiesStaySmall : Type 0
ProbabilitiesStaySmall = (product : Product) (n month cells : ℕ) → IsAdmissible product → 8 ≤ n
    → month < product.months → cells ≤ 32
    → (whole (pos (76800 - (32 * month + cells))) *ℚ norm_of_vector Sum (probabilities_after product n month cells)
    ≤ℚ whole (pos 76800))
    × (norm_of_vector Sum (probabilities_after product n month cells) ≤ℚ whole (pos 2))
