-- Every cell of an admissible product is tame with the growth that the ledgers count.
use Rattle.product_cells.specs.EachCell.{backward_cell, forward_cell, plan_scaling, InEachCell}
use Rattle.frac_laws.specs.Bernstein.{binomial}
use Rattle.frac_laws.specs.Fraction.{◌*ℚ◌, ◌≤ℚ◌}
use Rattle.cell_laws.specs.Tame.{matrix_norm_at}
use Rattle.std.specs.Prelude.{ℕ, pos, ◌*◌, ◌^◌, ◌<◌}
use Rattle.frac_laws.specs.Fraction.{Fraction, over}
use Rattle.frac_laws.specs.Norms.{Sup, Sum}
use Rattle.cell_laws.specs.Tame.{IsTame, IsTamePair}
use Rattle.model_specs.specs.Product.{Product}
use Rattle.model_specs.specs.Payments.{Plan, payment_plan}
use Rattle.model_specs.specs.Growth.{kappa40, pay}
use Rattle.model_specs.specs.Ledgers.{scale}
use Rattle.model_specs.specs.ValuationRules.{IsAdmissible}
use Rattle.model_specs.specs.Systems.{thiele_system, norberg_pair, kolmogorov_system}
use Rattle.cell_bounds.specs.ScaledSystems.{scaled_system, scaled_pair}

-- Thiele's system of a cell, with values divided by the plan's G
abbrev pub ThieleCellsAreTame : Type 0
ThieleCellsAreTame = InEachCell (λ product plan month cell.
    IsTame Sup (kappa40 product month)
    (scaled_system (plan_scaling product plan) (thiele_system (backward_cell product plan month cell))))

-- the norm of each of its matrices, power by power
abbrev pub PowersAreSmall : Type 0
PowersAreSmall = InEachCell (λ product plan month cell. (m : ℕ) → m < 6
    → matrix_norm_at Sup (thiele_system (backward_cell product plan month cell)).matrices m
    ≤ℚ over (pos 17) 1536 *ℚ over (pos (binomial 5 m)) (16 ^ m))

-- Kolmogorov's system of a cell
abbrev pub KolmogorovCellsAreTame : Type 0
KolmogorovCellsAreTame = (product : Product) (month cell : ℕ) → IsAdmissible product → month < product.months
    → cell < 32 → IsTame Sum (kappa40 product month) (kolmogorov_system (forward_cell product month cell))

-- the coupling of a month: 2 pay / (1024 G)
abbrev pub coupling_of : Product → Plan → ℕ → Fraction
coupling_of product plan month = over (pos (2 * pay product plan month)) (1024 * 2 ^ scale product plan)

-- Norberg's pair of a cell, with this coupling
abbrev pub NorbergPairsAreTame : Type 0
NorbergPairsAreTame = (product : Product) (month cell : ℕ) → IsAdmissible product → month < product.months
    → cell < 32 → let plan = payment_plan product in
    IsTamePair (kappa40 product month) (coupling_of product plan month)
    (scaled_pair (plan_scaling product plan) (norberg_pair (backward_cell product plan month cell)))
