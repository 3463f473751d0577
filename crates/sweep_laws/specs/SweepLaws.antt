-- A sweep of rounded steps stays within the radius ledger of the exact runs.
use Rattle.std.specs.Prelude.{◌≡◌, ℕ, suc, pos, ◌-◌, ◌^◌, ◌<◌, ◌≤◌, [], length}
use Rattle.frac_laws.specs.Fraction.{Fraction, over, whole, ◌≤ℚ◌}
use Rattle.frac_laws.specs.Ledger.{grow}
use Rattle.frac_laws.specs.Lists.{Vector, add_lists, scale_list}
use Rattle.frac_laws.specs.Norms.{Norm, Sup, Sum, norm_of_vector}
use Rattle.cell_laws.specs.Systems.{System, taylor_value}
use Rattle.cell_laws.specs.ErrorLaws.{distance}
use Rattle.model_specs.specs.Product.{Product}
use Rattle.model_specs.specs.Payments.{Plan}
use Rattle.model_specs.specs.Growth.{kappa40}
use Rattle.model_specs.specs.Ledgers.{grow_cells, radius_before_term, radius_forward}
use Rattle.model_specs.specs.Systems.{thiele_system, kolmogorov_system}
use Rattle.model_specs.specs.Runs.{first_before_term, lump_vector, probabilities}
use Rattle.model_specs.specs.Cells.{Backward, cells_of_32}
use Rattle.model_specs.specs.ValuationRules.{IsAdmissible}
use Rattle.ledger_laws.specs.BeforeTermLaws.{radius_cells}
use Rattle.cell_bounds.specs.ScaledSystems.{scaled_system}
use Rattle.product_cells.specs.EachCell.{backward_cell, forward_cell, plan_scaling}
use Rattle.moment_laws.specs.MomentLaws.{OfBothPlans}
use Rattle.sweep_laws.specs.ScaledSteps.{scaled_first, next_cell}
use Rattle.probability_laws.specs.ProbabilityLaws.{probabilities_after}

-- n units of 2^-64
abbrev pub units : ℕ → Fraction
units n = over (pos n) (2 ^ 64)

-- what a rounded step promises: from each start of norm at most 2 within a radius of the old vector, the Taylor value
-- of degree n is within the grown radius of the new one
abbrev pub AnswersCell : Norm → System → ℕ → ℕ → Vector → Vector → Type 0
AnswersCell norm s kappa n old new = (y : Vector) (radius : ℕ) → length y ≤ s.dimension
    → norm_of_vector norm y ≤ℚ whole (pos 2) → distance norm y old ≤ℚ units radius → radius ≤ 2 ^ 45
    → distance norm (taylor_value s y n) new ≤ℚ units (grow radius kappa 1023)

-- a backward sweep: from nothing at the term, each date adds its lumps, divided by G, and each cell is a rounded step
pub record IsSweep (product : Product) (plan : Plan) (n : ℕ) (dates : ℕ → Vector) (cells : ℕ → ℕ → Vector) : Type 0
  where
    pub term : dates 0 ≡ []
    pub lumps : (months : ℕ) → months < product.months → cells months 0
        ≡ add_lists (dates months) (scale_list (plan_scaling product plan)
        (lump_vector product plan (suc (product.months - suc months))))
    pub steps : (months done : ℕ) → months < product.months → done < 32
        → AnswersCell Sup (scaled_system (plan_scaling product plan)
        (thiele_system (backward_cell product plan (product.months - suc months) (next_cell done))))
        (kappa40 product (product.months - suc months)) n (cells months done) (cells months (suc done))
    pub months : (months : ℕ) → months < product.months → dates (suc months) ≡ cells months 32

-- it stays within the radius ledger of the scaled run
pub record StaysNear (product : Product) (plan : Plan) (n : ℕ) (dates : ℕ → Vector) (cells : ℕ → ℕ → Vector) : Type 0
  where
    pub at_dates : (months : ℕ) → months ≤ product.months
        → distance Sup (scale_list (plan_scaling product plan)
        (first_before_term (cells_of_32 Backward) product plan n months)) (dates months)
        ≤ℚ units (radius_before_term product months)
    pub in_cells : (months done : ℕ) → months < product.months → done ≤ 32
        → distance Sup (scaled_first product plan n months done) (cells months done)
        ≤ℚ units (radius_cells product months done)

-- so each backward sweep does, of both plans
abbrev pub SweepsStayNear : Type 0
SweepsStayNear = OfBothPlans (λ product plan n. (dates : ℕ → Vector) (cells : ℕ → ℕ → Vector)
    → IsSweep product plan n dates cells → StaysNear product plan n dates cells)

-- a forward sweep of the probabilities
pub record IsForwardSweep (product : Product) (n : ℕ) (dates : ℕ → Vector) (cells : ℕ → ℕ → Vector) : Type 0 where
  pub issue : dates 0 ≡ probabilities product n 0
  pub starts : (month : ℕ) → month < product.months → cells month 0 ≡ dates month
  pub steps : (month done : ℕ) → month < product.months → done < 32
      → AnswersCell Sum (kolmogorov_system (forward_cell product month done)) (kappa40 product month) n
      (cells month done) (cells month (suc done))
  pub months : (month : ℕ) → month < product.months → dates (suc month) ≡ cells month 32

-- it stays within the forward radius ledger of the probabilities
pub record StaysForwardNear (product : Product) (n : ℕ) (dates : ℕ → Vector) (cells : ℕ → ℕ → Vector) : Type 0 where
  pub at_dates : (month : ℕ) → month ≤ product.months
      → distance Sum (probabilities product n month) (dates month) ≤ℚ units (radius_forward product month)
  pub in_cells : (month done : ℕ) → month < product.months → done ≤ 32
      → distance Sum (probabilities_after product n month done) (cells month done)
      ≤ℚ units (grow_cells (kappa40 product month) 1024 (radius_forward product month) done)

-- so each forward sweep does, in each degree from 8 on
abbrev pub ForwardSweepsStayNear : Type 0
ForwardSweepsStayNear = (product : Product) (n : ℕ) → IsAdmissible product → 8 ≤ n
    → (dates : ℕ → Vector) (cells : ℕ → ℕ → Vector)
    → IsForwardSweep product n dates cells → StaysForwardNear product n dates cells
