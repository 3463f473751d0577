-- The scaled runs are made of Taylor steps of tame systems, from starts of norm at most one, or two for probabilities.
use Rattle.std.specs.Prelude.{◌≡◌, ℕ, suc, pos, ◌-◌, ◌<◌, ◌≤◌, length}
use Rattle.frac_laws.specs.Fraction.{Fraction, whole, ◌*ℚ◌, ◌≤ℚ◌}
use Rattle.frac_laws.specs.Lists.{Vector, scale_list}
use Rattle.frac_laws.specs.Norms.{Norm, Sup, Sum, norm_of_vector}
use Rattle.cell_laws.specs.Systems.{System, taylor_value, KeepsDimension}
use Rattle.cell_laws.specs.Pairs.{CoupledPair, second_taylor_value}
use Rattle.cell_laws.specs.Tame.{IsTame, IsTamePair}
use Rattle.model_specs.specs.Product.{Product}
use Rattle.model_specs.specs.Payments.{Plan, payment_plan}
use Rattle.model_specs.specs.Growth.{kappa40}
use Rattle.model_specs.specs.Systems.{thiele_system, norberg_pair, kolmogorov_system}
use Rattle.model_specs.specs.ValuationRules.{IsAdmissible}
use Rattle.cell_bounds.specs.ScaledSystems.{scaled_system, scaled_pair}
use Rattle.product_cells.specs.EachCell.{backward_cell, forward_cell, plan_scaling}
use Rattle.product_laws.specs.TameCells.{coupling_of}
use Rattle.moment_laws.specs.CellRuns.{first_after_cells}
use Rattle.moment_laws.specs.MomentLaws.{OfBothPlans}
use Rattle.moment_laws.specs.SecondMomentLaws.{moments_after_cells}
use Rattle.probability_laws.specs.ProbabilityLaws.{probabilities_after}

-- a step of a tame system from a vector of at most some norm
pub record IsTameStep (norm : Norm) (kappa : ℕ) (most : Fraction) (s : System) (n : ℕ) (start answer : Vector) : Type 0
  where
    pub tame : IsTame norm kappa s
    pub keeps : KeepsDimension s
    pub fits : length start ≤ s.dimension
    pub starts : norm_of_vector norm start ≤ℚ most
    pub steps : answer ≡ taylor_value s start n

-- the first moments after some cells of a month, divided by the plan's G
abbrev pub scaled_first : Product → Plan → (n months done : ℕ) → Vector
scaled_first product plan n months done =
    scale_list (plan_scaling product plan) (first_after_cells product plan n months done)

-- the cell that comes next, after some cells of the month that ends some months before the term
abbrev pub next_cell : ℕ → ℕ
next_cell done = 32 - suc done

-- over that cell the scaled first moments make a step of a tame system
abbrev pub FirstMomentsStep : Type 0
FirstMomentsStep = OfBothPlans (λ product plan n. (months done : ℕ) → months < product.months → done < 32
    → let month = product.months - suc months in
    IsTameStep Sup (kappa40 product month) (whole (pos 1))
    (scaled_system (plan_scaling product plan) (thiele_system (backward_cell product plan month (next_cell done)))) n
    (scaled_first product plan n months done) (scaled_first product plan n months (suc done)))

-- a step of a tame pair from two vectors of norm at most 1
pub record IsTamePairStep (kappa : ℕ) (coupling : Fraction) (p : CoupledPair) (n : ℕ) (w z v x : Vector) : Type 0 where
  pub tame : IsTamePair kappa coupling p
  pub first_fits : length w ≤ p.first.dimension
  pub second_fits : length z ≤ p.second.dimension
  pub first_starts : norm_of_vector Sup w ≤ℚ whole (pos 1)
  pub second_starts : norm_of_vector Sup z ≤ℚ whole (pos 1)
  pub first_steps : v ≡ taylor_value p.first w n
  pub second_steps : x ≡ second_taylor_value p w z n

-- the first moments of the payment plan after some cells of a month, divided by G
abbrev pub both_first : Product → (n months done : ℕ) → Vector
both_first product n months done = scale_list (plan_scaling product (payment_plan product))
    (moments_after_cells product (payment_plan product) n months done).first

-- the second moments, divided by G^2
abbrev pub both_second : Product → (n months done : ℕ) → Vector
both_second product n months done =
    let h = plan_scaling product (payment_plan product) in
    scale_list (h *ℚ h) (moments_after_cells product (payment_plan product) n months done).second

-- over the cell that comes next both make a step of a tame pair
abbrev pub BothMomentsStep : Type 0
BothMomentsStep = (product : Product) (n months done : ℕ) → IsAdmissible product → 6 ≤ n → months < product.months
    → done < 32 → let month = product.months - suc months in let plan = payment_plan product in
    IsTamePairStep (kappa40 product month) (coupling_of product plan month)
    (scaled_pair (plan_scaling product plan) (norberg_pair (backward_cell product plan month (next_cell done)))) n
    (both_first product n months done) (both_second product n months done)
    (both_first product n months (suc done)) (both_second product n months (suc done))

-- the probabilities after some cells of a month
abbrev pub ProbabilitiesStep : Type 0
ProbabilitiesStep = (product : Product) (n month cells : ℕ) → IsAdmissible product → 8 ≤ n → month < product.months
    → cells < 32
    → IsTameStep Sum (kappa40 product month) (whole (pos 2)) (kolmogorov_system (forward_cell product month cells)) n
    (probabilities_after product n month cells) (probabilities_after product n month (suc cells))
